-- `lengths::compare` meets its contract: the signs of the differences decide, or the squares do. Assumes nothing.
use Prim.Native.Nat.{◌-◌, ◌*◌}
use borrow.Author.Tests.{ltb-true, ltb-false}
use mathlib.Core.Path.{sym, ◌∙◌}
use native.Mathlib.Omega.{arith}
use Rattle.lengths.specs.Lengths.{len_of}
use Rattle.lengths.specs.Laws.{same_pair, ≺_straight, ≺_diagonal, squares_less, squares_more, compare_less, compare_same, compare_more}
use Rattle.lengths.proofs.compare.Goals as goal

pub returns-then-b-d-2 : goal.returns-then-b-d-2
returns-then-b-d-2 c = sym (compare_same (same_pair c.if-a-c-2.true c.if-b-d-2.true))

pub returns-else-b-d-2 : goal.returns-else-b-d-2
returns-else-b-d-2 c = sym (compare_less (≺_diagonal _ _ (omega arith) (omega arith)))

pub returns-else-a-c-2 : goal.returns-else-a-c-2
returns-else-a-c-2 c = sym (compare_less (≺_straight _ _ (omega arith) (omega arith)))

pub returns-then-fewer : goal.returns-then-fewer
returns-then-fewer c =
    let x = c.args.x in
    let y = c.args.y in
    sym (compare_more (squares_less (len_of y) (len_of x) (omega arith) (omega arith)
    (ltb-true ((y.straight - x.straight) * (y.straight - x.straight)) (2 * ((x.diagonal - y.diagonal) * (x.diagonal - y.diagonal)))
    (sym c.fewer.ensures ∙ c.if-fewer.true))))

pub returns-then-a-c : goal.returns-then-a-c
returns-then-a-c c =
    let x = c.args.x in
    let y = c.args.y in
    sym (compare_less (squares_more (len_of y) (len_of x) (omega arith) (omega arith)
    (ltb-false ((y.straight - x.straight) * (y.straight - x.straight)) (2 * ((x.diagonal - y.diagonal) * (x.diagonal - y.diagonal)))
    (sym c.fewer.ensures ∙ c.if-fewer.false))))

pub returns-then-d-b : goal.returns-then-d-b
returns-then-d-b c = sym (compare_more (≺_straight _ _ (omega arith) (omega arith)))

pub returns-then-fewer-2 : goal.returns-then-fewer-2
returns-then-fewer-2 c = sym (compare_less (squares_less _ _ (omega arith) (omega arith) (ltb-true _ _ (sym c.fewer-2.ensures ∙ c.if-fewer-2.true))))

pub returns : goal.returns
returns c = sym (compare_more (squares_more _ _ (omega arith) (omega arith) (ltb-false _ _ (sym c.fewer-2.ensures ∙ c.if-fewer-2.false))))
