-- `replying::put_reply` meets its contract: the numbers, the cells of a route and the newline stand one after the other.
-- Assumes nothing.
use Prim.Native.Nat.{◌≤◌}
use mathlib.Core.Path.{sym, subst}
use native.Mathlib.Omega.{arith}
use lib.ListN.{length, take, length-append}
use lib.Seq.{length-take-le}
use Rattle.writing.specs.Answers.{Put, route_cells}
use Rattle.writing.proofs.Puts.{put_then, put_same}
use Rattle.replying.proofs.Printing.{numbers_with, same_answer, line_zero, line_other, numbers_short, cells_short}
use Rattle.replying.proofs.put_reply.Goals as goal
use Rattle.replying.proofs.put_reply.Goals.{After-figure, After-put_answer-end, Then-a-eq0}

-- the numbers with the figure that was computed are at most 125 bytes
few : (c : After-figure) → let a = c.args in length (numbers_with a.a a.route.now c.figure.result c.figure.ensures) ≤ 125
few c =
    numbers_short c.args.a c.args.route.now c.figure.result c.figure.ensures
    (record { code = omega arith; straight = omega arith; diagonal = omega arith; cells = omega arith; effort = omega arith })

pub put_answer-end-requires : goal.put_answer-end-requires
put_answer-end-requires c =
    rw (c.from.ensures, c.from-2.ensures, c.from-3.ensures, c.from-4.ensures, c.from-5.ensures)
    (omega (arith, few (goal.at.put_answer-end-requires c).After-figure, c.requires.1))

-- the numbers that were written are the answer's
told : (c : After-put_answer-end) → let a = c.args in Put a.out.now c.put_answer-end.new.out 0 c.put_answer-end.result (numbers_with a.a a.route.now c.figure.result c.figure.ensures)
told c = put_same (same_answer c.figure.result c.from.ensures c.from-2.ensures c.from-3.ensures c.from-4.ensures c.from-5.ensures) c.put_answer-end.ensures

-- the cells of the route are at most 98,306 bytes
long : (c : Then-a-eq0) → let a = c.args in length (route_cells (take a.a.cells a.route.now)) ≤ 98306
long c = cells_short c.args.a c.args.route.now c.requires.0 (λ i. omega (arith, c.type_inv.route i)) c.if-a-eq0.true

pub put_route-last-requires : goal.put_route-last-requires
put_route-last-requires c =
    let at = goal.at.put_route-last-requires c in
    omega (arith, few at.After-figure, long at.Then-a-eq0, (told at.After-put_answer-end).ends, c.put_answer-end.auto.out, c.requires.1)

pub put_newline-requires : goal.put_newline-requires
put_newline-requires c =
    let at = goal.at.put_newline-requires c in
    omega (
      arith,
      few at.After-figure,
      long at.Then-a-eq0,
      (told at.After-put_answer-end).ends,
      c.put_answer-end.auto.out,
      c.put_route-last.ensures.ends,
      c.put_route-last.auto.out,
      c.requires.1,
    )

pub returns-then-a-eq0 : goal.returns-then-a-eq0
returns-then-a-eq0 c =
    let at = goal.at.returns-then-a-eq0 c in
    let e = line_zero c.args.a c.args.route.now c.figure.result c.figure.ensures c.if-a-eq0.true in
    record {
      put = put_same e (put_then (omega arith) (put_then (omega arith) (told at.After-put_answer-end) c.put_route-last.ensures) c.put_newline.ensures);
      short = subst (λ l. length l ≤ 98432) e (simp length-append (omega (arith, few at.After-figure, long at.Then-a-eq0)));
    }

pub put_newline-requires-2 : goal.put_newline-requires-2
put_newline-requires-2 c =
    let at = goal.at.put_newline-requires-2 c in
    omega (arith, few at.After-figure, (told at.After-put_answer-end).ends, c.put_answer-end.auto.out, c.requires.1)

pub returns : goal.returns
returns c =
    let e = line_other c.args.a c.args.route.now c.figure.result c.figure.ensures c.if-a-eq0.false in
    record {
      put = put_same e (put_then (omega arith) (told (goal.at.returns c).After-put_answer-end) c.put_newline-2.ensures);
      short = subst (λ l. length l ≤ 98432) e (simp length-append (omega (arith, few (goal.at.returns c).After-figure)));
    }
