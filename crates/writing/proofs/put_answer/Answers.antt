-- `writing::put_answer` meets its contract: six numbers, one after the other. Assumes nothing.
use Prim.Native.Nat.{◌+◌, ◌≤◌}
use native.Mathlib.Omega.{arith}
use lib.ListN.{length, length-append}
use Rattle.writing.specs.Numbers.{decimal}
use Rattle.writing.specs.Answers.{spaced, answer_numbers}
use Rattle.writing.proofs.Puts.{grown_then, put_back}
use Rattle.writing.proofs.put_answer.Goals as goal
use Rattle.writing.proofs.put_answer.Goals.{Start}

-- the parts have room together
total : (s : Start)
    → length (decimal s.args.code) + length (spaced s.args.a) + length (spaced s.args.b) + length (spaced s.args.cells)
    + length (spaced s.args.effort) + length (spaced s.args.figure) ≤ length s.args.out.now
unfolding answer_numbers
total s = omega (arith, simp length-append at s.requires)

pub number-requires : goal.number-requires
number-requires c = omega (arith, total (goal.at.number-requires c).Start)

pub spaced-requires : goal.spaced-requires
spaced-requires c = omega (arith, total (goal.at.spaced-requires c).Start)

pub spaced-requires-2 : goal.spaced-requires-2
spaced-requires-2 c = omega (arith, total (goal.at.spaced-requires-2 c).Start)

pub spaced-requires-3 : goal.spaced-requires-3
spaced-requires-3 c = omega (arith, total (goal.at.spaced-requires-3 c).Start)

pub spaced-requires-4 : goal.spaced-requires-4
spaced-requires-4 c = omega (arith, total (goal.at.spaced-requires-4 c).Start)

pub spaced-requires-5 : goal.spaced-requires-5
spaced-requires-5 c = omega (arith, total (goal.at.spaced-requires-5 c).Start)

pub returns : goal.returns
unfolding answer_numbers
returns c =
    let g = grown_then (omega arith)
    (grown_then (omega arith)
    (grown_then (omega arith)
    (grown_then (omega arith) (grown_then (omega arith) c.number.ensures c.spaced.ensures) c.spaced-2.ensures)
    c.spaced-3.ensures)
    c.spaced-4.ensures)
    c.spaced-5.ensures in
    put_back (let s = g.same in grind arith) g.put
