-- `writing::put_floor` meets its contract: five numbers with their texts, one after the other, and a newline. Assumes nothing.
use Prim.Native.Nat.{◌+◌, ◌≤◌}
use native.Mathlib.Omega.{arith}
use lib.ListN.{length, length-append}
use Rattle.writing.specs.Answers.{named, spaced, floor_name, free_name, corners_name, arcs_name, floor_line}
use Rattle.writing.proofs.Puts.{grown_then, put_back}
use Rattle.writing.proofs.put_floor.Goals as goal
use Rattle.writing.proofs.put_floor.Goals.{Start}

-- the parts have room together
total : (s : Start)
    → length (named floor_name s.args.w) + length (spaced s.args.h) + length (named free_name s.args.free)
    + length (named corners_name s.args.k) + length (named arcs_name s.args.m) + 1 ≤ length s.args.out.now
unfolding floor_line
total s = omega (arith, simp length-append at s.requires)

pub named-requires : goal.named-requires
named-requires c = omega (arith, total (goal.at.named-requires c).Start)

pub spaced-requires : goal.spaced-requires
spaced-requires c = omega (arith, total (goal.at.spaced-requires c).Start)

pub named-requires-2 : goal.named-requires-2
named-requires-2 c = omega (arith, total (goal.at.named-requires-2 c).Start)

pub named-requires-3 : goal.named-requires-3
named-requires-3 c = omega (arith, total (goal.at.named-requires-3 c).Start)

pub named-requires-4 : goal.named-requires-4
named-requires-4 c = omega (arith, total (goal.at.named-requires-4 c).Start)

pub text-requires : goal.text-requires
text-requires c = omega (arith, total (goal.at.text-requires c).Start)

pub returns : goal.returns
unfolding floor_line
returns c =
    let g = grown_then (omega arith)
    (grown_then (omega arith)
    (grown_then (omega arith)
    (grown_then (omega arith) (grown_then (omega arith) c.named.ensures c.spaced.ensures) c.named-2.ensures)
    c.named-3.ensures)
    c.named-4.ensures)
    c.text.ensures in
    put_back (let s = g.same in grind arith) g.put
