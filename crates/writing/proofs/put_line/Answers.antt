-- `writing::put_line` meets its contract: a text and a number, then a newline. Assumes nothing.
use Prim.Native.Nat.{◌+◌, ◌≤◌}
use native.Mathlib.Omega.{arith}
use lib.ListN.{length, length-append}
use Rattle.writing.specs.Answers.{named, number_line}
use Rattle.writing.proofs.Puts.{grown_then, put_back}
use Rattle.writing.proofs.put_line.Goals as goal
use Rattle.writing.proofs.put_line.Goals.{Start}

-- the parts have room together
total : (s : Start) → length (named s.args.name.now s.args.number) + 1 ≤ length s.args.out.now
unfolding number_line
total s = omega (arith, simp length-append at s.requires)

pub named-requires : goal.named-requires
named-requires c = omega (arith, total (goal.at.named-requires c).Start)

pub text-requires : goal.text-requires
text-requires c = omega (arith, total (goal.at.text-requires c).Start)

pub returns : goal.returns
unfolding number_line
returns c = let g = grown_then (omega arith) c.named.ensures c.text.ensures in put_back (let s = g.same in grind arith) g.put
