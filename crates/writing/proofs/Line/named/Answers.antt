-- `writing::Line::named` meets its contract: a text, then a number. Assumes nothing.
use Prim.Native.Nat.{◌+◌, ◌≤◌}
use native.Mathlib.Omega.{arith}
use lib.ListN.{length, length-append}
use Rattle.writing.specs.Numbers.{decimal}
use Rattle.writing.specs.Answers.{named}
use Rattle.writing.proofs.Puts.{grown_then}
use Rattle.writing.proofs.Line.named.Goals as goal
use Rattle.writing.proofs.Line.named.Goals.{Start}

-- the parts have room together
total : (s : Start) → s.args.self.now.used + (length s.args.name.now + length (decimal s.args.number)) ≤ length s.args.self.now.out.now
unfolding named
total s = omega (arith, simp length-append at s.requires)

pub text-requires : goal.text-requires
text-requires c = omega (arith, total (goal.at.text-requires c).Start)

pub number-requires : goal.number-requires
number-requires c = omega (arith, total (goal.at.number-requires c).Start)

pub returns : goal.returns
unfolding named
returns c = grown_then (omega (arith, total (goal.at.returns c).Start)) c.text.ensures c.number.ensures
