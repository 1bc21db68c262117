-- `plan::inserting::seek` meets its contract. The loop's invariant: the entries from i on are above t. Assumes nothing.
use Rattle.std.proofs.Common.{◌≤◌, ◌<◌, ℕ, length, get_or}
use Rattle.plan.proofs.inserting.seek.Given as goal

abbrev pub invariant-loop-i : goal.invariant-loop-i
invariant-loop-i l = (k : ℕ) → l.i ≤ k → k < length l.row → l.t < get_or l.row k 0
