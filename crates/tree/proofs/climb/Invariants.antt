-- `tree::climb` meets its contract. Assumes nothing.
use Rattle.tree.proofs.Keys.{Climbing}
use Rattle.tree.proofs.climb.Given as goal

abbrev pub invariant-loop-i : goal.invariant-loop-i
invariant-loop-i l = Climbing l.n l.key l.initial.tree l.tree l.i

abbrev pub decreases-loop-i : goal.decreases-loop-i
decreases-loop-i l = l.i
