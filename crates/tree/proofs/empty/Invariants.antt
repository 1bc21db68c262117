-- `tree::empty` meets its contract. Assumes nothing.
use Rattle.tree.proofs.Keys.{Mending}
use Rattle.tree.proofs.empty.Given as goal

abbrev pub invariant-loop-i : goal.invariant-loop-i
invariant-loop-i l = Mending l.n l.initial.tree l.tree l.i l.best

abbrev pub decreases-loop-i : goal.decreases-loop-i
decreases-loop-i l = l.i
