-- `chain::place_before` meets its contract: the loop's invariant: of the links looked at, the best is known. Assumes nothing.
use Rattle.places.specs.Roads.{on}
use Rattle.chain.proofs.Backwards.{Best}
use Rattle.chain.proofs.place_before.Given as goal

abbrev pub invariant-loop-j : goal.invariant-loop-j
invariant-loop-j l = on Best l.roads l.work l.v l.j l.best
