-- `offers::follow_arcs` meets its contract. Assumes nothing.
use Rattle.places.specs.Roads.{on}
use Rattle.offers.proofs.Follows.{Following}
use Rattle.offers.proofs.follow_arcs.Given as goal

abbrev pub invariant-loop-c : goal.invariant-loop-c
invariant-loop-c l = on Following l.roads l.initial.work l.initial.tree l.u l.d 0 l.c-index l.work l.tree
