-- `plan::linking::link` meets its contract: the loop's invariant: starts and neighbours of the turning points passed are written. Assumes nothing.
use Rattle.floor.specs.Lent.{on}
use Rattle.plan.proofs.Linkings.{Linking}
use Rattle.plan.proofs.linking.link.Given as goal

abbrev pub invariant-loop-i : goal.invariant-loop-i
invariant-loop-i l = on Linking l.floor.grid l.corners l.initial.starts l.initial.list l.starts l.list l.m l.i
