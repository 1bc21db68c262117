-- `plan::linking::link_one` meets its contract: the loop's invariant: what the fields swept show stands in its place. Assumes nothing.
use Rattle.floor.specs.Lent.{on}
use Rattle.plan.proofs.Fielding.{Fielded}
use Rattle.plan.proofs.linking.link_one.Given as goal

abbrev pub invariant-loop-field : goal.invariant-loop-field
invariant-loop-field l = on Fielded l.floor.grid l.cell l.initial.list l.from l.list l.end l.field
