-- `plan::linking::link_field` meets its contract: the loop's invariant: what the rows passed show stands in its place. Assumes nothing.
use Rattle.floor.specs.Lent.{on}
use Rattle.fields.proofs.Rowed.{Rowed}
use Rattle.plan.proofs.Sweeping.{Swept}
use Rattle.plan.proofs.linking.link_field.Given as goal

abbrev pub invariant-loop-shown : goal.invariant-loop-shown
invariant-loop-shown l =
    on Rowed l.fn.floor.grid l.cell l.field (λ row ahead. on Swept l.fn.floor.grid l.cell l.field l.initial.list l.from l.m l.list l.end row ahead) l.shown-iterator
