-- `matching::tally_field` meets its contract: the loop's invariant: what the rows passed show is listed and counted. Assumes nothing.
use Rattle.floor.specs.Lent.{on}
use Rattle.fields.proofs.Rowed.{Rowed}
use Rattle.matching.proofs.Tallying.{Tallying}
use Rattle.matching.proofs.tally_field.Given as goal

abbrev pub invariant-loop-shown : goal.invariant-loop-shown
invariant-loop-shown l =
    on Rowed l.fn.floor.grid l.cell l.field (λ row ahead. on Tallying l.fn.floor.grid l.cell l.neighbours l.field row ahead l.sum) l.shown-iterator
