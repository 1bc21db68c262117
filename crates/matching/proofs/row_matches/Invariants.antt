-- `matching::row_matches` meets its contract: the loop's invariant: what the fields passed show is listed and counted. Assumes nothing.
use Rattle.floor.specs.Lent.{on}
use Rattle.matching.specs.Matching.{Tallied}
use Rattle.matching.proofs.row_matches.Given as goal

abbrev pub invariant-loop-field : goal.invariant-loop-field
invariant-loop-field l = on Tallied l.floor.grid l.cell l.neighbours l.field 0 l.count
