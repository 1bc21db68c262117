-- `places::index_corners` meets its contract. Assumes nothing.
use Rattle.places.proofs.Cells.{Indexing}
use Rattle.places.proofs.index_corners.Given as goal

abbrev pub invariant-loop-i : goal.invariant-loop-i
invariant-loop-i l = Indexing l.corners l.initial.table l.i l.table
