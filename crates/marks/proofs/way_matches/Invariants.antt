-- `marks::way_matches` meets its contract: the loop's invariant: each entry passed is what the next one makes it. Assumes nothing.
use Rattle.floor.specs.Lent.{on}
use Rattle.corners.proofs.Walks.{Walked}
use Rattle.marks.specs.Marking.{WayAgrees}
use Rattle.marks.proofs.way_matches.Given as goal

abbrev pub invariant-loop-cell : goal.invariant-loop-cell
invariant-loop-cell l = Walked l.floor.grid.w l.floor.grid.h (λ n. on WayAgrees l.floor.grid l.clear l.dir n) l.cell-iterator
