-- `corners::mark_corners` meets its contract: the loop's invariant: the turning points among the cells passed are written, and k is their number. Assumes nothing.
use Rattle.floor.specs.Lent.{of}
use Rattle.corners.specs.Listing.{Written}
use Rattle.corners.specs.Corners.{corner_cell}
use Rattle.corners.proofs.Walks.{Walked}
use Rattle.corners.proofs.mark_corners.Given as goal

abbrev pub invariant-loop-cell : goal.invariant-loop-cell
invariant-loop-cell l = Walked l.floor.grid.w l.floor.grid.h (λ n. Written (of corner_cell l.floor.grid) l.initial.corners n l.corners l.k) l.cell-iterator
