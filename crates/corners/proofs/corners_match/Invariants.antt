-- `corners::corners_match` meets its contract: the loop's invariant: the first k entries are the turning points among the cells passed. Assumes nothing.
use Rattle.floor.specs.Lent.{of}
use Rattle.corners.specs.Listing.{Read}
use Rattle.corners.specs.Corners.{corner_cell}
use Rattle.corners.proofs.Walks.{Walked}
use Rattle.corners.proofs.corners_match.Given as goal

abbrev pub invariant-loop-cell : goal.invariant-loop-cell
invariant-loop-cell l = Walked l.floor.grid.w l.floor.grid.h (λ n. Read (of corner_cell l.floor.grid) l.corners n l.k) l.cell-iterator
