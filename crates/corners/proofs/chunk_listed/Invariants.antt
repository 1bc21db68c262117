-- `corners::chunk_listed` meets its contract: the loop's invariant: the first `to` entries are the turning points among the cells passed. Assumes nothing.
use Rattle.floor.specs.Lent.{of}
use Rattle.corners.specs.Listing.{Read}
use Rattle.corners.specs.Corners.{corner_cell}
use Rattle.corners.proofs.Chunks.{Left}
use Rattle.corners.proofs.chunk_listed.Given as goal

abbrev pub invariant-loop-i : goal.invariant-loop-i
invariant-loop-i l =
    Left l.floor.grid.w l.cell l.count (of corner_cell l.floor.grid) (λ n. Read (of corner_cell l.floor.grid) l.corners n l.to) l.i-iterator
