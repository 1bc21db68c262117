-- `corners::mark_chunk` meets its contract: the loop's invariant: the turning points among the cells passed are written, and `to` is their number. Assumes nothing.
use Rattle.floor.specs.Lent.{of}
use Rattle.corners.specs.Listing.{Written}
use Rattle.corners.specs.Corners.{corner_cell}
use Rattle.corners.proofs.Chunks.{Left}
use Rattle.corners.proofs.mark_chunk.Given as goal

abbrev pub invariant-loop-i : goal.invariant-loop-i
invariant-loop-i l =
    Left l.floor.grid.w l.cell l.count (of corner_cell l.floor.grid) (λ n. Written (of corner_cell l.floor.grid) l.initial.corners n l.corners l.to) l.i-iterator
