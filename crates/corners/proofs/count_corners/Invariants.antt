-- `corners::count_corners` meets its contract: the loop's invariant: `count` is the number of turning points among the cells passed. Assumes nothing.
use Rattle.std.proofs.Common.{◌≡◌, length}
use Rattle.floor.specs.Lent.{of}
use Rattle.corners.specs.Lists.{select}
use Rattle.corners.specs.Corners.{corner_cell}
use Rattle.corners.proofs.Walks.{Walked}
use Rattle.corners.proofs.count_corners.Given as goal

abbrev pub invariant-loop-cell : goal.invariant-loop-cell
invariant-loop-cell l = Walked l.floor.grid.w l.floor.grid.h (λ n. l.count ≡ length (select (of corner_cell l.floor.grid) n)) l.cell-iterator
