-- `matching::rows_match` meets its contract: the loop's invariant: each turning point passed has its neighbours. Assumes nothing.
use Rattle.std.proofs.Common.{ℕ, suc, ◌<◌, get_or}
use Rattle.floor.specs.Lent.{of, on}
use Rattle.ground.specs.Kind.{walkers}
use Rattle.corners.specs.Lists.{part, Picked}
use Rattle.corners.specs.Corners.{corner_cells}
use Rattle.plan.specs.Plan.{LinkedCells}
use Rattle.matching.proofs.rows_match.Given as goal

abbrev pub invariant-loop-k : goal.invariant-loop-k
invariant-loop-k l =
    (j : ℕ) → j < l.k →
    Picked (on (LinkedCells walkers) l.floor.grid (get_or l.plan.corners.now j 0)) (of corner_cells l.floor.grid)
    (part l.plan.neighbours.now (get_or l.plan.starts.now j 0) (get_or l.plan.starts.now (suc j) 0))
