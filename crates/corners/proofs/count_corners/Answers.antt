-- `corners::count_corners` meets its contract: the loop's invariant: `count` is the number of turning points among the cells passed. Assumes nothing.
use Rattle.std.proofs.Common.{◌^◌, ◌<◌, ◌≤◌, length, sym, ◌∙◌, ap, arith}
use Rattle.std.specs.Int.Count.{ones}
use Rattle.std.proofs.lemmas.Nat.{ones-le}
use Rattle.floor.specs.Lent.{of}
use Rattle.corners.specs.Corners.{corner_cell}
use Rattle.corners.proofs.Selects.{select_none, select_few}
use Rattle.corners.proofs.Counts.{ones_counted}
use Rattle.corners.proofs.Walks.{walk_begins, next_span, cells_before, walk_on}
use Rattle.corners.proofs.count_corners.Goals as goal
use Rattle.corners.proofs.count_corners.Goals.{After-corner_bits}

pub loop-cell-init : goal.loop-cell-init
loop-cell-init c = walk_begins _ _ (c.into_iter-cell-iterator.ensures.into_iter_gives ∙ c.all_chunks-cell-items.ensures.same) (sym (ap length (select_none _)))

-- the mask fits
fits : (c : After-corner_bits) → c.corner_bits.result < 2 ^ 64
fits c = omega arith

-- so it has at most 64 ones
few : (c : After-corner_bits) → ones c.corner_bits.result ≤ 64
few c = ones-le 64 _ (fits c)

pub overflow_add-count : goal.overflow_add-count
overflow_add-count c =
    omega (arith, few (goal.at.overflow_add-count c).After-corner_bits, c.loop-cell.invariant.so, select_few (of corner_cell c.args.floor.now.grid) c.loop-cell.cell-iterator.cell)

pub loop-cell-preserved : goal.loop-cell-preserved
loop-cell-preserved c =
    let b = (goal.at.loop-cell-preserved c).After-corner_bits in
    let i = c.loop-cell.invariant in
    let n = c.in-Some.ensures.steps in
    walk_on i n.0 n.1 _ _ n.2
    (omega (arith, cells_before i n.0 n.1, ones_counted (of corner_cell c.args.floor.now.grid) c.corner_bits.result (fits b) (next_span i n.0 n.1) c.corner_bits.ensures))
