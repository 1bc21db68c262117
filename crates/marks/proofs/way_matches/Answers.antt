-- `marks::way_matches` meets its contract: chunk after chunk agrees. Assumes nothing.
use native.Mathlib.Omega.{arith}
use mathlib.Core.Path.{◌∙◌}
use Rattle.corners.proofs.Walks.{walk_begins, cells_before, walk_on}
use Rattle.marks.proofs.Orders.{agree_more}
use Rattle.marks.proofs.way_matches.Goals as goal

pub loop-cell-init : goal.loop-cell-init
loop-cell-init c = walk_begins _ _ (c.into_iter-cell-iterator.ensures.into_iter_gives ∙ c.all_chunks-cell-items.ensures.same) (λ k l. absurd (omega arith))

pub loop-cell-preserved : goal.loop-cell-preserved
loop-cell-preserved c =
    let i = c.loop-cell.invariant in
    let n = c.in-Some.ensures.steps in
    walk_on i n.0 n.1 _ _ n.2 (agree_more _ _ _ _ _ _ _ (cells_before i n.0 n.1) (c.chunk_matches.ensures.yes c.if-not-chunk_matches.false))
