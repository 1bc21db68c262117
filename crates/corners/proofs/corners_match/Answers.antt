-- `corners::corners_match` meets its contract: the loop's invariant: the first k entries are the turning points among the cells passed. Assumes nothing.
use Rattle.std.proofs.Common.{◌∙◌}
use Rattle.corners.proofs.Listed.{none_read, read_all}
use Rattle.corners.proofs.Walks.{walk_begins, walk_ends}
use Rattle.corners.proofs.corners_match.Goals as goal

pub loop-cell-init : goal.loop-cell-init
loop-cell-init c = walk_begins _ _ (c.into_iter-cell-iterator.ensures.into_iter_gives ∙ c.all_chunks-cell-items.ensures.same) (none_read _ _)

pub returns : goal.returns
returns c = read_all _ _ _ _ (walk_ends c.loop-cell.invariant c.in-None.ensures.steps)
