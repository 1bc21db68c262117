-- `corners::mark_corners` meets its contract: the loop's invariant: the turning points among the cells passed are written, and k is their number. Assumes nothing.
use Rattle.std.proofs.Common.{ℕ, ◌*◌, ◌≤◌, ◌≡◌, Bool, List, length, ◌∙◌, arith}
use Rattle.corners.specs.Lists.{select}
use Rattle.corners.specs.Listing.{Written}
use Rattle.corners.proofs.Selects.{select_grows}
use Rattle.corners.proofs.Chunks.{chunk_ends}
use Rattle.corners.proofs.Listed.{none_written, write_long, write_on, written_on}
use Rattle.corners.proofs.Walks.{walk_begins, next_span, cells_before, walk_on, walk_ends}
use Rattle.corners.proofs.mark_corners.Goals as goal

pub loop-cell-init : goal.loop-cell-init
loop-cell-init c = walk_begins _ _ (c.into_iter-cell-iterator.ensures.into_iter_gives ∙ c.all_chunks-cell-items.ensures.same) (none_written _ _)

-- the list keeps its length
long : {f : ℕ → Bool} {lent now : List ℕ} {k : ℕ} (n m : ℕ) → Written f lent n now k → n ≤ m → length (select f m) ≤ length lent →
    length now ≡ length lent
long {f} n m s l room = write_long f _ _ _ _ s (omega (arith, select_grows f n m l))

pub mark_chunk-k-requires : goal.mark_chunk-k-requires
mark_chunk-k-requires c =
    let g = c.args.floor.now.grid in
    let i = c.loop-cell.invariant in
    let n = c.in-Some.ensures.steps in
    let k = (next_span i n.0 n.1).chunk in
    let s = cells_before i n.0 n.1 in
    record {
      ready = (k, omega (arith, long c.in-Some.cell (g.w * g.h) s (omega (arith, chunk_ends k)) c.requires, c.requires));
      before = write_on _ _ _ _ _ s;
    }

pub loop-cell-preserved : goal.loop-cell-preserved
loop-cell-preserved c =
    let i = c.loop-cell.invariant in
    let n = c.in-Some.ensures.steps in
    walk_on i n.0 n.1 _ _ n.2 (written_on _ _ _ _ _ (cells_before i n.0 n.1) _ _ _ (omega arith) c.mark_chunk-k.ensures)

pub returns : goal.returns
returns c = (walk_ends c.loop-cell.invariant c.in-None.ensures.steps).list
