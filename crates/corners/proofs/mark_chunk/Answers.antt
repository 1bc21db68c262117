-- `corners::mark_chunk` meets its contract: the loop's invariant: the turning points among the cells passed are written, and `to` is their number. Assumes nothing.
use Rattle.std.proofs.Common.{ℕ, ◌+◌, ◌*◌, ◌≤◌, ◌<◌, ◌≡◌, Bool, true, List, ◌∙◌, arith}
use Rattle.floor.specs.Lent.{of}
use Rattle.corners.specs.Listing.{Written}
use Rattle.corners.specs.Corners.{corner_cell}
use Rattle.corners.proofs.Selects.{select_few}
use Rattle.corners.proofs.Chunks.{GoesOn, chunk_ends, all_left, before_next, next_passes, left_after, none_left}
use Rattle.corners.proofs.Listed.{write_room, write_taken, write_none}
use Rattle.corners.proofs.mark_chunk.Goals as goal
use Rattle.corners.proofs.mark_chunk.Goals.{In-Some}

-- what is written stays so where no cell is a turning point
on : (f : ℕ → Bool) (lent now : List ℕ) (k : ℕ) → GoesOn f (λ n. Written f lent n now k)
on f lent now k a b s = write_none f lent now a k s b

pub loop-i-init : goal.loop-i-init
loop-i-init c = all_left _ _ _ (c.into_iter-i-iterator.ensures.into_iter_gives ∙ c.bits-i-items.ensures) c.corner_bits.ensures c.requires.before

-- the turning points before the next one are written
here : (c : In-Some) → let a = c.args in Written (of corner_cell a.floor.now.grid) a.corners.now (a.cell + c.in-Some.i) c.loop-i.corners c.loop-i.to
here c =
    let a = c.args in
    let n = c.in-Some.ensures.steps in
    before_next c.requires.ready.0 (of corner_cell a.floor.now.grid) _ (on _ _ _ _) _ c.loop-i.invariant _ n.0 n.1

-- its cell is one of the floor's
inside : (c : In-Some) → let a = c.args in a.cell + c.in-Some.i < a.floor.now.grid.w * a.floor.now.grid.h
inside c = omega (arith, chunk_ends c.requires.ready.0, c.in-Some.ensures.steps.1, c.loop-i.invariant.all)

-- which are few
small : (c : In-Some) → c.args.cell + c.in-Some.i < 16384
small c = omega (arith, inside c, c.args.floor.now.good.few_cells)

-- and it is one
told : (c : In-Some) → let a = c.args in of corner_cell a.floor.now.grid (a.cell + c.in-Some.i) ≡ true
told c =
    let a = c.args in
    let n = c.in-Some.ensures.steps in
    next_passes c.requires.ready.0 (of corner_cell a.floor.now.grid) _ (on _ _ _ _) _ c.loop-i.invariant _ n.0 n.1

-- no more turning points than cells are passed
few : (c : In-Some) → c.loop-i.to ≤ 16384
few c =
    let a = c.args in
    omega (arith, small c, (here c).count, select_few (of corner_cell a.floor.now.grid) (a.cell + c.in-Some.i))

pub bounds-corners-to : goal.bounds-corners-to
bounds-corners-to c =
    let b = (goal.at.bounds-corners-to c).In-Some in
    write_room _ _ _ _ _ (here b) _ (inside b) (told b) c.requires.ready.1

pub loop-i-preserved : goal.loop-i-preserved
loop-i-preserved c =
    let b = (goal.at.loop-i-preserved c).In-Some in
    let a = c.args in
    let n = c.in-Some.ensures.steps in
    left_after c.requires.ready.0 (of corner_cell a.floor.now.grid) _ (on _ _ _ _) _ c.loop-i.invariant _ n.0 n.1 _ _ n.2
    (write_taken _ _ _ _ _ (here b) _ (inside b) (told b) c.requires.ready.1)

pub returns : goal.returns
returns c =
    let a = c.args in
    none_left c.requires.ready.0 (of corner_cell a.floor.now.grid) _ (on _ _ _ _) _ c.loop-i.invariant c.in-None.ensures.steps

pub overflow_add-corners : goal.overflow_add-corners
overflow_add-corners c = omega (arith, small (goal.at.overflow_add-corners c).In-Some)

pub overflow_cast-corners : goal.overflow_cast-corners
overflow_cast-corners c = omega (arith, small (goal.at.overflow_cast-corners c).In-Some)

pub offset_bounds-corners-to : goal.offset_bounds-corners-to
offset_bounds-corners-to c = omega (arith, few (goal.at.offset_bounds-corners-to c).In-Some)

pub overflow_add-to : goal.overflow_add-to
overflow_add-to c = omega (arith, few (goal.at.overflow_add-to c).In-Some)
