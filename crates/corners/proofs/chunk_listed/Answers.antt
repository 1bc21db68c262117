-- `corners::chunk_listed` meets its contract: the loop's invariant: the first `to` entries are the turning points among the cells passed. Assumes nothing.
use Rattle.std.proofs.Common.{ℕ, ◌+◌, ◌≤◌, ◌<◌, ◌≡◌, Bool, true, List, sym, ◌∙◌, arith}
use Rattle.floor.specs.Lent.{of}
use Rattle.corners.specs.Listing.{Read}
use Rattle.corners.specs.Corners.{corner_cell}
use Rattle.corners.proofs.Selects.{select_few}
use Rattle.corners.proofs.Chunks.{GoesOn, chunk_ends, all_left, before_next, next_passes, left_after, none_left}
use Rattle.corners.proofs.Listed.{read_taken, read_none, refused_told}
use Rattle.corners.proofs.chunk_listed.Goals as goal
use Rattle.corners.proofs.chunk_listed.Goals.{In-Some}

-- what is read stays so where no cell is a turning point
on : (f : ℕ → Bool) (xs : List ℕ) (k : ℕ) → GoesOn f (λ n. Read f xs n k)
on f xs k a b s = read_none f xs a k s b

pub loop-i-init : goal.loop-i-init
loop-i-init c = all_left _ _ _ (c.into_iter-i-iterator.ensures.into_iter_gives ∙ c.bits-i-items.ensures) c.corner_bits.ensures c.requires.before

-- the turning points before the next one are read
here : (c : In-Some) → let a = c.args in Read (of corner_cell a.floor.now.grid) a.corners.now (a.cell + c.in-Some.i) c.loop-i.to
here c =
    let a = c.args in
    let n = c.in-Some.ensures.steps in
    before_next c.requires.ready (of corner_cell a.floor.now.grid) _ (on _ _ _) _ c.loop-i.invariant _ n.0 n.1

-- its cell is one of the floor's, which are few
small : (c : In-Some) → c.args.cell + c.in-Some.i < 16384
small c = omega (arith, chunk_ends c.requires.ready, c.in-Some.ensures.steps.1, c.loop-i.invariant.all, c.args.floor.now.good.few_cells)

-- and it is one
told : (c : In-Some) → let a = c.args in of corner_cell a.floor.now.grid (a.cell + c.in-Some.i) ≡ true
told c =
    let a = c.args in
    let n = c.in-Some.ensures.steps in
    next_passes c.requires.ready (of corner_cell a.floor.now.grid) _ (on _ _ _) _ c.loop-i.invariant _ n.0 n.1

-- no more turning points than cells are passed
few : (c : In-Some) → c.loop-i.to ≤ 16384
few c =
    let a = c.args in
    omega (arith, small c, (here c).count, select_few (of corner_cell a.floor.now.grid) (a.cell + c.in-Some.i))

pub loop-i-preserved : goal.loop-i-preserved
loop-i-preserved c =
    let b = (goal.at.loop-i-preserved c).In-Some in
    let a = c.args in
    let n = c.in-Some.ensures.steps in
    left_after c.requires.ready (of corner_cell a.floor.now.grid) _ (on _ _ _) _ c.loop-i.invariant _ n.0 n.1 _ _ n.2
    (read_taken _ _ _ _ (here b) (told b) (sym c.if-not-is_entry.ensures))

pub returns-then-not-is_entry : goal.returns-then-not-is_entry
returns-then-not-is_entry c =
    let b = (goal.at.returns-then-not-is_entry c).In-Some in
    refused_told _ _ _ _ (here b) _ (omega (arith, c.in-Some.ensures.steps.1, c.loop-i.invariant.all)) (told b) (sym c.if-not-is_entry.ensures)

pub returns : goal.returns
returns c =
    let a = c.args in
    none_left c.requires.ready (of corner_cell a.floor.now.grid) _ (on _ _ _) _ c.loop-i.invariant c.in-None.ensures.steps

pub overflow_add-cell : goal.overflow_add-cell
overflow_add-cell c = omega (arith, small (goal.at.overflow_add-cell c).In-Some)

pub overflow_add-to : goal.overflow_add-to
overflow_add-to c = omega (arith, few (goal.at.overflow_add-to c).In-Some)
