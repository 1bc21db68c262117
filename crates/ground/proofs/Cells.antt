-- The cells round a place that is no turning point: where both straight neighbours are free, so is the diagonal one.
-- Assumes nothing.
use mathlib.Core.Path.{◌≡◌, refl, sym, ap, subst}
use mathlib.Core.Bool.{Bool, true, false, not, ◌&&◌, ◌||◌}
use mathlib.Core.Logic.{◌⊎◌, inl, inr, ⊎_elim}
use Prim.Native.Nat.{ℕ, zero, suc, pred, ◌<◌}
use native.Mathlib.Omega.{arith}
use Rattle.floor.specs.Board.{Board, Padded, Place, Free, Dir, NE, SE, SW, NW, Offset, less, same, more, dx, dy, shift, go, moving, slanted, step, nook, corner}
use Rattle.ground.proofs.Logic.{true_or_false, not_both, and_left, and_right, and_both, or_left, or_right}

-- the offset that leads back
abbrev pub back : Offset → Offset
back less = more
back same = same
back more = less

-- down and up again, from above 0
suc_pred : {n : ℕ} → 0 < n → suc (pred n) ≡ n
suc_pred h = omega arith

-- there and back is nothing, from above 0
pub back_undoes : (o : Offset) {n : ℕ} → 0 < n → shift (back o) (shift o n) ≡ n
back_undoes less h = suc_pred h
back_undoes same h = refl
back_undoes more h = refl

-- what holds somewhere, and not at 0, holds above 0
pub above_zero : (f : ℕ → Bool) → f 0 ≡ false → (n : ℕ) → f n ≡ true → 0 < n
above_zero f z zero t = not_both t z
above_zero f z (suc n) t = omega arith

module _ {B : Board} (padded : Padded B) where
  -- a free place is in no column 0
  pub column_inside : {x y : ℕ} → B x y ≡ true → 0 < x
  column_inside {x} {y} h = above_zero (λ n. B n y) (padded.column y) x h

  -- and in no row 0
  pub row_inside : {x y : ℕ} → B x y ≡ true → 0 < y
  row_inside {x} {y} h = above_zero (λ n. B x n) (padded.row x) y h

-- a turning point is free
pub corner_free : (B : Board) (p : Place) → corner B p ≡ true → Free B p
unfolding corner
corner_free B p turns = and_left (B p.x p.y) _ turns

-- Round the place x, y no diagonal neighbour is blocked behind two free straight ones.
abbrev pub Smooth : Board → ℕ → ℕ → Type 0
Smooth B x y =
    (h v : Offset) → B (shift h x) y ≡ true → B x (shift v y) ≡ true → B (shift h x) (shift v y) ≡ true

module _ (B : Board) (x y : ℕ) (free : B x y ≡ true) (plain : corner B (record { x = x; y = y }) ≡ false) where
  -- the place x, y
  abbrev here : Place
  here = record { x = x; y = y }

  -- whether it has a blocked diagonal neighbour behind two free straight ones
  abbrev nooks : Bool
  nooks = nook B NE here || (nook B SE here || (nook B SW here || nook B NW here))

  -- at a plain free place the diagonal neighbour in direction d is free where the two straight ones are
  no_nook : (d : Dir) → (nook B d here ≡ true → nooks ≡ true) → B (shift (dx d) x) y ≡ true → B x (shift (dy d) y) ≡ true →
      B (shift (dx d) x) (shift (dy d) y) ≡ true
  unfolding corner nook
  no_nook d is_one p q =
      ⊎_elim (λ t. t) (λ f. not_both (and_both free (is_one (and_both (ap not f) (and_both p q)))) plain)
      (true_or_false (B (shift (dx d) x) (shift (dy d) y)))

  -- at a free place that is no turning point, two free straight neighbours make the diagonal one free
  pub smooth : Smooth B x y
  smooth same v p q = q
  smooth less same p q = p
  smooth more same p q = p
  smooth more less p q = no_nook NE (or_left _ _) p q
  smooth more more p q = no_nook SE (λ n. or_right (nook B NE here) _ (or_left _ _ n)) p q
  smooth less more p q = no_nook SW (λ n. or_right (nook B NE here) _ (or_right (nook B SE here) _ (or_left _ _ n))) p q
  smooth less less p q =
      no_nook NW (λ n. or_right (nook B NE here) _ (or_right (nook B SE here) _ (or_right (nook B SW here) _ n))) p q

-- The cells that a step asks for, and the board seen with rows and columns exchanged.
abbrev pub Cells : Board → Offset → Offset → ℕ → ℕ → Type 0
Cells B h v x y = (B (shift h x) (shift v y) ≡ true) × (B (shift h x) y ≡ true) × (B x (shift v y) ≡ true)

-- an offset that does not move is the middle one
pub is_same : (o : Offset) → moving o ≡ false → same ≡ o
is_same less m = not_both refl m
is_same same m = refl
is_same more m = not_both refl m

-- a legal step from a free place has all its cells free
pub step_cells : (B : Board) (d : Dir) (p : Place) → Free B p → step B d p ≡ true → Cells B (dx d) (dy d) p.x p.y
unfolding step
step_cells B d p free h = by (true_or_false (moving (dx d))) (true_or_false (moving (dy d)))
  where
    target : B (shift (dx d) p.x) (shift (dy d) p.y) ≡ true
    target = and_left _ (not (slanted d) || (B (shift (dx d) p.x) p.y && B p.x (shift (dy d) p.y))) h

    sides : (not (slanted d) || (B (shift (dx d) p.x) p.y && B p.x (shift (dy d) p.y))) ≡ true
    sides = and_right (B (shift (dx d) p.x) (shift (dy d) p.y)) _ h

    by : (moving (dx d) ≡ true) ⊎ (moving (dx d) ≡ false) → (moving (dy d) ≡ true) ⊎ (moving (dy d) ≡ false) → Cells B (dx d) (dy d) p.x p.y
    by (inl m) (inl n) =
        let both : (B (shift (dx d) p.x) p.y && B p.x (shift (dy d) p.y)) ≡ true = rw (m, n) at sides in
        (target, and_left _ (B p.x (shift (dy d) p.y)) both, and_right (B (shift (dx d) p.x) p.y) _ both)
    by (inr m) n = (
      target,
      subst (λ (o : Offset). B (shift o p.x) p.y ≡ true) (is_same (dx d) m) free,
      subst (λ (o : Offset). B (shift o p.x) (shift (dy d) p.y) ≡ true) (sym (is_same (dx d) m)) target,
    )
    by (inl m) (inr n) = (
      target,
      subst (λ (o : Offset). B (shift (dx d) p.x) (shift o p.y) ≡ true) (sym (is_same (dy d) n)) target,
      subst (λ (o : Offset). B p.x (shift o p.y) ≡ true) (is_same (dy d) n) free,
    )

-- and where all are free the step is legal
pub cells_step : (B : Board) (d : Dir) (p : Place) → Cells B (dx d) (dy d) p.x p.y → step B d p ≡ true
unfolding step
cells_step B d p c = and_both c.0 (or_right (not (slanted d)) _ (and_both c.1 c.2))

-- a straight step asks for its target only
pub straight_legal : (B : Board) (d : Dir) (p : Place) → slanted d ≡ false → Free B (go d p) → step B d p ≡ true
unfolding step
straight_legal B d p m f = and_both f (or_left (not (slanted d)) _ (ap not m))

-- rows and columns exchanged
abbrev pub turned : Board → Board
turned B x y = B y x

-- the exchanged board is smooth where the board is
abbrev pub turn_smooth : (B : Board) (x y : ℕ) → Smooth B x y → Smooth (turned B) y x
turn_smooth B x y s = λ h v p q. s v h q p

-- and padded
abbrev pub turn_padded : {B : Board} → Padded B → Padded (turned B)
turn_padded p = record { row = λ x. p.column x; column = λ y. p.row y }
