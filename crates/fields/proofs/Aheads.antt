-- Steps in one direction on a floor: where they lead, and how far they can. Assumes nothing.
use Prim.Native.Nat.{ℕ, suc, ◌+◌, ◌-◌, ◌*◌, ◌≤◌, ◌<◌}
use mathlib.Core.Bool.{true}
use mathlib.Core.List.{List}
use mathlib.Core.Logic.{⊎_elim}
use mathlib.Core.Path.{◌≡◌, refl, ◌∙◌}
use native.Mathlib.Omega.{arith}
use lib.ListN.{get_or, replicate}
use Rattle.floor.specs.Board.{Place, at, Free, Dir, Offset, less, same, more, dx, dy, shift, moving}
use Rattle.windows.specs.Window.{InWindow}
use Rattle.floor.specs.Words.{board, Sized}
use Rattle.ground.specs.Kind.{walkers}
use Rattle.ground.specs.Walk.{Legal}
use Rattle.ground.specs.Clearance.{ahead}
use Rattle.ground.proofs.Logic.{true_or_false, not_both}
use Rattle.ground.proofs.Cells.{column_inside, row_inside}
use Rattle.ground.proofs.Near.{y_moves}
use Rattle.ground.proofs.Walks.{place_eq}
use Rattle.ground.proofs.Axes.{end_x, end_y}
use Rattle.ground.proofs.LineEnds.{hops, travel_replicate}
use Rattle.ground.proofs.Numbers.{within}
use Rattle.fields.proofs.Rays.{ray_free}

-- ---- what is free is a cell
module _ (w h : ℕ) (words : List ℕ) where
  -- the column of a cell that is free
  pub column_of_free : (x y : ℕ) → Free (board w h words) (at x y) → x < w
  column_of_free x y f = (within w h words).wide (suc x) (suc y) f

  -- and its row
  pub row_of_free : (x y : ℕ) → Free (board w h words) (at x y) → y < h
  row_of_free x y f = (within w h words).high (suc x) (suc y) f

-- ---- steps in one direction
-- the column that they lead to
pub ahead_x : (d : Dir) (k : ℕ) (p : Place) → (ahead d k p).x ≡ hops (dx d) k p.x
ahead_x d k p = end_x p (replicate k d) ∙ travel_replicate dx (dx d) k p.x d (λ _. refl)

-- and the row
pub ahead_y : (d : Dir) (k : ℕ) (p : Place) → (ahead d k p).y ≡ hops (dy d) k p.y
ahead_y d k p = end_y p (replicate k d) ∙ travel_replicate dy (dy d) k p.y d (λ _. refl)

-- between two numbers from 1 to 255 there are fewer than 255 hops
few_hops : (o : Offset) (n m v : ℕ) → moving o ≡ true → v ≡ hops o n m → 0 < m → m ≤ 255 → 0 < v → v ≤ 255 → n < 255
few_hops less n m v e q a b f g = let q' : v ≡ m - n = q in omega arith
few_hops same n m v e q a b f g = not_both e refl
few_hops more n m v e q a b f g = let q' : v ≡ m + n = q in omega arith

-- on a floor a free place is fewer than 255 steps from another
pub few_steps : (w h : ℕ) (words : List ℕ) → Sized w h words → (d : Dir) (n : ℕ) (p : Place) →
    Free (board w h words) p → Free (board w h words) (ahead d n p) → n < 255
few_steps w h words sized d n p f g =
    let in-floor = within w h words in
    ⊎_elim
    (λ m. few_hops (dx d) n p.x _ m (ahead_x d n p) (column_inside in-floor.padded f) (omega (arith, sized.wide, in-floor.wide _ _ f))
    (column_inside in-floor.padded g) (omega (arith, sized.wide, in-floor.wide _ _ g)))
    (λ m. few_hops (dy d) n p.y _ (y_moves d m) (ahead_y d n p) (row_inside in-floor.padded f) (omega (arith, sized.high, in-floor.high _ _ f))
    (row_inside in-floor.padded g) (omega (arith, sized.high, in-floor.high _ _ g)))
    (true_or_false (moving (dx d)))

-- so a legal ray has fewer steps, and a sweep fewer rows
pub few_rows : (w h : ℕ) (words : List ℕ) → Sized w h words → (d : Dir) (n : ℕ) (s : Place) → Legal walkers (board w h words) s (replicate n d) → n < 255
few_rows w h words sized d n s l =
    few_steps w h words sized d n s (ray_free (board w h words) d n 0 s l (omega arith)) (ray_free (board w h words) d n n s l (omega arith))

-- what code adds to a column or row for k hops, by the offset's place in a window
hops_added : (o : Offset) (k a e v : ℕ) → e ≡ shift o 1 → v ≡ hops o k (suc a) → 0 < v → (k ≤ a + e * k) × (suc (a + e * k - k) ≡ v)
hops_added o k a e v p q z = rw p (by o q)
  where
    by : (o : Offset) → v ≡ hops o k (suc a) → (k ≤ a + shift o 1 * k) × (suc (a + shift o 1 * k - k) ≡ v)
    by less q = let q' : v ≡ suc a - k = q in let r : (k ≤ a + 0 * k) × (suc (a + 0 * k - k) ≡ v) = omega arith in r
    by same q = let q' : v ≡ suc a = q in let r : (k ≤ a + 1 * k) × (suc (a + 1 * k - k) ≡ v) = omega arith in r
    by more q = let q' : v ≡ suc a + k = q in let r : (k ≤ a + 2 * k) × (suc (a + 2 * k - k) ≡ v) = omega arith in r

-- the cell k steps ahead of cell (x, y), as code computes it
pub record Added (d : Dir) (k x y : ℕ) (o : List ℕ) : Type 0 where
  pub column_fits : k ≤ x + get_or o 0 0 * k
  pub row_fits : k ≤ y + get_or o 1 0 * k
  pub there : at (x + get_or o 0 0 * k - k) (y + get_or o 1 0 * k - k) ≡ ahead d k (at x y)

-- it does so where the steps keep off row 0 and column 0
pub added : (d : Dir) (k x y : ℕ) (o : List ℕ) → InWindow d o → 0 < (ahead d k (at x y)).x → 0 < (ahead d k (at x y)).y → Added d k x y o
added d k x y o i p q =
    let column = hops_added (dx d) k x (get_or o 0 0) (ahead d k (at x y)).x i.column (ahead_x d k (at x y)) p in
    let row = hops_added (dy d) k y (get_or o 1 0) (ahead d k (at x y)).y i.row (ahead_y d k (at x y)) q in
    record { column_fits = column.0; row_fits = row.0; there = place_eq column.1 row.1 }
