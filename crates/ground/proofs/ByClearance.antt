-- A free place of a bounded board has exactly one clearance in each direction.
-- Assumes nothing.
use mathlib.Core.Path.{◌≡◌, refl}
use mathlib.Core.Bool.{true, false, ◌&&◌}
use mathlib.Core.Logic.{◌⊎◌, inl, inr, ⊎_elim}
use Prim.Native.Nat.{ℕ, zero, suc, ◌+◌, ◌-◌, ◌≤◌, ◌<◌}
use native.Mathlib.Omega.{arith}
use native.Mathlib.Decide.{dec_le}
use lib.Dec.{ltb}
use lib.ListN.{replicate}
use borrow.Author.Tests.{ltb-true, lt-ltb}
use Rattle.lengths.specs.Laws.{le_or_lt}
use Rattle.floor.specs.Board.{Board, Place, Free, Dir, Offset, less, same, more, dx, dy, moving, corner}
use Rattle.ground.specs.Clearance.{ahead, Clearance}
use Rattle.ground.specs.Within.{Within}
use Rattle.ground.proofs.Logic.{true_or_false, not_both, and_left, and_right}
use Rattle.ground.proofs.Near.{y_moves}
use Rattle.ground.proofs.Axes.{end_x, end_y}
use Rattle.ground.proofs.LineEnds.{hops, travel_replicate}

-- a row that is free for k steps and plain before the last is no longer than the clearance
within_clearance : (B : Board) (c : Dir) (p : Place) (m k : ℕ) → Clearance B c p m → ((j : ℕ) → j ≤ k → Free B (ahead c j p)) →
    ((j : ℕ) → 0 < j → j < k → corner B (ahead c j p) ≡ false) → k ≤ m
within_clearance B c p m k h f g = by (dec_le k m)
  where
    by : Dec (k ≤ m) → k ≤ m
    by (yes q) = q
    by (no q) =
        ⊎_elim (λ a. not_both a.1 (g m a.0 (omega arith))) (λ b. not_both (f (suc m) (omega arith)) b) h.stops

-- A place has one clearance at most in a direction.
pub clearance_unique : (B : Board) (c : Dir) (p : Place) (m m' : ℕ) → Clearance B c p m → Clearance B c p m' → m ≡ m'
clearance_unique B c p m m' h h' =
    let a = within_clearance B c p m m' h h'.free h'.plain in
    let b = within_clearance B c p m' m h' h.free h.plain in
    omega arith

-- ---- on a bounded board a free place has a clearance in every direction
-- a number that goes one way far enough leaves 1 .. w
leaves : (o : Offset) (w n m : ℕ) → moving o ≡ true → w < n → m ≤ n → (hops o n m ≡ 0) ⊎ (w < hops o n m)
leaves less w n m v a b = let e : m - n ≡ 0 = omega arith in inl e
leaves same w n m v a b = not_both v refl
leaves more w n m v a b = let e : w < m + n = omega arith in inr e

module _ {w h : ℕ} {B : Board} (within : Within w h B) where
  -- a place with a number that is 0 or too large is not free
  outside_x : (q : Place) → (q.x ≡ 0) ⊎ (w < q.x) → B q.x q.y ≡ false
  outside_x q (inl e) = rw e (within.padded.column q.y)
  outside_x q (inr l) = ⊎_elim (λ f. absurd (let k = within.wide q.x q.y f in omega arith)) (λ f. f) (true_or_false (B q.x q.y))

  -- the same by rows
  outside_y : (q : Place) → (q.y ≡ 0) ⊎ (h < q.y) → B q.x q.y ≡ false
  outside_y q (inl e) = rw e (within.padded.row q.x)
  outside_y q (inr l) = ⊎_elim (λ f. absurd (let k = within.high q.x q.y f in omega arith)) (λ f. f) (true_or_false (B q.x q.y))

  module _ (c : Dir) (p : Place) where
    -- so far ahead no place is free
    abbrev far : ℕ
    far = suc (w + h + p.x + p.y)

    -- the place so far ahead is blocked
    far_blocked : B (ahead c far p).x (ahead c far p).y ≡ false
    far_blocked =
        ⊎_elim
        (λ m. outside_x (ahead c far p)
        (rw (end_x p (replicate far c), travel_replicate dx (dx c) far p.x c (λ _. refl)) (leaves (dx c) w far p.x m (omega arith) (omega arith))))
        (λ m. outside_y (ahead c far p)
        (rw (end_y p (replicate far c), travel_replicate dy (dy c) far p.y c (λ _. refl)) (leaves (dy c) h far p.y (y_moves c m) (omega arith) (omega arith))))
        (true_or_false (moving (dx c)))

    -- on from step j, n steps before the place that is surely blocked
    search_on : (n j : ℕ) → n + j ≡ far → ((i : ℕ) → i ≤ j → Free B (ahead c i p)) →
        ((i : ℕ) → 0 < i → i < j → corner B (ahead c i p) ≡ false) → (m : ℕ) × Clearance B c p m
    search_on zero j e f g = not_both (f far (omega arith)) far_blocked
    search_on (suc n) j e f g =
        ⊎_elim
        (λ k. (j, record { free = f; plain = g; stops = inl (ltb-true 0 j (and_left (ltb 0 j) _ k), and_right (ltb 0 j) _ k) }))
        (λ k. ⊎_elim
        (λ r. search_on n (suc j) (omega arith)
        (λ i l. ⊎_elim (λ a. f i a) (λ a. let e : i ≡ suc j = omega arith in rw e r) (le_or_lt i j))
        (λ i l a. ⊎_elim (λ (b : j ≤ i). let e : i ≡ j = omega arith in let z : 0 < j = omega arith in rw e (plain k z)) (λ b. g i l b) (le_or_lt j i)))
        (λ r. (j, record { free = f; plain = g; stops = inr r }))
        (true_or_false (B (ahead c (suc j) p).x (ahead c (suc j) p).y)))
        (true_or_false (ltb 0 j && corner B (ahead c j p)))
      where
        plain : (ltb 0 j && corner B (ahead c j p)) ≡ false → 0 < j → corner B (ahead c j p) ≡ false
        plain k l = rw (lt-ltb 0 j l) at k

    -- On a bounded board a free place has a clearance in every direction.
    pub clearance_exists : Free B p → (m : ℕ) × Clearance B c p m
    clearance_exists f = search_on far 0 (omega arith) (λ i l. let e : i ≡ 0 = omega arith in rw e f) (λ i l a. absurd (omega arith))
