-- A clearance by that of the next place in its direction. Assumes nothing.
use Prim.Native.Nat.{ℕ, zero, suc, ◌+◌, ◌-◌, ◌≤◌, ◌<◌}
use mathlib.Core.Bool.{true, false, ◌&&◌, and-false}
use mathlib.Core.List.{List}
use mathlib.Core.Logic.{◌⊎◌, inl, inr, ⊎_elim}
use mathlib.Core.Path.{◌≡◌, refl, sym, ◌∙◌}
use native.Mathlib.Omega.{arith}
use lib.ListN.{replicate}
use Rattle.floor.specs.Board.{Board, Place, Free, Dir, dir_at, Offset, less, same, more, dx, dy, moving, go, corner}
use Rattle.ground.specs.Clearance.{ahead, Clearance}
use Rattle.ground.specs.Within.{Within}
use Rattle.ground.proofs.Logic.{true_or_false, not_both}
use Rattle.ground.proofs.Cells.{column_inside, row_inside}
use Rattle.ground.proofs.Near.{y_moves}
use Rattle.ground.proofs.Axes.{end_x, end_y}
use Rattle.ground.proofs.LineEnds.{hops, travel_replicate}
use Rattle.ground.proofs.ByClearance.{clearance_unique}
use Rattle.marks.specs.Marks.{ClearanceAt}
use Rattle.marks.specs.Marking.{entry_at, by_bits, by_next}

-- ---- at a free place, by the next place
module _ (B : Board) (c : Dir) (p : Place) (f : Free B p) where
  -- the next place is blocked
  pub clearance_none : B (go c p).x (go c p).y ≡ false → Clearance B c p 0
  clearance_none b =
      record { free = λ j l. let e : j ≡ 0 = omega arith in rw e f; plain = λ j l k. absurd (omega arith); stops = inr b }

  -- the next place is a turning point
  pub clearance_one : Free B (go c p) → corner B (go c p) ≡ true → Clearance B c p 1
  clearance_one g k = record { free = free; plain = λ j l m. absurd (omega arith); stops = inl (omega arith, k) }
    where
      free : (j : ℕ) → j ≤ 1 → Free B (ahead c j p)
      free zero l = f
      free (suc zero) l = g
      free (suc (suc j)) l = absurd (omega arith)

  -- the next place is free and no turning point: one more than its clearance
  pub clearance_more : (m : ℕ) → corner B (go c p) ≡ false → Clearance B c (go c p) m → Clearance B c p (suc m)
  clearance_more m k r =
      record { free = free; plain = plain; stops = ⊎_elim (λ a. inl (omega arith, a.1)) (λ b. inr b) r.stops }
    where
      free : (j : ℕ) → j ≤ suc m → Free B (ahead c j p)
      free zero l = f
      free (suc j) l = r.free j (omega arith)

      plain : (j : ℕ) → 0 < j → j < suc m → corner B (ahead c j p) ≡ false
      plain zero a b = absurd (omega arith)
      plain (suc zero) a b = k
      plain (suc (suc j)) a b = r.plain (suc j) (omega arith) (omega arith)

-- a free place's clearance
pub clearance_of_free : {B : Board} {c : Dir} {p : Place} {m : ℕ} → Free B p → ClearanceAt B c p m → Clearance B c p m
clearance_of_free f = ⊎_elim (λ a. not_both f a.0) (λ r. r)

-- a place has one clearance
pub one_clearance : (B : Board) (c : Dir) (p : Place) (m n : ℕ) → ClearanceAt B c p m → ClearanceAt B c p n → m ≡ n
one_clearance B c p m n (inl a) (inl b) = a.1 ∙ sym b.1
one_clearance B c p m n (inl a) (inr s) = not_both (s.free 0 (omega arith)) a.0
one_clearance B c p m n (inr r) (inl b) = not_both (r.free 0 (omega arith)) b.0
one_clearance B c p m n (inr r) (inr s) = clearance_unique B c p m n r s

-- ---- what code computes
module _ (B : Board) (w : ℕ) (clear : List ℕ) (p : Place) (d : ℕ) where
  -- where the place is blocked or the step is not legal
  pub next_none : (B p.x p.y && B (go (dir_at d) p).x (go (dir_at d) p).y) ≡ false → by_next B w clear p d ≡ 0
  unfolding by_bits
  next_none b = rw b

  module _ (f : Free B p) (g : Free B (go (dir_at d) p)) where
    -- where it leads to a turning point
    pub next_corner : corner B (go (dir_at d) p) ≡ true → by_next B w clear p d ≡ 1
    unfolding by_bits
    next_corner k = rw (f, g, k)

    -- where it does not
    pub next_more : corner B (go (dir_at d) p) ≡ false → by_next B w clear p d ≡ suc (entry_at w clear (go (dir_at d) p) d)
    unfolding by_bits
    next_more k = rw (f, g, k)

  -- it is right where the next place's entry is
  pub by_next_lem : (Free B (go (dir_at d) p) → ClearanceAt B (dir_at d) (go (dir_at d) p) (entry_at w clear (go (dir_at d) p) d)) →
      ClearanceAt B (dir_at d) p (by_next B w clear p d)
  by_next_lem right =
      by (true_or_false (B p.x p.y)) (true_or_false (B (go (dir_at d) p).x (go (dir_at d) p).y)) (true_or_false (corner B (go (dir_at d) p)))
    where
      by : (B p.x p.y ≡ true) ⊎ (B p.x p.y ≡ false) →
          (B (go (dir_at d) p).x (go (dir_at d) p).y ≡ true) ⊎ (B (go (dir_at d) p).x (go (dir_at d) p).y ≡ false) →
          (corner B (go (dir_at d) p) ≡ true) ⊎ (corner B (go (dir_at d) p) ≡ false) → ClearanceAt B (dir_at d) p (by_next B w clear p d)
      by (inr b) g k = inl (b, next_none (rw b))
      by (inl f) (inr b) k = inr (rw (next_none (rw (b, and-false))) (clearance_none B (dir_at d) p f b))
      by (inl f) (inl g) (inl k) = inr (rw (next_corner f g k) (clearance_one B (dir_at d) p f g k))
      by (inl f) (inl g) (inr k) =
          inr (rw (next_more f g k) (clearance_more B (dir_at d) p f _ k (clearance_of_free g (right g))))

-- ---- clearances are small
-- on a side of length w one goes fewer than w steps
few_hops : (o : Offset) (w n m : ℕ) → moving o ≡ true → 0 < n → n ≤ w → 0 < hops o m n → hops o m n ≤ w → m < w
few_hops less w n m v a b i j = let k : 0 < n - m = i in omega arith
few_hops same w n m v a b i j = not_both v refl
few_hops more w n m v a b i j = let k : n + m ≤ w = j in omega arith

-- a clearance is below 255 where no side is longer
pub clearance_small : {w h : ℕ} {B : Board} → Within w h B → w ≤ 255 → h ≤ 255 → (c : Dir) (p : Place) (m : ℕ) → ClearanceAt B c p m → m < 255
clearance_small inside a b c p m (inl z) = let e = z.1 in omega arith
clearance_small {w} {h} {B} inside a b c p m (inr r) =
    ⊎_elim
    (λ v. let l = few_hops (dx c) w p.x m v (column_inside inside.padded here) (inside.wide _ _ here)
    (rw column at (column_inside inside.padded there)) (rw column at (inside.wide _ _ there)) in omega arith)
    (λ v. let l = few_hops (dy c) h p.y m (y_moves c v) (row_inside inside.padded here) (inside.high _ _ here)
    (rw row at (row_inside inside.padded there)) (rw row at (inside.high _ _ there)) in omega arith)
    (true_or_false (moving (dx c)))
  where
    here : Free B p
    here = r.free 0 (omega arith)

    there : Free B (ahead c m p)
    there = r.free m (omega arith)

    column : (ahead c m p).x ≡ hops (dx c) m p.x
    column = end_x p (replicate m c) ∙ travel_replicate dx (dx c) m p.x c (λ _. refl)

    row : (ahead c m p).y ≡ hops (dy c) m p.y
    row = end_y p (replicate m c) ∙ travel_replicate dy (dy c) m p.y c (λ _. refl)
