-- The order in which a direction's cells are met, what a pass has made right so far, and that an entry made by the next one is right.
-- Assumes nothing.
use Prim.Native.Nat.{ℕ, zero, suc, pred, ◌+◌, ◌-◌, ◌*◌, ◌/◌, ◌%◌, ◌≤◌, ◌<◌}
use mathlib.Core.Bool.{Bool, true, false, not, cond}
use mathlib.Core.List.{List}
use mathlib.Core.Path.{◌≡◌, ap, subst, refl, ◌∙◌}
use native.Mathlib.Decide.{dec_le}
use native.Mathlib.Nat.{suc-mul}
use native.Mathlib.Numerals.{one-add}
use native.Mathlib.Omega.{arith}
use lib.ListN.{get_or}
use Rattle.floor.specs.Board.{Place, at, Free, dir_at, go}
use Rattle.floor.specs.Words.{board, number_of, place_of, cell_of}
use Rattle.floor.proofs.Below.{below}
use Rattle.ground.proofs.Cells.{column_inside, row_inside}
use Rattle.corners.specs.Chunks.{Chunk}
use Rattle.corners.proofs.Chunks.{chunk_ends}
use Rattle.marks.specs.Marks.{ClearanceAt, Cleared}
use Rattle.marks.specs.Marking.{by_bits, by_next, ahead_of, back_of, NextIn, rank, first_met, FromFirst, Right, Agrees, ChunkAgrees, WayAgrees}
use Rattle.ground.proofs.Numbers.{number_of_cell, column_in, row_in, within, free_cell, place_of_free}
use Rattle.marks.proofs.Recurrence.{one_clearance, by_next_lem}

-- each cell is met before the n-th
pub rank_below : (n d c : ℕ) → d < 4 → c < n → rank n d c < n
rank_below n d c l m = below (λ d. rank n d c < n) 4 (m, (omega arith, (omega arith, (m, tt)))) d l

-- and no two at once
pub rank_tells : (n d c k : ℕ) → d < 4 → c < n → k < n → rank n d c ≡ rank n d k → c ≡ k
rank_tells n d c k l m o =
    below (λ d. rank n d c ≡ rank n d k → c ≡ k) 4 (λ e. e, (λ (e : n - suc c ≡ n - suc k). omega arith, (λ (e : n - suc c ≡ n - suc k). omega arith, (λ e. e, tt)))) d l

-- north and west meet a chunk's first cell first
pub first_in_turn : (n d c m : ℕ) → d < 4 → FromFirst d → first_met n d c m ≡ c
first_in_turn n d c m l =
    below (λ d. FromFirst d → first_met n d c m ≡ c) 4 ((λ e. omega arith), ((λ e. absurd (omega arith)), ((λ e. absurd (omega arith)), ((λ e. omega arith), tt)))) d l

-- a chunk's cells are met one after another
pub in_turn : {w h d c m : ℕ} → Chunk w h c m → d < 4 → (k : ℕ) → k < m → rank (w * h) d (c + rank m d k) ≡ first_met (w * h) d c m + k
in_turn {w} {h} {d} {c} {m} chunk l k o =
    let e = chunk_ends chunk in
    below (λ d. rank (w * h) d (c + rank m d k) ≡ first_met (w * h) d c m + k) 4 (omega arith, (omega arith, (omega arith, (omega arith, tt)))) d l

-- the row above
pub row_above : (w y : ℕ) → 0 < y → y * w ≡ pred y * w + w
row_above w zero l = absurd (omega arith)
row_above w (suc y) l = suc-mul y w

-- the clearance is made of the next cell's entry where there is a step, else the cell's own is read
pub read_made : (w size c d : ℕ) (clear : List ℕ) (s t : Bool) → (s ≡ true → NextIn w size c d) →
    cond s (1 + cond (not t) (get_or clear (4 * (c + cond s (ahead_of w d) 0 - cond s (back_of w d) 0) + d) 0) 0) 0 ≡ by_bits s t w clear (place_of w c) d
unfolding by_bits
read_made w size c d clear true true n = refl
read_made w size c d clear true false n =
    let e : c + ahead_of w d - back_of w d ≡ cell_of w (go (dir_at d) (place_of w c)) = omega (arith, (n refl).number) in
    ap (λ m. 1 + get_or clear (4 * m + d) 0) e ∙ one-add _
read_made w size c d clear false t n = refl

module _ (w h : ℕ) (words : List ℕ) where
  -- the next cell in a direction is met before
  next_before : (x y : ℕ) → x < w → y < h → (d : ℕ) → d < 4 → Free (board w h words) (go (dir_at d) (at x y)) →
      rank (w * h) d (cell_of w (go (dir_at d) (at x y))) < rank (w * h) d (number_of w x y)
  next_before x y a b d l =
      below
      (λ d. Free (board w h words) (go (dir_at d) (at x y)) →
      rank (w * h) d (cell_of w (go (dir_at d) (at x y))) < rank (w * h) d (number_of w x y))
      4 (
        λ f. omega (arith, row_above w y (row_inside (within w h words).padded f)),
        (
          λ f. omega (arith, free_cell (within w h words) (go (dir_at 1) (at x y)) f),
          (
            λ f. omega (arith, free_cell (within w h words) (go (dir_at 2) (at x y)) f, suc-mul y w),
            (λ f. omega (arith, column_inside (within w h words).padded f), tt),
          ),
        ),
      )
      d l

  -- what is computed from the next entry is right where the entries met before are
  pub next_right : (clear : List ℕ) (d r c : ℕ) → d < 4 → Right w h words clear d r → c < w * h → rank (w * h) d c ≤ r →
      ClearanceAt (board w h words) (dir_at d) (place_of w c) (by_next (board w h words) w clear (place_of w c) d)
  next_right clear d r c l s m k = by_next_lem (board w h words) w clear (place_of w c) d right
    where
      right : Free (board w h words) (go (dir_at d) (place_of w c)) →
          ClearanceAt (board w h words) (dir_at d) (go (dir_at d) (place_of w c)) (get_or clear (4 * cell_of w (go (dir_at d) (place_of w c)) + d) 0)
      right g =
          let q : Place = go (dir_at d) (place_of w c) in
          let before = next_before (c % w) (c / w) (column_in w h c m) (row_in w h c m) d l g in
          let here : rank (w * h) d (number_of w (c % w) (c / w)) ≡ rank (w * h) d c = ap (rank (w * h) d) (number_of_cell w c) in
          subst (λ p. ClearanceAt (board w h words) (dir_at d) p (get_or clear (4 * cell_of w q + d) 0)) (place_of_free (within w h words) q g)
          (s.each (cell_of w q) (free_cell (within w h words) q g) (omega arith))

  -- ---- a list whose entries are all what the next ones make them
  -- where all agree, those met before the r-th are right
  agreeing_right : (clear : List ℕ) → ((c d : ℕ) → c < w * h → d < 4 → Agrees w h words clear c d) → (d r : ℕ) → d < 4 → Right w h words clear d r
  agreeing_right clear a d zero l = record { each = λ c m k. absurd (omega arith) }
  agreeing_right clear a d (suc r) l =
      record { each = λ c m k. rw (a c d m l) (next_right clear d r c l (agreeing_right clear a d r l) m (omega arith)) }

  -- a chunk more agrees
  pub agree_more : (clear : List ℕ) (d c n : ℕ) → WayAgrees w h words clear d c → ChunkAgrees w h words clear d c n → WayAgrees w h words clear d (c + n)
  agree_more clear d c n a b k l = by (dec_le c k)
    where
      by : Dec (c ≤ k) → Agrees w h words clear k d
      by (yes m) = subst (λ t. Agrees w h words clear t d) (omega arith) (b (k - c) (omega arith))
      by (no m) = a k (omega (arith, m))

  -- so a list is right where all of its entries agree
  pub agreeing_cleared : (clear : List ℕ) → ((c d : ℕ) → c < w * h → d < 4 → Agrees w h words clear c d) → Cleared w h words clear
  agreeing_cleared clear a c d m l = (agreeing_right clear a d (w * h) l).each c m (rank_below (w * h) d c l m)

  -- and right entries agree
  pub cleared_agrees : (clear : List ℕ) → Cleared w h words clear → (c d : ℕ) → c < w * h → d < 4 → Agrees w h words clear c d
  cleared_agrees clear s c d m l =
      one_clearance (board w h words) (dir_at d) (place_of w c) _ _ (s c d m l)
      (next_right clear d (w * h) c l (record { each = λ k o p. s k d o l }) m (let k = rank_below (w * h) d c l m in omega arith))
