-- On a floor whose unused bits are 1, the clear bits of the words are its free cells. Assumes nothing.
use Prim.Native.Nat.{ℕ, zero, suc, ◌+◌, ◌-◌, ◌*◌, ◌/◌, ◌%◌, ◌<◌, ◌≤◌}
use mathlib.Core.Bool.{false}
use mathlib.Core.List.{List}
use mathlib.Core.Path.{◌≡◌, sym, ap, ap₂, ◌∙◌}
use native.Mathlib.Nat.{suc-mul, zero-mul, add-zero}
use native.Mathlib.Omega.{arith}
use lib.ListN.{length, drop, length-take, length-drop}
use lib.Seq.{get_or-take, get_or-drop}
use Rattle.floor.proofs.Tables.{not_so}
use Rattle.floor.specs.Words.{sum_below, one, bit_free, row_words, row_of, board, clear_bits, free_cells, Floor}
use Rattle.floor.proofs.Sums.{sum_same, sum_none, sum_add}
use Rattle.floor.proofs.Places.{cell_free, row_ends}

-- a row whose bits past its cells are all 1 counts its cells
row_count : (w : ℕ) (row : List ℕ) → w ≤ 64 * length row → ((x : ℕ) → w ≤ x → x < 64 * length row → bit_free row x ≡ false)
    → sum_below (64 * length row) (λ x. one (bit_free row x)) ≡ sum_below w (λ x. one (bit_free row x))
row_count w row l used =
    let n : ℕ = 64 * length row in
    let split : n ≡ w + (n - w) = omega arith in
    let rest : sum_below (n - w) (λ k. one (bit_free row (w + k))) ≡ 0
    = sum_none (n - w) _ (λ k m. ap one (used (w + k) (omega arith) (omega arith))) in
    ap (λ m. sum_below m (λ x. one (bit_free row x))) split ∙ sum_add w (n - w) (λ x. one (bit_free row x)) ∙ rw (rest, add-zero)

module _ (w h : ℕ) (words : List ℕ) (f : Floor w h words) where
  -- the free cells of row y
  in_row : ℕ → ℕ
  in_row y = sum_below w (λ x. one (board w h words (suc x) (suc y)))

  -- a row has as many words as the width takes
  row_long : (y : ℕ) → y < h → length (row_of w words y) ≡ row_words w
  row_long y l = rw (length-take, length-drop) (omega (arith, row_ends y h (row_words w) l, f.sized.counted))

  -- bit k of row y among all words
  bit_of_row : (y k : ℕ) → k < 64 * row_words w → bit_free words (64 * (y * row_words w) + k) ≡ bit_free (row_of w words y) k
  bit_of_row y k l =
      let place : (64 * (y * row_words w) + k) / 64 ≡ y * row_words w + k / 64 = omega arith in
      let bit : (64 * (y * row_words w) + k) % 64 ≡ k % 64 = omega arith in
      let within : k / 64 < row_words w = omega arith in
      rw (place, bit, get_or-take (row_words w) (drop (y * row_words w) words) (k / 64) 0 within, get_or-drop)

  -- no bit of row y past its cells is 0
  pub row_used : (y : ℕ) → y < h → (x : ℕ) → w ≤ x → x < 64 * row_words w → bit_free (row_of w words y) x ≡ false
  row_used y l x p q =
      not_so _ (λ e. f.used (record { row = y; bit = x; row_in = l; unused = p; bit_in = q; clear = e }))

  -- the clear bits of row y are its free cells
  one_row : (y : ℕ) → y < h → sum_below (64 * row_words w) (λ k. one (bit_free words (64 * (y * row_words w) + k))) ≡ in_row y
  unfolding in_row
  one_row y l =
      let long = row_long y l in
      sum_same (64 * row_words w) _ _ (λ k m. ap one (bit_of_row y k m))
      ∙ ap (λ n. sum_below (64 * n) (λ k. one (bit_free (row_of w words y) k))) (sym long)
      ∙ row_count w (row_of w words y) (omega arith) (λ x p q. row_used y l x p (rw long at q))
      ∙ sum_same w _ _ (λ x m. ap one (sym (cell_free w h words x y m l)))

  -- the clear bits of the first m rows are their free cells
  rows : (m : ℕ) → m ≤ h → clear_bits words (m * row_words w) ≡ sum_below m in_row
  unfolding clear_bits sum_below
  rows zero l = rw zero-mul
  rows (suc m) l =
      let next : 64 * (suc m * row_words w) ≡ 64 * (m * row_words w) + 64 * row_words w = omega (arith, suc-mul m (row_words w)) in
      rw next (sum_add (64 * (m * row_words w)) (64 * row_words w) (λ x. one (bit_free words x)) ∙ ap₂ ◌+◌ (rows m (omega arith)) (one_row m l))

  -- The clear bits of all words are the free cells.
  pub free_cells_are : clear_bits words (length words) ≡ free_cells w h words
  unfolding free_cells in_row
  free_cells_are = rw f.sized.counted (rows h (omega arith))
