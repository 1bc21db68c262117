-- What a floor's board says at a place whose column or row is outside, or inside: as the code tests it, by `x == 0` and `w < x`, and
-- goes on, with `x - 1`. Assumes nothing.
use Prim.Native.Nat.{ℕ, zero, suc, ◌+◌, ◌-◌, ◌*◌, ◌<◌, ◌≤◌}
use mathlib.Core.Bool.{false, and-false}
use mathlib.Core.List.{List}
use mathlib.Core.Path.{◌≡◌, refl}
use native.Mathlib.Nat.{le_of_suc-le-suc, mul-le-mul_right, suc-mul}
use native.Mathlib.Omega.{arith}
use lib.ListN.{length, length-take, length-drop}
use borrow.Author.Tests.{lt-ltb, le-ltb}
use Rattle.floor.specs.Board.{Padded}
use Rattle.floor.specs.Words.{bit_free, row_of, row_words, free_in, board, IsRow}

module _ (w : ℕ) (row : List ℕ) where
  -- column 0 of a row is outside
  pub free_in_zero : (x : ℕ) → x ≡ 0 → false ≡ free_in w row x
  unfolding free_in
  free_in_zero zero e = refl
  free_in_zero (suc x) e = absurd (omega arith)

  -- and so are the columns past its cells
  pub free_in_past : (x : ℕ) → w < x → false ≡ free_in w row x
  unfolding free_in
  free_in_past zero l = refl
  free_in_past (suc x) l = rw (le-ltb x w (le_of_suc-le-suc l))

  -- any other column is that of a bit
  pub free_in_inside : (x : ℕ) → (x ≡ 0 → ⊥) → x ≤ w → bit_free row (x - 1) ≡ free_in w row x
  unfolding free_in
  free_in_inside zero n l = absurd (n refl)
  free_in_inside (suc x) n l =
      let e : suc x - 1 ≡ x = omega arith in
      rw (lt-ltb x w l, e)

module _ (w h : ℕ) (words : List ℕ) where
  -- row 0 of the board is outside
  pub free_zero : (y : ℕ) → y ≡ 0 → (x : ℕ) → false ≡ board w h words x y
  unfolding board
  free_zero zero e x = refl
  free_zero (suc y) e x = absurd (omega arith)

  -- and so are the rows past the last
  pub free_past : (y : ℕ) → h < y → (x : ℕ) → false ≡ board w h words x y
  unfolding board
  free_past zero l x = refl
  free_past (suc y) l x = rw (le-ltb y h (le_of_suc-le-suc l))

  -- any other row is one of the words
  pub free_inside : (y : ℕ) (row : List ℕ) → (y ≡ 0 → ⊥) → y ≤ h → row ≡ row_of w words (y - 1) → (x : ℕ) → free_in w row x ≡ board w h words x y
  unfolding board
  free_inside zero row n l r x = absurd (n refl)
  free_inside (suc y) row n l r x =
      let e : suc y - 1 ≡ y = omega arith in
      rw (lt-ltb y h l, r, e)

-- row y ends within the words of h rows of n
pub row_ends : (y h n : ℕ) → y < h → y * n + n ≤ h * n
row_ends y h n l = omega (arith, mul-le-mul_right n l, suc-mul y n)

-- row y of a floor's words is as long as a row
pub is_row : (w h y : ℕ) (words : List ℕ) → length words ≡ h * row_words w → y < h → IsRow w words y (row_of w words y)
is_row w h y words s l =
    let e = row_ends y h (row_words w) l in
    record { same = refl; long = simp (length-take, length-drop) (omega arith) }

-- a cell of the floor on its board
pub cell_free : (w h : ℕ) (words : List ℕ) (x y : ℕ) → x < w → y < h → board w h words (suc x) (suc y) ≡ bit_free (row_of w words y) x
unfolding board free_in
cell_free w h words x y lx ly = rw (lt-ltb y h ly, lt-ltb x w lx)

-- row 0 and column 0 of a floor's board are outside
pub padded : (w h : ℕ) (words : List ℕ) → Padded (board w h words)
unfolding board free_in
padded w h words = record { row = λ x. refl; column = column }
  where
    column : (y : ℕ) → board w h words 0 y ≡ false
    column zero = refl
    column (suc y) = rw and-false
