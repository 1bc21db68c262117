-- Cells by number, and their places on a floor's board. Assumes nothing.
use Prim.Native.Nat.{ℕ, zero, suc, pred, ◌+◌, ◌*◌, ◌/◌, ◌%◌, ◌≤◌, ◌<◌}
use mathlib.Core.Bool.{true}
use mathlib.Core.List.{List}
use mathlib.Core.Path.{◌≡◌, refl, sym, ap, ◌∙◌}
use native.Mathlib.Decide.{dec_le}
use native.Mathlib.Nat.{div-add-mod', mod-lt, mod-eq_of_lt, div-eq_of_lt, div-lt_iff_lt-mul, mul-add-mod_self_right, mul-add-div_right, mul-le-mul_right, suc-mul, zero-mul, mul_comm}
use native.Mathlib.Omega.{arith}
use lib.Dec.{ltb}
use Rattle.floor.specs.Board.{Board, Place, at, Free}
use Rattle.floor.specs.Words.{row_of, free_in, board, number_of, place_of, cell_of}
use Rattle.floor.proofs.Places.{padded, free_in_past, free_past}
use Rattle.ground.specs.Within.{Within}
use Rattle.ground.proofs.Logic.{not_both, and_right}
use Rattle.ground.proofs.Cells.{column_inside, row_inside}
use Rattle.ground.proofs.Walks.{place_eq}

-- ---- a cell's number, its column and its row
module _ (w : ℕ) where
  -- the number that a cell's column and row make is the cell's (which says as well: cell_of w (place_of w c) ≡ c)
  pub number_of_cell : (c : ℕ) → number_of w (c % w) (c / w) ≡ c
  number_of_cell c = div-add-mod' c w

  -- two cells at one place are one cell
  pub same_cell : (c c' : ℕ) → place_of w c ≡ place_of w c' → c ≡ c'
  same_cell c c' e = sym (number_of_cell c) ∙ ap (cell_of w) e ∙ number_of_cell c'

  -- the place of the cell with the number of a column and a row
  pub place_of_number : (x y : ℕ) → x < w → place_of w (number_of w x y) ≡ at x y
  place_of_number x y l =
      let some : 0 < w = omega arith in
      let column : (y * w + x) % w ≡ x = mul-add-mod_self_right y w x ∙ mod-eq_of_lt l in
      let row : (y * w + x) / w ≡ y = mul-add-div_right some y x ∙ rw (div-eq_of_lt l) (omega arith) in
      place_eq (ap suc column) (ap suc row)

-- a floor with a cell has a width
some_width : (w h c : ℕ) → c < w * h → 0 < w
some_width zero h c l = absurd (omega (arith, zero-mul h))
some_width (suc w) h c l = omega arith

-- a cell's column is one of the floor's
pub column_in : (w h c : ℕ) → c < w * h → c % w < w
column_in w h c l = mod-lt c (some_width w h c l)

-- and so is its row
pub row_in : (w h c : ℕ) → c < w * h → c / w < h
row_in w h c l = (div-lt_iff_lt-mul (some_width w h c l)).1 (rw (mul_comm h w) l)

-- the number of a column and a row of the floor is that of one of its cells
pub number_in : (w h x y : ℕ) → x < w → y < h → number_of w x y < w * h
number_in w h x y a b = omega (arith, mul-le-mul_right w b, suc-mul y w, mul_comm h w)

-- ---- a floor's board
-- a row has no more columns than cells
in_one_row : (w : ℕ) (row : List ℕ) (x : ℕ) → free_in w row x ≡ true → x ≤ w
in_one_row w row x f = by (dec_le x w)
  where
    by : Dec (x ≤ w) → x ≤ w
    by (yes l) = l
    by (no n) = not_both f (sym (free_in_past w row x (omega (arith, n))))

-- no place past the last column is free
in_columns : (w h : ℕ) (words : List ℕ) (x y : ℕ) → board w h words x y ≡ true → x ≤ w
unfolding board
in_columns w h words x zero f = not_both f refl
in_columns w h words x (suc y) f = in_one_row w (row_of w words y) x (and_right (ltb y h) _ f)

-- and none past the last row
in_rows : (w h : ℕ) (words : List ℕ) (x y : ℕ) → board w h words x y ≡ true → y ≤ h
in_rows w h words x y f = by (dec_le y h)
  where
    by : Dec (y ≤ h) → y ≤ h
    by (yes l) = l
    by (no n) = not_both f (sym (free_past w h words y (omega (arith, n)) x))

-- only its cells are free
pub within : (w h : ℕ) (words : List ℕ) → Within w h (board w h words)
within w h words = record { padded = padded w h words; wide = in_columns w h words; high = in_rows w h words }

-- ---- a free place is that of a cell
module _ {w h : ℕ} {B : Board} (inside : Within w h B) (p : Place) (f : Free B p) where
  -- its column is one of the floor's
  pub free_column : pred p.x < w
  free_column =
      let a : 0 < p.x = column_inside inside.padded f in
      let b : p.x ≤ w = inside.wide p.x p.y f in
      omega arith

  -- and so is its row
  pub free_row : pred p.y < h
  free_row =
      let a : 0 < p.y = row_inside inside.padded f in
      let b : p.y ≤ h = inside.high p.x p.y f in
      omega arith

  -- it is the place of its column and row
  pub free_at : at (pred p.x) (pred p.y) ≡ p
  free_at =
      let a : 0 < p.x = column_inside inside.padded f in
      let b : 0 < p.y = row_inside inside.padded f in
      place_eq (omega arith) (omega arith)

  -- its cell is one of the floor's
  pub free_cell : cell_of w p < w * h
  free_cell = number_in w h (pred p.x) (pred p.y) free_column free_row

  -- and has its place
  pub place_of_free : place_of w (cell_of w p) ≡ p
  place_of_free = place_of_number w (pred p.x) (pred p.y) free_column ∙ free_at
