-- Cells by number: where one stands in an ascending list, the cells of places, and how far two cells are apart.
-- Assumes nothing.
use Rattle.std.specs.Prelude.{◌≡◌, cond, List, [], ◌∷◌, Option, MatchOption, ℕ, suc, ◌*◌, ◌/◌, ◌%◌, ◌≤◌, ◌<◌, ltb, eqb, length, get_or}
use Rattle.lengths.specs.Lengths.{gap, octile_of}
use Rattle.lengths.specs.Laws.{weight}
use Rattle.places.specs.declared.Trip.{Trip}

-- The index of the first entry that is this cell, or the list's length where none is.
unfoldable pub index_of : List ℕ → ℕ → ℕ
index_of [] cell = 0
index_of (x ∷ xs) cell = cond (eqb x cell) 0 (suc (index_of xs cell))

-- Each entry is less than every later one.
abbrev pub Ascending : List ℕ → Type 0
Ascending C = (i j : ℕ) → i < j → j < length C → get_or C i 0 < get_or C j 0

-- r is the index of a cell in a list of cells, or none where it is not there.
abbrev pub Found : List ℕ → ℕ → Option ℕ → Type 0
Found C cell r = MatchOption r (index_of C cell ≡ length C) (λ i. (i < length C) × (i ≡ index_of C cell))

-- A table gives the index of each corner by its cell.
pub record Indexed (C Q : List ℕ) : Type 0 where
  pub room : 16384 ≤ length Q
  pub index : (i : ℕ) → i < length C → get_or Q (get_or C i 0) 0 ≡ i

-- The cell of a place: the corners come first, then the start, then the goal.
unfoldable pub cell_at : List ℕ → Trip → ℕ → ℕ
cell_at C t i = cond (ltb i t.k) (get_or C i 0) (cond (eqb i t.k) t.start t.goal)

-- How far two cells of a floor w wide are apart: the octile distance of where they stand, as one whole number.
unfoldable pub apart : ℕ → ℕ → ℕ → ℕ
apart w a b = weight (octile_of (gap (a % w) (b % w)) (gap (a / w) (b / w)))

-- Two cells of a floor no wider and no higher than 255.
pub record TwoCells (w a b : ℕ) : Type 0 where
  pub some : 0 < w
  pub wide : w ≤ 255
  pub first : a < 255 * w
  pub second : b < 255 * w
