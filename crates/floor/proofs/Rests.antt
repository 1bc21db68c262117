-- An unused bit of a row is one of the floor's. Assumes nothing.
use Prim.Native.Nat.{ℕ, ◌*◌, ◌<◌, ◌≤◌}
use mathlib.Core.Bool.{true}
use mathlib.Core.List.{List}
use mathlib.Core.Path.{◌≡◌}
use Rattle.floor.specs.Words.{row_words, row_of, bit_free, IsRow, RestClear, UnusedClear}

-- row y of the floor has no 0 past its cells
abbrev pub RowUsed : ℕ → List ℕ → ℕ → Type 0
RowUsed w words y = (x : ℕ) → w ≤ x → x < 64 * row_words w → bit_free (row_of w words y) x ≡ true → ⊥

module _ (w h : ℕ) (words : List ℕ) (y : ℕ) (row : List ℕ) (r : IsRow w words y row) where
  -- a 0 past the cells of a row is an unused bit of the floor
  pub row_clear : y < h → RestClear w row → UnusedClear w h words
  row_clear l c =
      record {
        row = y;
        bit = c.bit;
        row_in = l;
        unused = c.unused;
        bit_in = rw r.long at c.bit_in;
        clear = rw r.same at c.clear;
      }

  -- a row without one has none
  pub row_used : ¬ (RestClear w row) → RowUsed w words y
  row_used n x p q e = n (record { bit = x; unused = p; bit_in = rw r.long q; clear = rw r.same e })
