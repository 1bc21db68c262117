-- The rows of a field, as they are given one after another.
use Rattle.std.specs.Prelude.{ℕ, ◌+◌, ◌%◌, ◌/◌, ◌<◌, List, Option, Some, None, ◌≡◌}
use Rattle.floor.specs.Board.{at, dir_at}
use Rattle.floor.specs.Words.{board}
use Rattle.fields.specs.Fields.{slant, side, Known, Come, PassedRow}
use Rattle.fields.specs.declared.passing.FieldRows.{FieldRows}
use Rattle.fields.specs.declared.RowEnd.{RowEnd}

-- they are those of field f from a cell of this floor
pub record RowsOf (w h : ℕ) (words : List ℕ) (cell f : ℕ) (s : FieldRows) : Type 0 where
  pub wide : s.floor.now.grid.w ≡ w
  pub high : s.floor.now.grid.h ≡ h
  pub lent : s.floor.now.grid.words.now ≡ words
  pub column : s.start.x ≡ cell % w
  pub row_there : s.start.y ≡ cell / w
  pub field_is : s.field ≡ f

-- all are still to be given
pub record Begun (w h : ℕ) (words : List ℕ) (cell f : ℕ) (s : FieldRows) : Type 0 where
  pub of : RowsOf w h words cell f s
  pub first : s.row ≡ 0
  pub goes_on : ¬ (s.ahead ≡ None)

-- a sweep that goes on has come to the next row
pub record Underway (s : FieldRows) : Type 0 where
  pub known : Known s.floor.now.grid.w s.floor.now.grid.h s.floor.now.grid.words.now s.clear.now
  pub field_in : s.field < 8
  pub come : (reach : ℕ) → s.ahead ≡ Some reach →
      (s.row < 255) × Come (board s.floor.now.grid.w s.floor.now.grid.h s.floor.now.grid.words.now) (at s.start.x s.start.y) (dir_at (slant s.field)) (dir_at (side s.field)) s.row reach

-- what is given next: nothing where no row follows; otherwise what the next row shows, and the rows after it are left
abbrev pub RowGiven : FieldRows → Option (Option ℕ) → FieldRows → Type 0
RowGiven s None t = s.ahead ≡ None
RowGiven s (Some shown) t =
    PassedRow s.floor.now.grid.w s.floor.now.grid.h s.floor.now.grid.words.now s.start.x s.start.y s.field s.row (record { shown = shown; reach = t.ahead })
    × (t ≡ record s { row = s.row + 1; ahead = t.ahead })
