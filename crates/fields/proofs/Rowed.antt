-- A walk through the rows of a field. Assumes nothing.
use Prim.Native.Nat.{ℕ, ◌+◌, ◌/◌, ◌%◌}
use mathlib.Core.List.{List}
use mathlib.Core.Path.{◌≡◌, sym, ◌∙◌, ap, subst}
use Rattle.std.specs.Prelude.{Option, Some, None}
use Rattle.fields.specs.Fields.{PassedRow}
use Rattle.fields.specs.Passing.{RowsOf, Begun, RowGiven}
use Rattle.fields.specs.declared.passing.FieldRows.{FieldRows}

-- it goes through those of a field from a cell of this floor, and P holds of the next row's number and of what is said to be ahead
pub record Rowed (w h : ℕ) (words : List ℕ) (cell f : ℕ) (P : ℕ → Option ℕ → Type 0) (s : FieldRows) : Type 0 where
  pub of : RowsOf w h words cell f s
  pub so : P s.row s.ahead

module _ {w h : ℕ} {words : List ℕ} {cell f : ℕ} where
  -- at first none is passed
  pub rows_begin : (P : ℕ → Option ℕ → Type 0) (s r : FieldRows) → s ≡ r → Begun w h words cell f r → ((o : Option ℕ) → ¬ (o ≡ None) → P 0 o) → Rowed w h words cell f P s
  rows_begin P s r e b p = subst (Rowed w h words cell f P) (sym e) (record { of = b.of; so = subst (λ n. P n r.ahead) (sym b.first) (p r.ahead b.goes_on) })

  module _ {P : ℕ → Option ℕ → Type 0} {s : FieldRows} (u : Rowed w h words cell f P s) {shown : Option ℕ} {t : FieldRows} (g : RowGiven s (Some shown) t) where
    -- the row that is given is one of them
    pub row_passed : PassedRow w h words (cell % w) (cell / w) f s.row (record { shown = shown; reach = t.ahead })
    row_passed = let o = u.of in rw (o.wide, o.high, o.lent, o.column, o.row_there, o.field_is) at g.0

    -- the walk goes on after it
    pub rows_on : (Q : ℕ → Option ℕ → Type 0) → Q (s.row + 1) t.ahead → Rowed w h words cell f Q t
    rows_on Q q =
        let o = u.of in
        record {
          of =
              record {
                wide = ap (λ z. z.floor.now.grid.w) g.1 ∙ o.wide;
                high = ap (λ z. z.floor.now.grid.h) g.1 ∙ o.high;
                lent = ap (λ z. z.floor.now.grid.words.now) g.1 ∙ o.lent;
                column = ap (λ z. z.start.x) g.1 ∙ o.column;
                row_there = ap (λ z. z.start.y) g.1 ∙ o.row_there;
                field_is = ap (λ z. z.field) g.1 ∙ o.field_is;
              };
          so = subst (λ n. Q n t.ahead) (sym (ap (λ z. z.row) g.1)) q;
        }
