-- A sweep of one field, row by row: what its rows have shown stands in its place. Assumes nothing.
use Prim.Native.Nat.{ℕ, suc, ◌+◌, ◌-◌, ◌*◌, ◌/◌, ◌%◌, ◌≤◌, ◌<◌}
use mathlib.Core.List.{List}
use mathlib.Core.Path.{◌≡◌, refl, ◌∙◌, ap}
use native.Mathlib.Decide.{ℕ_discrete, dec_le}
use native.Mathlib.Omega.{arith}
use borrow.Author.Rules.{rules}
use lib.ListN.{length}
use Rattle.floor.specs.Words.{place_of}
use Rattle.corners.specs.Lists.{part}
use Rattle.plan.specs.Rising.{In}
use Rattle.fields.specs.Fields.{PassedRow, ShownIn, Seen}
use Rattle.plan.specs.Linking.{PutShown, Finding, Crowded, Grown}
use Rattle.fields.specs.declared.RowEnd.{RowEnd}
use Rattle.std.specs.Prelude.{Option, Some, None, IfSome}
use Rattle.ground.proofs.Numbers.{number_of_cell}
use Rattle.plan.proofs.Growing.{grown_trans, Put, put_shown, crowded}

-- what a row shows is a cell, so a number of 16 bits
pub few_shown : (w h : ℕ) {P : ℕ → Type 0} → w * h ≤ 16384 → (shown : Option ℕ) → ((t : ℕ) → shown ≡ Some t → (t < w * h) × P t) → IfSome shown (λ t. t < 65536)
few_shown w h l None f = search rules
few_shown w h l (Some t) f = let m = (f t refl).0 in omega arith

-- ---- a sweep of a field, and what the rows that it has passed show
-- the rows of field `field` from the cell before row `row`, or all where the sweep has ended, show only what has the property Q
pub record Passed (w h : ℕ) (words : List ℕ) (cell field : ℕ) (Q : ℕ → Type 0) (row : ℕ) (ahead : Option ℕ) : Type 0 where
  pub passed : (n t : ℕ) → (¬ (ahead ≡ None) → n < row) → ShownIn w h words cell field n t → Q t

-- before the first row there are none
pub none_passed : {w h : ℕ} {words : List ℕ} {cell field : ℕ} {Q : ℕ → Type 0} (ahead : Option ℕ) → ¬ (ahead ≡ None) → Passed w h words cell field Q 0 ahead
none_passed ahead l = record { passed = λ n t f i. absurd (let m = f l in omega arith) }

-- a sweep that goes on has not ended
goes_on : (reach : ℕ) (ahead : Option ℕ) → ahead ≡ Some reach → ¬ (ahead ≡ None)
goes_on reach ahead e f = cc

module _ {w h : ℕ} {words : List ℕ} (cell : ℕ) {field row : ℕ} {r : RowEnd} (p : PassedRow w h words (cell % w) (cell / w) field row r) where
  -- what a row shows is shown by the field
  pub row_shown : (t : ℕ) → r.shown ≡ Some t → ShownIn w h words cell field row t
  row_shown = p.said

  -- so seen from the cell
  pub row_seen : field < 8 → (t : ℕ) → r.shown ≡ Some t → Seen w h words cell t
  row_seen in_field t e = record { field = field; row = row; field_in = in_field; shown = row_shown t e }

module _ {w h : ℕ} {words : List ℕ} {cell field : ℕ} {Q : ℕ → Type 0} {row : ℕ} {ahead : Option ℕ} (a : Passed w h words cell field Q row ahead) where
  -- one that has ended has passed all rows
  pub passed_all : ahead ≡ None → (n t : ℕ) → ShownIn w h words cell field n t → Q t
  passed_all off n t i = a.passed n t (λ l. absurd (l off)) i

  -- after the row
  pub passed_next : {r : RowEnd} → PassedRow w h words (cell % w) (cell / w) field row r → (R : ℕ → Type 0) → ((t : ℕ) → Q t → R t) →
      ((t : ℕ) → r.shown ≡ Some t → R t) → Passed w h words cell field R (row + 1) r.reach
  passed_next {r} p R kept new =
      record {
        passed = λ n t l i. by n t l i (dec_le (suc row) n) (ℕ_discrete n row) r.reach refl;
      }
    where
      by : (n t : ℕ) → (¬ (r.reach ≡ None) → n < row + 1) → ShownIn w h words cell field n t →
          Dec (suc row ≤ n) → Dec (n ≡ row) → (o : Option ℕ) → r.reach ≡ o → R t
      by n t l i (yes m) d None e = absurd (p.ends e n (place_of w t) m i.1.shows)
      by n t l i (yes m) d (Some reach) e = absurd (let q = l (goes_on reach r.reach e) in omega arith)
      by n t l i (no m) (yes e) o b = new t (p.unsaid (place_of w t) (rw e at i.1) ∙ ap Some (number_of_cell w t))
      by n t l i (no m) (no d) o b = kept t (a.passed n t (λ z. omega (arith, m, d)) i)

-- ---- a sweep that puts what it shows in its place
module _ (w h : ℕ) (words : List ℕ) (cell field : ℕ) (list₀ : List ℕ) (from m : ℕ) where
  -- what the rows passed show was put in its place, and nothing else
  pub record Swept (list : List ℕ) (end row : ℕ) (ahead : Option ℕ) : Type 0 where
    pub finding : Finding w h words cell list from end
    pub grown : Grown list₀ from m end list
    pub sweep : Passed w h words cell field (λ t. In t (part list from end)) row ahead

  module _ (in_field : field < 8) (list : List ℕ) (end row : ℕ) (ahead : Option ℕ) (a : Swept list end row ahead)
      (r : RowEnd) (p : PassedRow w h words (cell % w) (cell / w) field row r) where
    -- after the row
    pub swept_next : (k : ℕ) (exit : List ℕ) → PutShown list from end r.shown (Some k) exit → Swept exit k (row + 1) r.reach
    swept_next k exit put =
        let x : Put w h words cell list from end a.finding r.shown k exit =
        put_shown w h words cell list from end a.finding r.shown k exit (row_seen cell p in_field) put in
        record {
          finding = x.finding;
          grown = grown_trans a.grown x.grown;
          sweep = passed_next a.sweep p _ x.grown.kept x.there;
        }

    -- where there is no room, there is more than there is room for
    pub swept_crowded : (exit : List ℕ) → PutShown list from end r.shown None exit → Crowded w h words cell (length list) from
    swept_crowded exit put = (crowded w h words cell list from end a.finding r.shown exit (row_seen cell p in_field) put).0
