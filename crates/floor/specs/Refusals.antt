-- A table of refusals, read as document 01 says ("Numbers given back"): the first row that applies, in the table's order, gives its
-- number; where none applies the number is 0.
use Rattle.std.specs.Prelude.{ℕ, ◌<◌, ◌≡◌, List, [], ◌∷◌, Bool, true, false, ◌⊎◌}

-- a row of the table: its number, and when it applies
pub record Refusal : Type 1 where
  pub number : ℕ
  pub applies : Type 0

-- the row with a number and a condition
abbrev pub refuse : ℕ → Type 0 → Refusal
refuse n P = record { number = n; applies = P }

-- c is the number of the first row that applies, or 0
abbrev pub FirstOf : List Refusal → ℕ → Type 0
FirstOf [] c = c ≡ 0
FirstOf (r ∷ rs) c = (r.applies × (c ≡ r.number)) ⊎ ((¬ r.applies) × FirstOf rs c)

-- no row has the number 0
abbrev pub Numbered : List Refusal → Type 0
Numbered [] = Unit {0}
Numbered (r ∷ rs) = (0 < r.number) × Numbered rs

-- a test's answer tells whether a condition holds
pub record Tells (P : Type 0) (answer : Bool) : Type 0 where
  pub yes : answer ≡ true → P
  pub no : answer ≡ false → ¬ P
