-- The tree of keys over the places of a trip: leaf p holds the key of place p where it waits, else nobody's.
-- Assumes nothing.
use Rattle.std.specs.Prelude.{◌≡◌, Bool, cond, false, List, ℕ, ◌+◌, ◌*◌, ◌≤◌, ◌<◌, ltb, get_or, length}
use Rattle.tree.specs.Keys.{key_of, nobody, Keyed}
use Rattle.places.specs.declared.Trip.{Trip}
use Rattle.places.specs.Columns.{column_of, Label, Settled}
use Rattle.places.specs.Places.{cell_at}

-- Whether place p waits, by the entries of labels and of settled places: it has a label and is not settled.
abbrev pub waits_at : List ℕ → List ℕ → ℕ → Bool
waits_at D F p = cond (ltb 0 (get_or F p 0)) false (ltb 0 (get_or D p 0))

-- What stands for place p in the tree: its key where it waits, else nobody.
unfoldable pub leaf_of : List ℕ → List ℕ → (ℕ → ℕ) → ℕ → ℕ
leaf_of D F cell p = cond (waits_at D F p) (key_of (get_or D p 0) (cell p) p) nobody

-- The cells of places fit the fourteen bits that a key has for them.
abbrev pub Small : List ℕ → Trip → Type 0
Small C t = (p : ℕ) → p < t.k + 2 → cell_at C t p < 16384

-- The tree T is right for the entries of the work space W.
pub record Right (C : List ℕ) (t : Trip) (W T : List ℕ) : Type 0 where
  pub small : Small C t
  pub keyed : Keyed (t.k + 2) T
  pub leaf :
      (p : ℕ) → p < t.k + 2 → get_or T (t.k + 2 + p) 0 ≡ leaf_of (column_of (t.k + 2) W Label) (column_of (t.k + 2) W Settled) (cell_at C t) p
