-- A tree of keys over n leaves: node i, for 0 < i < n, holds the less of what its two children 2 i and 2 i + 1 hold, and node n + p is leaf p.
-- Assumes nothing.
use Rattle.std.specs.Prelude.{◌≡◌, List, ℕ, ◌+◌, ◌*◌, ◌≤◌, ◌<◌, min, length, get_or}

-- The key of a place: keys are ordered by label, then by cell, then by place.
abbrev pub key_of : ℕ → ℕ → ℕ → ℕ
key_of label cell place = label * 67108864 + (cell * 4096 + place)

-- What stands for nobody: the last twelve bits are those of no place.
abbrev pub nobody : ℕ
nobody = 18446744073709551615

-- Node i holds the less of what its children hold.
abbrev pub LeastAt : List ℕ → ℕ → Type 0
LeastAt T i = get_or T i 0 ≡ min (get_or T (2 * i) 0) (get_or T (2 * i + 1) 0)

-- A tree of n leaves: there is room for them, and each inner node holds the less of what its children hold.
pub record Keyed (n : ℕ) (T : List ℕ) : Type 0 where
  pub room : n + n ≤ length T
  pub least : (i : ℕ) → 0 < i → i < n → LeastAt T i

-- Leaf p holds the key now, the other leaves hold what they held, and T' is a tree again.
pub record Changed (n : ℕ) (T : List ℕ) (p key : ℕ) (T' : List ℕ) : Type 0 where
  pub keyed : Keyed n T'
  pub here : get_or T' (n + p) 0 ≡ key
  pub others : (q : ℕ) → (q ≡ p → ⊥) → get_or T' (n + q) 0 ≡ get_or T (n + q) 0
  pub sized : length T' ≡ length T
