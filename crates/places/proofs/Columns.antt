-- Laws of the work space: a column's entry, and what a store to one column leaves.
-- Assumes nothing.
use mathlib.Core.Path.{◌≡◌, refl, ◌∙◌}
use mathlib.Core.List.{List}
use Prim.Native.Nat.{ℕ, ◌+◌, ◌*◌, ◌-◌, ◌≤◌, ◌<◌}
use native.Mathlib.Nat.{mul-le-mul_right}
use native.Mathlib.Omega.{arith}
use native.Mathlib.Decide.{dec_lt}
use lib.ListN.{length, get_or, take, drop, set, length-set, length-take, length-drop}
use lib.Seq.{get_or-take, get_or-drop, take-set-le, take-set-lt, drop-set-lt, drop-set-add}
use Rattle.places.specs.Columns.{column_of, Inside, Only, Put, Left}

-- One column more still ends within the columns.
column_ends : (n c d : ℕ) → c < d → c * n + n ≤ d * n
column_ends n c d h = omega (arith, mul-le-mul_right n h)

module _ (n : ℕ) (W : List ℕ) (c : ℕ) where
  -- An entry lies within the work space.
  pub entry_inside : (i : ℕ) → Inside n W c i → c * n + i < length W
  entry_inside i h = omega (arith, column_ends n c 6 h.column)

  -- A column has n entries.
  pub column_length : c < 6 → 6 * n ≤ length W → length (column_of n W c) ≡ n
  unfolding column_of
  column_length h room = rw (length-take n (drop (c * n) W), length-drop (c * n) W) (omega (arith, column_ends n c 6 h))

  -- What stands in a column is read at its place in the work space.
  pub column_at : (i : ℕ) → i < n → get_or (column_of n W c) i 0 ≡ get_or W (c * n + i) 0
  unfolding column_of
  column_at i h = get_or-take n (drop (c * n) W) i 0 h ∙ get_or-drop (c * n) W i 0

  module _ (i v : ℕ) (inside : Inside n W c i) where
    -- A store to one column leaves every other.
    other_column : (d : ℕ) → (d ≡ c → ⊥) → column_of n (set W (c * n + i) v) d ≡ column_of n W d
    unfolding column_of
    other_column d apart = go (dec_lt d c)
      where
        go : Dec (d < c) → take n (drop (d * n) (set W (c * n + i) v)) ≡ take n (drop (d * n) W)
        go (yes l) =
            let q : c * n + i ≡ d * n + (c * n + i - d * n) = omega (arith, column_ends n d c l) in
            rw (q, drop-set-add (d * n) W (c * n + i - d * n) v)
            (take-set-le n (drop (d * n) W) (c * n + i - d * n) v (omega (arith, column_ends n d c l)))
        go (no l) =
            rw (drop-set-lt (d * n) W (c * n + i) v (omega (arith, inside.place, column_ends n c d (omega arith))))

    -- The one lemma of columns: a store changes one entry of one column and nothing else.
    pub put_entry : Put n W c i v (set W (c * n + i) v)
    unfolding column_of
    put_entry = record {
      here = rw (drop-set-add (c * n) W i v) (take-set-lt n (drop (c * n) W) i v inside.place);
      only = record {
        others = other_column;
        rest = drop-set-lt (6 * n) W (c * n + i) v (omega (arith, inside.place, column_ends n c 6 inside.column));
        sized = length-set W (c * n + i) v;
      };
    }

-- What has changed nowhere is left.
pub left_same : (n : ℕ) (W : List ℕ) → Left n W W
left_same n W = record { by_start = refl; by_goal = refl; next = refl; rest = refl; sized = refl }

module _ {n : ℕ} {W W' : List ℕ} where
  -- A change of labels or settled places leaves the rest.
  pub only_left : {c : ℕ} → c < 3 → Only n W c W' → Left n W W'
  only_left h o = record {
    by_start = o.others 3 (λ q. omega arith);
    by_goal = o.others 4 (λ q. omega arith);
    next = o.others 5 (λ q. omega arith);
    rest = o.rest;
    sized = o.sized;
  }

  -- One change after another.
  pub left_trans : {W'' : List ℕ} → Left n W W' → Left n W' W'' → Left n W W''
  left_trans a b = record {
    by_start = b.by_start ∙ a.by_start;
    by_goal = b.by_goal ∙ a.by_goal;
    next = b.next ∙ a.next;
    rest = b.rest ∙ a.rest;
    sized = b.sized ∙ a.sized;
  }

  -- One change of the same column after another.
  pub only_trans : {W'' : List ℕ} {c : ℕ} → Only n W c W' → Only n W' c W'' → Only n W c W''
  only_trans a b = record {
    others = λ d h. b.others d h ∙ a.others d h;
    rest = b.rest ∙ a.rest;
    sized = b.sized ∙ a.sized;
  }

-- A column that changes nowhere is the only one to change.
pub only_same : (n : ℕ) (W : List ℕ) (c : ℕ) → Only n W c W
only_same n W c = record { others = λ d h. refl; rest = refl; sized = refl }
