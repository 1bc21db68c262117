-- What offers do to the work space.
-- Assumes nothing.
use Rattle.std.specs.Prelude.{◌≡◌, ◌⊎◌, cond, List, Some, None, ℕ, ◌+◌, ◌≤◌, ◌<◌, min, ltb, length, get_or, set}
use Rattle.places.specs.declared.Trip.{Trip}
use Rattle.places.specs.Columns.{column_of, Label, Settled, Left}
use Rattle.places.specs.Chart.{Chart, chart, link_at, net}
use Rattle.offers.specs.Tree.{Right}

-- The weight of 16,383 diagonal steps: no shortest walk on a floor has more steps.
abbrev pub limit : ℕ
limit = 1871643069

-- The entry after an offer: the less of the two, where there was one.
abbrev pub lowered : ℕ → ℕ → ℕ
lowered old new = cond (ltb 0 old) (min old new) new

-- Place v has been offered the entry `new`, and the tree is right.
pub record Offer (C : List ℕ) (t : Trip) (W T : List ℕ) (v new : ℕ) (W' T' : List ℕ) : Type 0 where
  pub label : column_of (t.k + 2) W' Label ≡ set (column_of (t.k + 2) W Label) v (lowered (get_or (column_of (t.k + 2) W Label) v 0) new)
  pub settled : column_of (t.k + 2) W' Settled ≡ column_of (t.k + 2) W Settled
  pub left : Left (t.k + 2) W W'
  pub right : Right C t W' T'
  pub tree : length T' ≡ length T

-- Between D and D' the place u, whose entry is d, has offered a way along its links below the k-th: an entry changes only to an offer, is
-- never lost and never grows, and is at most each offer.
pub record Offered (𝓒 : Chart) (u d k : ℕ) (D D' : List ℕ) : Type 0 where
  pub from : (v : ℕ) → (get_or D' v 0 ≡ get_or D v 0) ⊎ ((j : ℕ) × (j < k) × (link_at 𝓒 u j ≡ Some v) × (get_or D' v 0 ≡ d + (net 𝓒).weight u v))
  pub kept : (v : ℕ) → 0 < get_or D v 0 → (0 < get_or D' v 0) × (get_or D' v 0 ≤ get_or D v 0)
  pub offered : (j v : ℕ) → j < k → link_at 𝓒 u j ≡ Some v → (0 < get_or D' v 0) × (get_or D' v 0 ≤ d + (net 𝓒).weight u v)

-- Link j of u has been followed: the place that it leads to, if it leads to one, has been offered d and the link's length.
pub record Follow (C S E : List ℕ) (t : Trip) (W T : List ℕ) (u d j : ℕ) (W' T' : List ℕ) : Type 0 where
  pub some : (v : ℕ) → link_at (chart C S E t W) u j ≡ Some v → Offer C t W T v (d + (net (chart C S E t W)).weight u v) W' T'
  pub none : link_at (chart C S E t W) u j ≡ None → (W' ≡ W) × (T' ≡ T)
  pub inside : (v : ℕ) → link_at (chart C S E t W) u j ≡ Some v → v < t.k + 2

-- The links of u below the k-th have been followed.
pub record Followed (C S E : List ℕ) (t : Trip) (W T : List ℕ) (u d k : ℕ) (W' T' : List ℕ) : Type 0 where
  pub offered : Offered (chart C S E t W) u d k (column_of (t.k + 2) W Label) (column_of (t.k + 2) W' Label)
  pub settled : column_of (t.k + 2) W' Settled ≡ column_of (t.k + 2) W Settled
  pub left : Left (t.k + 2) W W'
  pub right : Right C t W' T'
  pub tree : length T' ≡ length T
