-- The flags that tell of a place's links.
-- Assumes nothing.
use Rattle.std.specs.Prelude.{◌≡◌, cond, List, ℕ, ◌+◌, ◌-◌, ◌*◌, ◌≤◌, ◌<◌, ltb}
use Rattle.places.specs.declared.Trip.{Trip}
use Rattle.places.specs.declared.Flags.{Flags}
use Rattle.places.specs.Columns.{ByStart}
use Rattle.places.specs.Chart.{count_of}

-- How many links of place u are told by flags: the last two of a corner's, and all of the start's and of the goal's.
unfoldable pub flag_count : ℕ → ℕ → ℕ
flag_count k u = cond (ltb u k) 2 k

-- The first link of place u that a flag tells of.
abbrev pub first_told : List ℕ → ℕ → ℕ → ℕ
first_told S k u = count_of S k u - flag_count k u

-- Where they stand in the work space, and to which place the first leads.
pub record FlagsOf (t : Trip) (u : ℕ) (f : Flags) : Type 0 where
  pub count : f.count ≡ flag_count t.k u
  pub corner : u < t.k → (f.at ≡ ByStart * (t.k + 2) + u) × (f.apart ≡ t.k + 2) × (f.to ≡ t.k)
  pub end : t.k ≤ u → (f.at ≡ (ByStart + u - t.k) * (t.k + 2)) × (f.apart ≡ 1) × (f.to ≡ 0)
