-- M, how many neighbours the turning points of a floor have together, and that they are too many.
use Rattle.std.specs.Prelude.{ℕ, ◌<◌, ◌≡◌, List, ◌⊎◌, length}
use Rattle.ground.specs.Kind.{walkers}
use Rattle.corners.specs.Corners.{corner_cells}
use Rattle.plan.specs.Plan.{Links}

-- M is m: the neighbours of all turning points are m
pub record Arcs (w h : ℕ) (words : List ℕ) (m : ℕ) : Type 0 where
  pub starts : List ℕ
  pub neighbours : List ℕ
  pub links : Links walkers w h words (corner_cells w h words) starts neighbours
  pub count : length neighbours ≡ m

-- M is above the entries lent or above 32,768
abbrev pub TooMany : ℕ → ℕ → List ℕ → ℕ → Type 0
TooMany w h words entries = (m : ℕ) × Arcs w h words m × ((entries < m) ⊎ (32768 < m))
