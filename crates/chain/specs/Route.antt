-- The route of a trip (01, "Query"): the direct line where it is legal, else the chain found backwards from the goal, each leg walked by
-- its own direct line. Start and goal are cells by number.
use Rattle.std.specs.Prelude.{ℕ, ◌+◌, ◌≤◌, List, [], ◌∷◌, ◌++◌, ◌⊎◌, ◌≢◌, ◌≡◌}
use Rattle.lengths.specs.Lengths.{Len}
use Rattle.floor.specs.Words.{board, place_of}
use Rattle.ground.specs.Kind.{walkers}
use Rattle.ground.specs.Walk.{Legal}
use Rattle.ground.specs.Line.{line}
use Rattle.effort.specs.Effort.{Far}
use Rattle.effort.specs.Net.{Precedes}
use Rattle.line.specs.Cells.{after, legs}

-- how many cells a route of this length has
abbrev pub cells_of : Len → ℕ
cells_of l = l.straight + l.diagonal + 1

module _ (w h : ℕ) (words : List ℕ) (start goal : ℕ) where
  -- the direct line from start to goal is legal
  abbrev pub LineClear : Type 0
  LineClear = Legal walkers (board w h words) (place_of w start) (line (place_of w start) (place_of w goal))

  -- u is the place before v: of those linked to v whose distance and the octile distance to v make v's distance, the one with the least
  -- cell number
  pub record Before (v u : ℕ) : Type 0 where
    pub far : Len
    pub shortest : Far w h words start v far
    pub nearer : Len
    pub precedes : Precedes w h words start goal v far u nearer
    pub least : (t : ℕ) (m : Len) → Precedes w h words start goal v far t m → u ≤ t

  -- the chain found backwards from v, listed from the start
  pub data ChainTo : ℕ → List ℕ → Type 0 where
    here : ChainTo start (start ∷ [])
    back : {v u : ℕ} {places : List ℕ} → v ≢ start → Before v u → ChainTo u places → ChainTo v (places ++ (v ∷ []))

  -- the cells of the route, with both ends
  pub record ByChain (cells : List ℕ) : Type 0 where
    pub barred : ¬ LineClear
    pub places : List ℕ
    pub chain : ChainTo goal places
    pub walked : cells ≡ start ∷ legs w places

  -- the route: the direct line where it is clear, else by a chain
  abbrev pub RouteOf : List ℕ → Type 0
  RouteOf cells =
      (LineClear × (cells ≡ start ∷ after w (place_of w start) (line (place_of w start) (place_of w goal)))) ⊎ ByChain cells
