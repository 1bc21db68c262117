-- What a trip from one cell to another is billed for (demand 3), said of walks on the floor alone: no search is spoken of.
use Rattle.std.specs.Prelude.{ℕ, ◌*◌, ◌<◌, ◌≤◌, true, List, ◌⊎◌, ◌≡◌}
use Rattle.lengths.specs.Lengths.{Len, ◌≺◌}
use Rattle.floor.specs.Board.{corner}
use Rattle.floor.specs.Words.{board, place_of}
use Rattle.ground.specs.Kind.{walkers}
use Rattle.ground.specs.Walk.{Shortest, NoWalk}
use Rattle.settling.specs.Counts.{Counts, below}

-- l is the length of the shortest walks from the start to cell c, over the floor itself
abbrev pub Far : ℕ → ℕ → List ℕ → ℕ → ℕ → Len → Type 0
Far w h words start c l = Shortest walkers (board w h words) (place_of w start) (place_of w c) l

module _ (w h : ℕ) (words : List ℕ) (start goal : ℕ) where
  -- the places of a trip: the turning points with start and goal
  pub record PlaceCell (c : ℕ) : Type 0 where
    pub inside : c < w * h
    pub one_of : (corner (board w h words) (place_of w c) ≡ true) ⊎ ((c ≡ start) ⊎ (c ≡ goal))

  -- cell c is reached, and is no farther than the goal at length g: it is nearer, or as near with no larger cell number
  pub record NoFarther (g : Len) (c : ℕ) : Type 0 where
    pub far : Len
    pub shortest : Far w h words start c far
    pub ranks : (far ≺ g) ⊎ ((far ≡ g) × (c ≤ goal))

  -- the effort where a walk leads to the goal: the number of places that rank no later than it
  pub record EffortFound (e : ℕ) : Type 0 where
    pub far : Len
    pub shortest : Far w h words start goal far
    pub counted : Counts (λ c. PlaceCell c × NoFarther far c) (below (w * h)) e

  -- the effort where none does: the number of places that are reached, the start included
  pub record EffortLost (e : ℕ) : Type 0 where
    pub none : NoWalk walkers (board w h words) (place_of w start) (place_of w goal)
    pub counted : Counts (λ c. PlaceCell c × ((l : Len) × Far w h words start c l)) (below (w * h)) e
