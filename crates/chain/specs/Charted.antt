-- The chart of a trip: places by index, over a floor and its own plan.
-- Assumes nothing.
use Rattle.std.specs.Prelude.{ℕ, ◌+◌, ◌*◌, ◌<◌, true, false, List, ◌⊎◌, ◌≢◌, ◌↔◌, ◌≡◌, length, get_or}
use Rattle.floor.specs.Board.{Free}
use Rattle.floor.specs.Words.{Floor, board, place_of}
use Rattle.ground.specs.Kind.{walkers}
use Rattle.ground.specs.Link.{Direct}
use Rattle.plan.specs.Plan.{Lists, Fits}
use Rattle.corners.specs.Corners.{corner_cell}
use Rattle.places.specs.Places.{index_of}
use Rattle.places.specs.Chart.{Chart}
use Rattle.chain.specs.Route.{LineClear}

-- two cells, by number, are joined as Definition 2 says
abbrev pub DirectCells : ℕ → ℕ → List ℕ → ℕ → ℕ → Type 0
DirectCells w h words s t = Direct walkers (board w h words) (place_of w s) (place_of w t)

-- 𝓒 charts the trip from start to goal, two free cells whose direct line is not legal, over a floor and its own plan p: the lists are the
-- plan's; start and goal stand at their index among the corners where they are corners, else at places of their own, and only these have
-- flags
pub record Charted (w h : ℕ) (words : List ℕ) (p : Lists) (start goal : ℕ) (𝓒 : Chart) : Type 0 where
  pub floor : Floor w h words
  pub fits : Fits w h words p
  pub start_inside : start < w * h
  pub goal_inside : goal < w * h
  pub start_free : Free (board w h words) (place_of w start)
  pub goal_free : Free (board w h words) (place_of w goal)
  pub differ : start ≢ goal
  pub barred : ¬ (LineClear w h words start goal)
  pub corners : 𝓒.corners ≡ p.corners
  pub starts : 𝓒.starts ≡ p.starts
  pub neighbours : 𝓒.neighbours ≡ p.neighbours
  pub width : 𝓒.trip.w ≡ w
  pub count : 𝓒.trip.k ≡ length p.corners
  pub start_cell : 𝓒.trip.start ≡ start
  pub goal_cell : 𝓒.trip.goal ≡ goal
  pub from_corner : corner_cell w h words start ≡ true → 𝓒.trip.from ≡ index_of p.corners start
  pub from_other : corner_cell w h words start ≡ false → 𝓒.trip.from ≡ 𝓒.trip.k
  pub to_corner : corner_cell w h words goal ≡ true → 𝓒.trip.to ≡ index_of p.corners goal
  pub to_other : corner_cell w h words goal ≡ false → 𝓒.trip.to ≡ 𝓒.trip.k + 1
  pub start_flags : (i : ℕ) → i < 𝓒.trip.k →
      (0 < get_or 𝓒.by_start i 0) ↔ ((corner_cell w h words start ≡ false) × DirectCells w h words start (get_or p.corners i 0))
  pub goal_flags : (i : ℕ) → i < 𝓒.trip.k →
      (0 < get_or 𝓒.by_goal i 0) ↔ ((corner_cell w h words goal ≡ false) × DirectCells w h words goal (get_or p.corners i 0))

-- the indices of places: the corners, and start and goal where they have places of their own
abbrev pub Used : Chart → ℕ → Type 0
Used 𝓒 i =
    (i < 𝓒.trip.k)
    ⊎ (((i ≡ 𝓒.trip.k) × (𝓒.trip.from ≡ 𝓒.trip.k)) ⊎ ((i ≡ 𝓒.trip.k + 1) × (𝓒.trip.to ≡ 𝓒.trip.k + 1)))
