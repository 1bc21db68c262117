-- The places of a trip's start and goal, by index: a corner's own, or one of the two behind the corners.
use Rattle.std.specs.Prelude.{ℕ, ◌+◌, ◌<◌, List, ◌≡◌, length}
use Rattle.places.specs.Places.{index_of}
use Rattle.places.specs.declared.Trip.{Trip}

pub record TripOf (w : ℕ) (corners : List ℕ) (start goal : ℕ) (t : Trip) : Type 0 where
  pub width : t.w ≡ w
  pub count : t.k ≡ length corners
  pub start_cell : t.start ≡ start
  pub goal_cell : t.goal ≡ goal
  pub from : t.from ≡ index_of corners start
  pub to_corner : index_of corners goal < length corners → t.to ≡ index_of corners goal
  pub to_other : length corners ≡ index_of corners goal → t.to ≡ length corners + 1
