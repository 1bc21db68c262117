-- The roads of a trip as they are lent: what is reckoned from their lists and the trip, and what is true of these.
use Rattle.std.specs.Prelude.{ℕ, List}
use Rattle.places.specs.declared.Trip.{Trip}
use Rattle.places.specs.declared.roads.Roads.{Roads}

-- what is reckoned from corners, starts, neighbours and trip
abbrev pub of : {A : Type 0} → (List ℕ → List ℕ → List ℕ → Trip → A) → Roads → A
of f r = f r.corners.now r.starts.now r.neighbours.now r.trip

-- what is true of corners, starts, neighbours and trip
abbrev pub on : {P : Type 1} → (List ℕ → List ℕ → List ℕ → Trip → P) → Roads → P
on P r = P r.corners.now r.starts.now r.neighbours.now r.trip

-- what is reckoned from corners and trip alone: of the places' cells
abbrev pub of_places : {A : Type 0} → (List ℕ → Trip → A) → Roads → A
of_places f r = f r.corners.now r.trip

-- what is true of corners and trip alone
abbrev pub on_places : {P : Type 1} → (List ℕ → Trip → P) → Roads → P
on_places P r = P r.corners.now r.trip
