-- Places of a trip as its roads are lent.
use Rattle.std.specs.Prelude.{ℕ, ◌/◌, ◌%◌, List, ◌∷◌}
use Rattle.floor.specs.Board.{Place}
use Rattle.floor.specs.Words.{place_of}
use Rattle.places.specs.declared.roads.Roads.{Roads}
use Rattle.places.specs.Places.{cell_at}
use Rattle.places.specs.Roads.{of_places}
use Rattle.line.specs.Cells.{legs, Cell}
use Rattle.chain.specs.Chain.{cells_at}

-- where place i stands
abbrev pub place_at : Roads → ℕ → Place
place_at r i = place_of r.trip.w (of_places cell_at r i)

-- the cell of place i is of a floor with at most 16,384 cells
abbrev pub AtCell : Roads → ℕ → Type 0
AtCell r i = Cell r.trip.w (of_places cell_at r i % r.trip.w) (of_places cell_at r i / r.trip.w)

-- the start's cell and those of the legs along a list of places
abbrev pub cells_along : Roads → List ℕ → List ℕ
cells_along r places = r.trip.start ∷ legs r.trip.w (of_places cells_at r places)
