-- The turning points of a floor (01, "Turning points, clearances, links").
use Rattle.std.specs.Prelude.{ℕ, ◌*◌, Bool, List}
use Rattle.floor.specs.Board.{corner}
use Rattle.floor.specs.Words.{board, place_of}
use Rattle.corners.specs.Lists.{select}

-- the cell with a number is a turning point
abbrev pub corner_cell : ℕ → ℕ → List ℕ → ℕ → Bool
corner_cell w h words c = corner (board w h words) (place_of w c)

-- the turning points, ascending
abbrev pub corner_cells : ℕ → ℕ → List ℕ → List ℕ
corner_cells w h words = select (corner_cell w h words) (w * h)
