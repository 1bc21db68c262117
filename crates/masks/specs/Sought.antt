-- What masks look for, free cells or turning points, is found at free places only.
use Rattle.std.specs.Prelude.{false, ◌≡◌}
use Rattle.floor.specs.Board.{Board, Place, corner}

-- a place that is not free is no turning point
pub corner_blocked : (B : Board) (p : Place) → B p.x p.y ≡ false → corner B p ≡ false
unfolding corner
corner_blocked B p e = rw e
