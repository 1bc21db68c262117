-- What marking finds of a floor (01, "Turning points, clearances, links"): clearances and turning points.
use Rattle.std.specs.Prelude.{ℕ, ◌+◌, ◌*◌, ◌<◌, ◌≡◌, false, List, ◌⊎◌, length, get_or}
use Rattle.floor.specs.Board.{Board, Place, Dir, dir_at}
use Rattle.floor.specs.Words.{board, place_of}
use Rattle.ground.specs.Clearance.{Clearance}
use Rattle.corners.specs.Corners.{corner_cells}

-- the clearance of a place, 0 where it is blocked
abbrev pub ClearanceAt : Board → Dir → Place → ℕ → Type 0
ClearanceAt B d p m = ((B p.x p.y ≡ false) × (m ≡ 0)) ⊎ Clearance B d p m

-- entry 4 c + d of the clearances is that of cell c in direction d
abbrev pub ClearedAt : ℕ → ℕ → List ℕ → List ℕ → ℕ → ℕ → Type 0
ClearedAt w h words clear c d = ClearanceAt (board w h words) (dir_at d) (place_of w c) (get_or clear (4 * c + d) 0)

-- every clearance is in its entry
abbrev pub Cleared : ℕ → ℕ → List ℕ → List ℕ → Type 0
Cleared w h words clear = (c d : ℕ) → c < w * h → d < 4 → ClearedAt w h words clear c d

-- what marking finds: the clearances, four per cell in the order N, E, S, W, by cell number; and the turning points
pub record Marks (w h : ℕ) (words clear corners : List ℕ) : Type 0 where
  pub four_each : length clear ≡ 4 * (w * h)
  pub cleared : Cleared w h words clear
  pub ascending : corners ≡ corner_cells w h words
