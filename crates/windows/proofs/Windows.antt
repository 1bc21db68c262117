-- The rules judged on a window are the rules on the board. Assumes nothing.
use Prim.Native.Nat.{ℕ, suc, ◌+◌}
use mathlib.Core.Bool.{Bool, not, ◌||◌}
use mathlib.Core.List.{List}
use mathlib.Core.Path.{◌≡◌, refl}
use native.Mathlib.Omega.{arith}
use lib.Dec.{eqb}
use Rattle.floor.specs.Board.{Board, at, Dir, N, E, S, W, NE, SE, SW, NW, Offset, less, same, more, dx, dy, shift, slanted, step, nook, corner}
use Rattle.windows.specs.Window.{cells, triple, window_of}

-- the neighbour's place from its place in a window: what code adds to an unpadded column or row
pub shift_offset : (o : Offset) (x : ℕ) → shift o (suc x) ≡ x + shift o 1
shift_offset less x = omega arith
shift_offset same x = omega arith
shift_offset more x = omega arith

-- a direction is straight where its neighbour stands beside the middle of the window, in its column or its row
pub beside_middle : (d : Dir) → (eqb (shift (dx d) 1) 1 || eqb (shift (dy d) 1) 1) ≡ not (slanted d)
beside_middle N = refl
beside_middle E = refl
beside_middle S = refl
beside_middle W = refl
beside_middle NE = refl
beside_middle SE = refl
beside_middle SW = refl
beside_middle NW = refl

-- judged on its window, a place has the steps and is the turning point that it has and is on the board
module _ (B : Board) (x y : ℕ) (win : List (List Bool)) (e : win ≡ window_of B x y) where
  -- a place is a turning point on its window where it is one on the board
  pub corner_window : corner (cells win) (at 0 0) ≡ corner B (at x y)
  unfolding corner nook window_of triple
  corner_window = rw e

  -- and a step is legal there where it is on the board
  pub step_window : (d : Dir) → step (cells win) d (at 0 0) ≡ step B d (at x y)
  unfolding step window_of triple
  step_window N = rw e
  step_window E = rw e
  step_window S = rw e
  step_window W = rw e
  step_window NE = rw e
  step_window SE = rw e
  step_window SW = rw e
  step_window NW = rw e
