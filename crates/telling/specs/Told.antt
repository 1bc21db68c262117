-- What is told of a walk, and what is left of the route's list.
use Rattle.std.specs.Prelude.{ℕ, ◌<◌, ◌≤◌, ◌≡◌, List, ◌∷◌, length}
use Rattle.lengths.specs.Lengths.{Len}
use Rattle.floor.specs.Board.{Place}
use Rattle.ground.specs.Kind.{octile}
use Rattle.ground.specs.Line.{line}
use Rattle.corners.specs.Lists.{written}
use Rattle.effort.specs.Effort.{Far}
use Rattle.line.specs.Cells.{after}
use Rattle.chain.specs.Route.{RouteOf, cells_of}
use Rattle.chain.specs.Chain.{Journey}
use Rattle.telling.specs.declared.Answer.{Answer}

-- the numbers of a length, with its cells
pub record Measured (r : Answer) (l : Len) : Type 0 where
  pub straight : r.straight ≡ l.straight
  pub diagonal : r.diagonal ≡ l.diagonal
  pub cells : r.cells ≡ cells_of l

-- what is told of a walk of length l: its numbers, the effort, and 0, or 13 where the route has no room for its cells
pub record Told (l : Len) (effort room : ℕ) (r : Answer) : Type 0 where
  pub measured : Measured r l
  pub billed : r.effort ≡ effort
  pub fits : cells_of l ≤ room → r.code ≡ 0
  pub full : room < cells_of l → r.code ≡ 13

-- r tells that no walk leads to the goal, and the effort
pub record ToldNone (effort : ℕ) (r : Answer) : Type 0 where
  pub code : r.code ≡ 12
  pub straight : r.straight ≡ 0
  pub diagonal : r.diagonal ≡ 0
  pub cells : r.cells ≡ 0
  pub billed : r.effort ≡ effort

-- a route was written where it has room, and else the list is as it was
pub record RouteLeft (r : Answer) (cells route₀ route₁ : List ℕ) (l : Len) : Type 0 where
  pub fits : cells_of l ≤ length route₀ → (r.code ≡ 0) × (route₁ ≡ written cells route₀)
  pub full : length route₀ < cells_of l → (r.code ≡ 13) × (route₁ ≡ route₀)

-- the direct line from s, which is cell `start`, to t was taken
pub record LineAnswer (w start : ℕ) (s t : Place) (r : Answer) (route₀ route₁ : List ℕ) : Type 0 where
  pub measured : Measured r (octile s t)
  pub free : r.effort ≡ 0
  pub left : RouteLeft r (start ∷ after w s (line s t)) route₀ route₁ (octile s t)

-- a journey whose goal the search settled after `effort` places was walked back: its length is told, and its route written where it has room
pub record Retraced (a : Journey) (effort : ℕ) (r : Answer) (route₀ route₁ : List ℕ) : Type 0 where
  pub far : Len
  pub shortest : Far a.w a.h a.words a.start a.goal far
  pub measured : Measured r far
  pub billed : r.effort ≡ effort
  pub cells : List ℕ
  pub is_route : RouteOf a.w a.h a.words a.start a.goal cells
  pub left : RouteLeft r cells route₀ route₁ far
