-- The direct line from a cell to itself is clear, and the route is the cell alone.
-- Assumes nothing.
use Prim.Native.Nat.{ℕ}
use mathlib.Core.Path.{◌≡◌, sym, ◌∙◌, ap, subst}
use mathlib.Core.List.{List, [], ◌∷◌, ◌++◌}
use mathlib.Core.Logic.{inl, inr}
use lib.ListN.{replicate}
use Rattle.lengths.specs.Lengths.{Len}
use Rattle.lengths.specs.Octile.{distance_self}
use Rattle.floor.specs.Board.{Place, Dir, Free}
use Rattle.floor.specs.Words.{board, place_of}
use Rattle.ground.specs.Kind.{walkers}
use Rattle.ground.specs.Walk.{Legal}
use Rattle.ground.specs.Line.{diagonal_way, straight_way, line}
use Rattle.line.specs.Cells.{after}
use Rattle.chain.specs.Route.{LineClear, RouteOf}

-- the direct line of a place to itself has no step
pub line_none : (p : Place) → line p p ≡ []
line_none p =
    ap (λ (l : Len). replicate l.diagonal (diagonal_way p p) ++ replicate l.straight (straight_way p p)) (distance_self p.x p.y)

module _ (w h : ℕ) (words : List ℕ) (start : ℕ) (free : Free (board w h words) (place_of w start)) where
  -- The direct line from a free cell to itself is clear.
  pub start_is_goal : LineClear w h words start start
  start_is_goal = subst (λ (ds : List Dir). Legal walkers (board w h words) (place_of w start) ds) (sym (line_none (place_of w start))) free

  -- So its route is that cell alone.
  pub stay_route : (cells : List ℕ) → RouteOf w h words start start cells → cells ≡ start ∷ []
  stay_route cells (inl p) = p.1 ∙ ap (λ (ds : List Dir). start ∷ after w (place_of w start) ds) (line_none (place_of w start))
  stay_route cells (inr r) = absurd (r.barred start_is_goal)
