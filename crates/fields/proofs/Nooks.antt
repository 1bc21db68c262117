-- A place before a blocked one is a turning point where it opens out on one side. Assumes nothing.
use Prim.Native.Nat.{ℕ, suc, ◌+◌, ◌%◌, ◌<◌}
use mathlib.Core.Bool.{false, ◌||◌, and-true, or-false, or_comm}
use mathlib.Core.Path.{◌≡◌, ◌∙◌, ap}
use native.Mathlib.Omega.{arith}
use borrow.Author.Rules.{rules}
use Rattle.floor.specs.Board.{Board, at, Free, Dir, N, E, S, W, dir_at, dx, dy, shift, go, nook, corner}
use Rattle.floor.proofs.Below.{below}
use Rattle.ground.proofs.Logic.{and-false}
use Rattle.ground.proofs.Cells.{back, back_undoes}
use Rattle.ground.proofs.Walks.{place_eq}
use Rattle.fields.specs.Fields.{opens_out}

-- ahead is blocked, behind is free: a turning point is what opens out to the right or to the left
abbrev BySides : Dir → Dir → Dir → Dir → Type 0
BySides c right b left =
    (B : Board) (x y : ℕ) → Free B (at x y) → Free B (go b (at x y)) → B (go c (at x y)).x (go c (at x y)).y ≡ false →
    corner B (at x y) ≡ (opens_out B right (go b (at x y)) (at x y) || opens_out B left (go b (at x y)) (at x y))

-- ahead is north
north : BySides N E S W
unfolding corner nook
north B x y f g k = simp (f, g, k, and-false, and-true, or-false)

-- east
east : BySides E S W N
unfolding corner nook
east B x y f g k = simp (f, g, k, and-false)

-- south
south : BySides S W N E
unfolding corner nook
south B x y f g k =
    simp (f, g, k, and-false, and-true) (or_comm (opens_out B E (go N (at x y)) (at x y)) (opens_out B W (go N (at x y)) (at x y)))

-- or west
west : BySides W N E S
unfolding corner nook
west B x y f g k = simp (f, g, k, and-false, or-false)

-- the four by number
pub by_sides : (d : ℕ) → d < 4 → BySides (dir_at d) (dir_at ((d + 1) % 4)) (dir_at ((d + 2) % 4)) (dir_at ((d + 3) % 4))
by_sides = below (λ d. BySides (dir_at d) (dir_at ((d + 1) % 4)) (dir_at ((d + 2) % 4)) (dir_at ((d + 3) % 4))) 4 (north, (east, (south, (west, tt))))

-- two directions further is back
record Opposite (d : ℕ) : Type 0 where
  column : dx (dir_at ((d + 2) % 4)) ≡ back (dx (dir_at d))
  row : dy (dir_at ((d + 2) % 4)) ≡ back (dy (dir_at d))

-- for each of the four
opposite : (d : ℕ) → d < 4 → Opposite d
opposite = below Opposite 4 (search rules)

-- so it leads from the next cell back to where one came from
pub went_back : (d : ℕ) → d < 4 → (qx qy x y : ℕ) → at x y ≡ go (dir_at d) (at qx qy) → go (dir_at ((d + 2) % 4)) (at x y) ≡ at qx qy
went_back d l qx qy x y e =
    let o = opposite d l in
    place_eq
    (ap (λ v. shift v (suc x)) o.column ∙ ap (λ p. shift (back (dx (dir_at d))) p.x) e ∙ back_undoes (dx (dir_at d)) (omega arith))
    (ap (λ v. shift v (suc y)) o.row ∙ ap (λ p. shift (back (dy (dir_at d))) p.y) e ∙ back_undoes (dy (dir_at d)) (omega arith))
