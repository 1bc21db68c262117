-- Document 01's sums to prove, P1 to P12, as one table ("Twelve sums to prove"). Each row has its number and what it says over the
-- definitions.
use Rattle.std.specs.Prelude.{ℕ, List, [], ◌∷◌, ◌≡◌}
use Rattle.lengths.specs.Lengths.{pair, over, ◌≺◌, figure_of}
use Rattle.floor.specs.Board.{N, E, S}
use Rattle.floor.specs.Words.{board, place_of, row_of}
use Rattle.ground.specs.Kind.{walkers}
use Rattle.ground.specs.Walk.{Legal, NoWalk}
use Rattle.ground.specs.Line.{line}
use Rattle.corners.specs.Corners.{corner_cells}
use Rattle.marks.specs.Marks.{ClearanceAt}
use Rattle.plan.specs.Plan.{LinkedCells}
use Rattle.effort.specs.Effort.{Far, EffortFound, EffortLost}
use Rattle.sums.specs.Drawing.{hall, bent, split, barred}

pub record Sum : Type 1 where
  pub number : ℕ
  pub says : Type 0

abbrev pub sum : ℕ → Type 0 → Sum
sum n P = record { number = n; says = P }

-- no walk leads from a cell to another
abbrev pub NoWay : ℕ → ℕ → List ℕ → ℕ → ℕ → Type 0
NoWay w h words s g = NoWalk walkers (board w h words) (place_of w s) (place_of w g)

abbrev pub table : List Sum
table =
    sum 1 ((pair 7 0 ≺ pair 0 5) × (over (pair 7 0) (pair 0 5) ≡ 49) × (over (pair 0 5) (pair 7 0) ≡ 50))
    ∷ sum 2 ((pair 0 12 ≺ pair 17 0) × (over (pair 17 0) (pair 0 12) ≡ 289) × (over (pair 0 12) (pair 17 0) ≡ 288))
    ∷ sum 3 ((pair 239 0 ≺ pair 0 169) × (over (pair 239 0) (pair 0 169) ≡ 57121) × (over (pair 0 169) (pair 239 0) ≡ 57122)
    × (figure_of (pair 239 0) ≡ 2390000) × (figure_of (pair 0 169) ≡ 2389998))
    ∷ sum 4 (corner_cells 5 3 hall ≡ 1 ∷ 3 ∷ 11 ∷ 13 ∷ [])
    ∷ sum 5 (ClearanceAt (board 5 3 hall) E (place_of 5 0) 1 × ClearanceAt (board 5 3 hall) S (place_of 5 0) 2)
    ∷ sum 6 (ClearanceAt (board 5 3 hall) N (place_of 5 1) 0 × ClearanceAt (board 5 3 hall) E (place_of 5 1) 2)
    ∷ sum 7 ((¬ (LinkedCells walkers 5 3 hall 1 13)) × LinkedCells walkers 5 3 hall 1 11)
    ∷ sum 8 (row_of 5 hall 1 ≡ 18446744073709551588 ∷ [])
    ∷ sum 9 ((corner_cells 2 2 bent ≡ 2 ∷ []) × Far 2 2 bent 0 3 (pair 2 0))
    ∷ sum 10 ((¬ (Legal walkers (board 2 2 bent) (place_of 2 0) (line (place_of 2 0) (place_of 2 3)))) × EffortFound 2 2 bent 0 3 3)
    ∷ sum 11 (NoWay 2 2 split 0 3 × EffortLost 2 2 split 0 3 1)
    ∷ sum 12 ((corner_cells 3 1 barred ≡ []) × NoWay 3 1 barred 0 2 × EffortLost 3 1 barred 0 2 1)
    ∷ []

-- every row of a table holds
abbrev pub AllHold : List Sum → Type 0
AllHold [] = Unit {0}
AllHold (s ∷ rest) = s.says × AllHold rest
