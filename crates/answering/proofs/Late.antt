-- What a query comes to that none of the refusals 1 to 11 stops: by the direct line, or by the search. Assumes nothing.
use Prim.Native.Nat.{ℕ, ◌<◌, ◌≤◌}
use mathlib.Core.List.{List}
use mathlib.Core.Logic.{inl, inr, ⊎_elim}
use mathlib.Core.Path.{◌≡◌, refl, ap}
use native.Mathlib.Decide.{dec_le}
use native.Mathlib.Omega.{arith}
use lib.ListN.{length, replicate}
use Rattle.lengths.specs.Lengths.{Len}
use Rattle.floor.specs.Words.{board, place_of}
use Rattle.ground.specs.Kind.{walkers, octile}
use Rattle.ground.specs.Walk.{NoWalk}
use Rattle.ground.proofs.Least.{line_shortest}
use Rattle.ground.proofs.Walks.{shortest_unique}
use Rattle.corners.specs.Lists.{written}
use Rattle.chain.specs.Route.{LineClear, RouteOf, cells_of}
use Rattle.answering.specs.Asked.{Asked, cell_of_start, cell_of_goal, work_size, Distance, WalkFound, Billed}
use Rattle.answering.specs.Steps.{LateOutcome}
use Rattle.telling.specs.Told.{Measured, RouteLeft, LineAnswer}
use Rattle.answering.specs.Answers.{SearchFound, SearchLost}
use Rattle.telling.specs.declared.Answer.{Answer}

module _ (a : Asked) where
  -- the direct line from start to goal is legal
  abbrev Line : Type 0
  Line = LineClear a.w a.h a.words (cell_of_start a) (cell_of_goal a)

  -- a walk of a known shortest length leads to the goal, and its route is known
  module _ (r : Answer) (far : Len) (shortest : Distance a far) (measured : Measured r far) (billed : Billed a r.effort) (cells : List ℕ)
      (is_route : RouteOf a.w a.h a.words (cell_of_start a) (cell_of_goal a) cells) (route₁ : List ℕ) (left : RouteLeft r cells a.route route₁ far)
      (work₁ : List ℕ) (cleared : work₁ ≡ written (replicate (work_size a) 0) a.work) where
    -- it cannot be that no walk leads to the goal
    some_walk : ¬ (NoWalk walkers (board a.w a.h a.words) (place_of a.w (cell_of_start a)) (place_of a.w (cell_of_goal a)))
    some_walk n = let s = shortest.some in n s.0 s.1

    -- the numbers of the answer are those of the walk
    got : WalkFound a r
    got = record { far = far; shortest = shortest; straight = measured.straight; diagonal = measured.diagonal; cells = measured.cells; billed = billed }

    -- so the answer is 0 and the route is written, or it is 13 where the route has no room
    pub late_found : LateOutcome a r route₁ work₁
    late_found = by (dec_le (cells_of far) (length a.route))
      where
        by : Dec (cells_of far ≤ length a.route) → LateOutcome a r route₁ work₁
        by (yes l) =
            let f = left.fits l in
            record {
              number = inr (some_walk, inr (λ s. no_less l s, f.0));
              found = λ e. got;
              lost = λ e. absurd (let z = f.0 in omega arith);
              route_written = λ e. record { cells = cells; is_route = is_route; there = f.1 };
              route_kept = λ e. absurd (let z = f.0 in omega arith);
              work_cleared = cleared;
            }
          where
            -- where the route has room, refusal 13 does not apply
            no_less : cells_of far ≤ length a.route → ¬ ((l : Len) × Distance a l × (length a.route < cells_of l))
            no_less l s =
                let e = ap cells_of (shortest_unique s.1 shortest) in
                let m = s.2 in
                omega arith
        by (no l) =
            let f = left.full (omega (arith, l)) in
            record {
              number = inr (some_walk, inl ((far, shortest, omega (arith, l)), f.0));
              found = λ e. got;
              lost = λ e. absurd (let z = f.0 in omega arith);
              route_written = λ e. absurd (let z = f.0 in omega arith);
              route_kept = λ e. f.1;
              work_cleared = cleared;
            }

  -- no walk leads to the goal
  pub late_lost : (r : Answer) (route₁ work₁ : List ℕ) → SearchLost a.w a.h a.words a.plan (cell_of_start a) (cell_of_goal a) r a.route route₁ →
      work₁ ≡ written (replicate (work_size a) 0) a.work → LateOutcome a r route₁ work₁
  late_lost r route₁ work₁ s cleared =
      record {
        number = inl (s.billed.none, s.code);
        found = λ e. absurd (⊎_elim (λ z. let c = s.code in omega arith) (λ z. let c = s.code in omega arith) e);
        lost = λ e. (record { straight = s.straight; diagonal = s.diagonal; cells = s.cells }, s.billed);
        route_written = λ e. absurd (let c = s.code in omega arith);
        route_kept = λ e. s.kept;
        work_cleared = cleared;
      }

  -- the direct line is clear, and is the route
  pub late_line : (r : Answer) (route₁ work₁ : List ℕ) → Line →
      LineAnswer a.w (cell_of_start a) (place_of a.w (cell_of_start a)) (place_of a.w (cell_of_goal a)) r a.route route₁ →
      work₁ ≡ written (replicate (work_size a) 0) a.work → LateOutcome a r route₁ work₁
  late_line r route₁ work₁ clear l cleared =
      late_found r (octile (place_of a.w (cell_of_start a)) (place_of a.w (cell_of_goal a)))
      (line_shortest (board a.w a.h a.words) (place_of a.w (cell_of_start a)) (place_of a.w (cell_of_goal a)) clear) l.measured
      (inl (clear, l.free)) _ (inl (clear, refl)) route₁ l.left work₁ cleared

  -- it is not, and the search found the goal
  pub late_search : (r : Answer) (route₁ work₁ : List ℕ) → ¬ Line →
      SearchFound a.w a.h a.words a.plan (cell_of_start a) (cell_of_goal a) r a.route route₁ →
      work₁ ≡ written (replicate (work_size a) 0) a.work → LateOutcome a r route₁ work₁
  late_search r route₁ work₁ barred s cleared =
      late_found r s.far s.shortest s.measured (inr (barred, s.billed)) s.cells s.is_route route₁ s.left work₁ cleared
