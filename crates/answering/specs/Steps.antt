-- What follows the refusals 1 to 11 of a query.
use Rattle.std.specs.Prelude.{ℕ, ◌<◌, ◌≤◌, ◌≡◌, List, [], ◌∷◌, ◌⊎◌, length, replicate}
use Rattle.lengths.specs.Lengths.{Len}
use Rattle.floor.specs.Board.{at, Free}
use Rattle.floor.specs.Refusals.{Refusal, refuse, FirstOf}
use Rattle.floor.specs.Words.{Floor, board, place_of}
use Rattle.ground.specs.Kind.{walkers}
use Rattle.ground.specs.Walk.{NoWalk}
use Rattle.corners.specs.Lists.{written}
use Rattle.plan.specs.Plan.{Fits}
use Rattle.effort.specs.Effort.{EffortLost}
use Rattle.chain.specs.Route.{cells_of}
use Rattle.answering.specs.Asked.{Asked, cell_of_start, cell_of_goal, work_size, Distance, WalkFound, NoRoute, RouteWritten}
use Rattle.telling.specs.declared.Answer.{Answer}

module _ (a : Asked) where
  -- the rows 12 and 13
  abbrev pub late_rows : List Refusal
  late_rows =
      refuse 12 (NoWalk walkers (board a.w a.h a.words) (place_of a.w (cell_of_start a)) (place_of a.w (cell_of_goal a)))
      ∷ refuse 13 ((l : Len) × Distance a l × (length a.route < cells_of l))
      ∷ []

  -- none of the rows 1 to 11 applies
  pub record Unrefused : Type 0 where
    pub floor : Floor a.w a.h a.words
    pub fits : Fits a.w a.h a.words a.plan
    pub start_column : a.sx < a.w
    pub start_row : a.sy < a.h
    pub goal_column : a.gx < a.w
    pub goal_row : a.gy < a.h
    pub start_free : Free (board a.w a.h a.words) (at a.sx a.sy)
    pub goal_free : Free (board a.w a.h a.words) (at a.gx a.gy)
    pub room : work_size a ≤ length a.work

  -- what a query comes to that none of them refuses
  pub record LateOutcome (r : Answer) (route work : List ℕ) : Type 0 where
    pub number : FirstOf late_rows r.code
    pub found : (r.code ≡ 0) ⊎ (r.code ≡ 13) → WalkFound a r
    pub lost : r.code ≡ 12 → NoRoute a r × EffortLost a.w a.h a.words (cell_of_start a) (cell_of_goal a) r.effort
    pub route_written : r.code ≡ 0 → RouteWritten a route
    pub route_kept : 0 < r.code → route ≡ a.route
    pub work_cleared : work ≡ written (replicate (work_size a) 0) a.work
