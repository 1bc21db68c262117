-- The query's promise: which of document 01's numbers it gives, what it returns, and what it leaves in the route list and the work space.
use Rattle.std.specs.Prelude.{ℕ, ◌<◌, ◌≤◌, false, ◌≡◌, List, [], ◌∷◌, ◌++◌, ◌⊎◌, length, replicate}
use Rattle.lengths.specs.Lengths.{Len}
use Rattle.floor.specs.Board.{at}
use Rattle.floor.specs.Refusals.{Refusal, refuse, FirstOf}
use Rattle.floor.specs.Words.{floor_rows, board, place_of}
use Rattle.ground.specs.Kind.{walkers}
use Rattle.ground.specs.Walk.{NoWalk}
use Rattle.corners.specs.Lists.{written}
use Rattle.plan.specs.Plan.{Fits}
use Rattle.effort.specs.Effort.{EffortLost}
use Rattle.chain.specs.Route.{cells_of}
use Rattle.answering.specs.Asked.{Asked, cell_of_start, cell_of_goal, work_size, Distance, WalkFound, NoRoute, RouteWritten}
use Rattle.telling.specs.declared.Answer.{Answer}

-- a cell is outside or blocked
abbrev pub Shut : ℕ → ℕ → List ℕ → ℕ → ℕ → Type 0
Shut w h words x y = (w ≤ x) ⊎ ((h ≤ y) ⊎ (board w h words (at x y).x (at x y).y ≡ false))

module _ (a : Asked) where
  -- the rows of document 01's table that a query can give
  abbrev pub query_rows : List Refusal
  query_rows =
      floor_rows a.w a.h a.words
      ++ (refuse 8 (¬ (Fits a.w a.h a.words a.plan))
      ∷ refuse 9 (Shut a.w a.h a.words a.sx a.sy)
      ∷ refuse 10 (Shut a.w a.h a.words a.gx a.gy)
      ∷ refuse 11 (length a.work < work_size a)
      ∷ refuse 12 (NoWalk walkers (board a.w a.h a.words) (place_of a.w (cell_of_start a)) (place_of a.w (cell_of_goal a)))
      ∷ refuse 13 ((l : Len) × Distance a l × (length a.route < cells_of l))
      ∷ [])

  -- the search was made, or the direct line taken: 0, 12 and 13
  abbrev pub Answered : Answer → Type 0
  Answered r = (r.code ≡ 0) ⊎ ((r.code ≡ 12) ⊎ (r.code ≡ 13))

  -- the outcome of a query, whatever it is asked
  pub record QueryOutcome (r : Answer) (route work : List ℕ) : Type 0 where
    pub number : FirstOf query_rows r.code
    pub found : (r.code ≡ 0) ⊎ (r.code ≡ 13) → WalkFound a r
    pub lost : r.code ≡ 12 → NoRoute a r × EffortLost a.w a.h a.words (cell_of_start a) (cell_of_goal a) r.effort
    pub refused : 0 < r.code → r.code < 12 → NoRoute a r × (r.effort ≡ 0)
    pub route_written : r.code ≡ 0 → RouteWritten a route
    pub route_kept : 0 < r.code → route ≡ a.route
    pub work_cleared : Answered r → work ≡ written (replicate (work_size a) 0) a.work
    pub work_kept : 0 < r.code → r.code < 12 → work ≡ a.work
