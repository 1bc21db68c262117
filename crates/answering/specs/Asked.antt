-- What is asked of a query, and the numbers and the route where there is a walk.
use Rattle.std.specs.Prelude.{ℕ, ◌+◌, ◌*◌, ◌≡◌, List, ◌⊎◌, length}
use Rattle.lengths.specs.Lengths.{Len}
use Rattle.floor.specs.Words.{number_of}
use Rattle.corners.specs.Lists.{written}
use Rattle.plan.specs.Plan.{Lists}
use Rattle.effort.specs.Effort.{Far, EffortFound}
use Rattle.chain.specs.Route.{cells_of, LineClear, RouteOf}
use Rattle.telling.specs.declared.Answer.{Answer}

-- what is asked: a floor, its plan, start and goal by column and row, and the room lent
pub record Asked : Type 0 where
  pub w : ℕ
  pub h : ℕ
  pub words : List ℕ
  pub plan : Lists
  pub sx : ℕ
  pub sy : ℕ
  pub gx : ℕ
  pub gy : ℕ
  pub route : List ℕ
  pub work : List ℕ

module _ (a : Asked) where
  abbrev pub cell_of_start : ℕ
  cell_of_start = number_of a.w a.sx a.sy

  abbrev pub cell_of_goal : ℕ
  cell_of_goal = number_of a.w a.gx a.gy

  -- how many work entries a query takes
  abbrev pub work_size : ℕ
  work_size = 6 * (length a.plan.corners + 2)

  -- the length of the shortest walks from start to goal
  abbrev pub Distance : Len → Type 0
  Distance l = Far a.w a.h a.words cell_of_start cell_of_goal l

  -- the effort billed where there is a walk: 0 where the direct line is clear
  abbrev pub Billed : ℕ → Type 0
  Billed e =
      (LineClear a.w a.h a.words cell_of_start cell_of_goal × (e ≡ 0))
      ⊎ ((¬ (LineClear a.w a.h a.words cell_of_start cell_of_goal)) × EffortFound a.w a.h a.words cell_of_start cell_of_goal e)

  -- the numbers returned where there is a walk
  pub record WalkFound (r : Answer) : Type 0 where
    pub far : Len
    pub shortest : Distance far
    pub straight : r.straight ≡ far.straight
    pub diagonal : r.diagonal ≡ far.diagonal
    pub cells : r.cells ≡ cells_of far
    pub billed : Billed r.effort

  -- the length and the cells are 0
  pub record NoRoute (r : Answer) : Type 0 where
    pub straight : r.straight ≡ 0
    pub diagonal : r.diagonal ≡ 0
    pub cells : r.cells ≡ 0

  -- the route was written
  pub record RouteWritten (route : List ℕ) : Type 0 where
    pub cells : List ℕ
    pub is_route : RouteOf a.w a.h a.words cell_of_start cell_of_goal cells
    pub there : route ≡ written cells a.route
