-- A surveyed floor with its plan, and that it can be walked on.
use Rattle.std.specs.Prelude.{ℕ, List}
use Rattle.floor.specs.Words.{Floor}
use Rattle.floor.specs.declared.lent.Grid.{Grid}
use Rattle.plan.specs.Plan.{Lists, Fits}
use Rattle.survey.specs.Survey.{lists}

-- a surveyed floor
pub record Ground : Type 0 where
  pub w : ℕ
  pub h : ℕ
  pub words : List ℕ
  pub plan : Lists

-- a surveyed floor, by its parts
abbrev pub surveyed : ℕ → ℕ → List ℕ → List ℕ → List ℕ → List ℕ → List ℕ → Ground
surveyed w h words clear corners starts neighbours = record { w = w; h = h; words = words; plan = lists clear corners starts neighbours }

-- an accepted floor and its plan
abbrev pub surveyed_on : Grid → Lists → Ground
surveyed_on g p = record { w = g.w; h = g.h; words = g.words.now; plan = p }

-- the floor is accepted, and the plan is its own and within its limits
pub record Walkable (g : Ground) : Type 0 where
  pub floor : Floor g.w g.h g.words
  pub fits : Fits g.w g.h g.words g.plan
