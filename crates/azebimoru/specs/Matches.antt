-- What the check of a plan tells.
use Rattle.std.specs.Prelude.{ℕ, List}
use Rattle.floor.specs.Words.{Floor}
use Rattle.plan.specs.Plan.{Lists, Fits}

-- the floor is accepted, and the four lists, lengths included, are its plan, which is within its limits
pub record OwnPlan (w h : ℕ) (words : List ℕ) (p : Lists) : Type 0 where
  pub floor : Floor w h words
  pub fits : Fits w h words p
