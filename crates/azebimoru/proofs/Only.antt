-- A comparison and the check of a plan have one answer each. Assumes nothing.
use Prim.Native.Nat.{ℕ}
use mathlib.Core.Bool.{Bool}
use mathlib.Core.List.{List}
use mathlib.Core.Path.{◌≡◌, sym, ◌∙◌}
use lib.IntN.{ℤ}
use Rattle.lengths.specs.Lengths.{compare_of, pair}
use Rattle.floor.specs.Refusals.{Tells}
use Rattle.floor.proofs.Tables.{tells_only}
use Rattle.plan.specs.Plan.{Lists}
use Rattle.azebimoru.specs.Matches.{OwnPlan}

-- two answers to one floor and four lists are the same
pub matches_only : (w h : ℕ) (words : List ℕ) (p : Lists) (a b : Bool) → Tells (OwnPlan w h words p) a → Tells (OwnPlan w h words p) b → a ≡ b
matches_only w h words p = tells_only

-- two comparisons of the same lengths are the same
pub compare_only : (a b c d : ℕ) (r s : ℤ) → r ≡ compare_of (pair a b) (pair c d) → s ≡ compare_of (pair a b) (pair c d) → r ≡ s
compare_only a b c d r s p q = p ∙ sym q
