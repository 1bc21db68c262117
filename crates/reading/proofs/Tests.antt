-- What a test of two numbers tells. Assumes nothing.
use Prim.Native.Nat.{ℕ, ◌<◌}
use mathlib.Core.Bool.{Bool}
use mathlib.Core.Path.{◌≡◌}
use native.Mathlib.Omega.{arith}
use lib.Dec.{eqb, ltb}
use borrow.Author.Tests.{eqb-true, eqb-false, ltb-true, ltb-false}
use Rattle.floor.specs.Refusals.{Tells}

-- a test tells of each condition that holds exactly where its own does
pub tells : {P Q : Type 0} {b : Bool} → (P → Q) → (Q → P) → Tells P b → Tells Q b
tells f g t = record { yes = λ e. f (t.yes e); no = λ e q. t.no e (g q) }

-- the test for equal numbers
pub tells_equal : (x y : ℕ) → Tells (x ≡ y) (eqb x y)
tells_equal x y = record { yes = eqb-true x y; no = eqb-false x y }

-- the test for a smaller number
pub tells_below : (x y : ℕ) → Tells (x < y) (ltb x y)
tells_below x y = record { yes = ltb-true x y; no = λ e l. let m = ltb-false x y e in omega arith }
