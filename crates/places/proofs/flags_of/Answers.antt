-- `places::flags_of` meets its contract. Assumes nothing.
use native.Mathlib.Omega.{arith}
use native.Mathlib.Nat.{mul-le-mul_right}
use Prim.Native.Nat.{◌+◌, ◌-◌, ◌≤◌}
use mathlib.Core.Path.{refl, sym}
use Rattle.places.proofs.Told.{flags_corner, flags_end}
use Rattle.places.proofs.flags_of.Goals as goal

pub returns-then-u-k : goal.returns-then-u-k
returns-then-u-k c = record { count = sym (flags_corner _ _ c.if-u-k.true); corner = λ h. (refl, refl, refl); end = λ h. absurd (omega (arith, c.if-u-k.true)) }

pub returns-else-u-k : goal.returns-else-u-k
returns-else-u-k c = record { count = sym (flags_end _ _ (omega arith)); corner = λ h. absurd (omega arith); end = λ h. (refl, refl, refl) }
