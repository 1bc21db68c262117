-- The numbers of refusals. Assumes nothing.
use Prim.Native.Nat.{ℕ, ◌<◌}
use native.Mathlib.Omega.{arith}
use Rattle.floor.specs.Codes.{number}
use Rattle.floor.specs.declared.refusal.Refusal.{Refusal as RefusedAs}
use Rattle.floor.specs.declared.refusal.Refusal.TheVariants.{Size, Words, Unused, Clearances, Corners, Starts, Neighbours, Plan, Start, Goal, Work}

-- no refusal has the number 0
pub some_number : (r : RefusedAs) → 0 < number r
some_number Size = omega arith
some_number Words = omega arith
some_number Unused = omega arith
some_number Clearances = omega arith
some_number Corners = omega arith
some_number Starts = omega arith
some_number Neighbours = omega arith
some_number Plan = omega arith
some_number Start = omega arith
some_number Goal = omega arith
some_number Work = omega arith
