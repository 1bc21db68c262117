-- `places::neighbours_of` meets its contract. Assumes nothing.
use native.Mathlib.Omega.{arith}
use Prim.Native.Nat.{◌+◌}
use Rattle.places.proofs.Charts.{neighbours_taken}
use Rattle.places.proofs.neighbours_of.Goals as goal

pub returns : goal.returns
returns c = rw (c.from-first.ensures, c.from-last.ensures) (neighbours_taken _ _ c.args.u (c.args.roads.now.fair.within (c.args.u + 1) (omega arith)))
