-- `line::nearer` meets its contract. Assumes nothing.
use native.Mathlib.Omega.{arith}
use Rattle.line.proofs.Ways.{side_fits, side_nearer}
use Rattle.line.proofs.nearer.Goals as goal

pub overflow_sub-result : goal.overflow_sub-result
overflow_sub-result c = omega (arith, side_fits c.args.a c.args.b)

pub returns : goal.returns
returns c = rw c.side.ensures.0 (side_nearer c.args.a c.args.b)
