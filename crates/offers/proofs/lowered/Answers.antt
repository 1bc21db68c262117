-- `offers::lowered` meets its contract. Assumes nothing.
use native.Mathlib.Omega.{arith}
use borrow.Author.Tests.{lt-ltb, le-ltb}
use Rattle.offers.proofs.lowered.Goals as goal

pub returns-then-old-eq0 : goal.returns-then-old-eq0
returns-then-old-eq0 c = rw (le-ltb 0 c.args.old (omega arith))

pub returns-else-old-eq0 : goal.returns-else-old-eq0
returns-else-old-eq0 c = rw (lt-ltb 0 c.args.old (omega arith)) (omega arith)
