-- `search::next` meets its contract. Assumes nothing.
use native.Mathlib.Omega.{arith}
use Rattle.search.proofs.Decode.{first_none, first_some}
use Rattle.search.proofs.next.Goals as goal

pub returns-then-top : goal.returns-then-top
returns-then-top c = λ W room right. first_none _ _ _ c.args.roads.now.fair.few room right (λ i. omega (arith, c.type_inv.tree i)) c.if-top.true

pub returns-else-top : goal.returns-else-top
returns-else-top c = λ W room right. first_some _ _ _ c.args.roads.now.fair.few room right c.if-top.false
