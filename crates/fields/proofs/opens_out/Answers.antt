-- `fields::opens_out` meets its contract: a clearance above 0 is a step that leads on. Assumes nothing.
use native.Mathlib.Omega.{arith}
use borrow.Author.Tests.{ne_eqb}
use Rattle.fields.proofs.Clears.{entry_in, opens_not, opens_test}
use Rattle.fields.proofs.opens_out.Goals as goal

pub clearance-requires : goal.clearance-requires
clearance-requires c = let p = c.requires in entry_in p.known _ _ _ p.cells.0 p.cells.1.0

pub clearance-requires-then-clearance-eq0 : goal.clearance-requires-then-clearance-eq0
clearance-requires-then-clearance-eq0 c = let p = c.requires in entry_in p.known _ _ _ p.cells.0 p.cells.1.1

pub returns-then-clearance-eq0 : goal.returns-then-clearance-eq0
returns-then-clearance-eq0 c =
    let p = c.requires in
    rw c.clearance-then-clearance-eq0.ensures (opens_test p.known _ _ _ _ _ p.cells.0 p.cells.1.0 p.cells.1.1 (omega arith))

pub returns-else-clearance-eq0 : goal.returns-else-clearance-eq0
returns-else-clearance-eq0 c =
    let p = c.requires in
    rw (ne_eqb _ _ c.if-clearance-eq0.false) (opens_not p.known _ _ _ _ _ p.cells.0 p.cells.1.0 p.cells.1.1 (omega arith))
