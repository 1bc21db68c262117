-- `fields::corner_next` meets its contract: the clearance of the cell before goes on beyond the next one, or ends there. Assumes nothing.
use mathlib.Core.Path.{sym}
use native.Mathlib.Omega.{arith}
use Rattle.fields.proofs.Clears.{entry_in, next_plain, next_ends}
use Rattle.fields.proofs.corner_next.Goals as goal

pub clearance-requires : goal.clearance-requires
clearance-requires c = let p = c.requires in entry_in p.known _ _ _ p.cells.straight p.cells.free

pub ends_on_corner-requires-clause-cells : goal.ends_on_corner-requires-clause-cells
ends_on_corner-requires-clause-cells c =
    let p = c.requires in
    (p.cells, next_ends p.known _ _ _ _ _ _ p.cells c.clearance.ensures (omega arith))

pub returns-then-clearance-gt1 : goal.returns-then-clearance-gt1
returns-then-clearance-gt1 c =
    let p = c.requires in
    sym (next_plain p.known _ _ _ _ _ _ p.cells c.clearance.ensures c.if-clearance-gt1.true)
