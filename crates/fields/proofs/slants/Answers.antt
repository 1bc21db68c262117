-- `fields::slants` meets its contract: the three places that a diagonal step asks, one clearance each. Assumes nothing.
use native.Mathlib.Omega.{arith}
use Rattle.fields.specs.Fields.{OnSome}
use Rattle.fields.proofs.Clears.{ways, entry_in, no_across, no_along, Along, along_cell, by_target}
use Rattle.fields.proofs.slants.Goals as goal
use Rattle.fields.proofs.slants.Goals.{Else-clearance-eq0-2}

pub clearance-requires : goal.clearance-requires
clearance-requires c =
    let pre = c.requires in
    entry_in pre.0.known _ _ _ (ways _ pre.1).across_in pre.0.free

pub returns-then-clearance-eq0 : goal.returns-then-clearance-eq0
returns-then-clearance-eq0 c o = grind (arith, no_across o _ c.requires.1, no_along o _ c.requires.1)

pub clearance-requires-2 : goal.clearance-requires-2
clearance-requires-2 c =
    let pre = c.requires in
    entry_in pre.0.known _ _ _ (ways _ pre.1).along_in pre.0.free

pub returns-then-clearance-eq0-2 : goal.returns-then-clearance-eq0-2
returns-then-clearance-eq0-2 c o = grind (arith, no_across o _ c.requires.1, no_along o _ c.requires.1)

-- the cell along, on any floor that has these clearances
cell_along : (c : Else-clearance-eq0-2) →
    let a = c.args in
    (o : OnSome a.w a.clear.now a.cell.x a.cell.y) → Along o a.field c.requires.1
cell_along c o = along_cell o _ _ (omega arith)

pub overflow_sub-beside : goal.overflow_sub-beside
overflow_sub-beside c = (cell_along (goal.at.overflow_sub-beside c).Else-clearance-eq0-2 c.requires.0).some_row

pub clearance-requires-3 : goal.clearance-requires-3
clearance-requires-3 c =
    let pre = c.requires in
    entry_in pre.0.known _ _ _ (ways _ pre.1).across_in (cell_along (goal.at.clearance-requires-3 c).Else-clearance-eq0-2 pre.0).free

pub returns : goal.returns
returns c o = rw c.clearance-3.ensures (by_target o _ c.requires.1 (omega arith) (along_cell o _ c.requires.1 (omega arith)))
