-- `fields::row_end` meets its contract: one law of reading a row for each way that the tests go. Assumes nothing.
use native.Mathlib.Omega.{arith}
use Rattle.floor.specs.Lent.{on}
use Rattle.fields.proofs.Passes.{RowClear, row_clear, goes_row, end_number, linked_some, read_turn, read_none}
use Rattle.fields.proofs.row_end.Goals as goal
use Rattle.fields.proofs.row_end.Goals.{After-clearance-m}

-- what the clearance says
cleared : (c : After-clearance-m) → let a = c.args in on RowClear a.floor.now.grid a.s c.clearance-m.result
cleared c = row_clear c.requires.0 c.clearance-m.result (rw c.side_of-dir.ensures at c.clearance-m.ensures)

pub ahead_of-end-requires : goal.ahead_of-end-requires
ahead_of-end-requires c =
    rw c.side_of-dir.ensures (goes_row c.requires.0 _ _ (cleared (goal.at.ahead_of-end-requires c).After-clearance-m) (omega arith))

pub overflow_mul-result : goal.overflow_mul-result
overflow_mul-result c =
    omega (arith, end_number c.requires.0 _ _ _ (cleared (goal.at.overflow_mul-result c).After-clearance-m) (rw c.side_of-dir.ensures at c.ahead_of-end.ensures))

pub overflow_add-result : goal.overflow_add-result
overflow_add-result c =
    omega (arith, end_number c.requires.0 _ _ _ (cleared (goal.at.overflow_add-result c).After-clearance-m) (rw c.side_of-dir.ensures at c.ahead_of-end.ensures))

pub overflow_sub-result : goal.overflow_sub-result
overflow_sub-result c = linked_some c.requires.0 c.requires.1 _ (cleared (goal.at.overflow_sub-result c).After-clearance-m) (c.linked.ensures.yes c.if-linked.true)

pub returns-then-linked : goal.returns-then-linked
returns-then-linked c =
    read_turn c.requires.0 c.requires.1 _ (cleared (goal.at.returns-then-linked c).After-clearance-m) _ _ (c.linked.ensures.yes c.if-linked.true)
    (rw c.side_of-dir.ensures at c.ahead_of-end.ensures)

pub returns : goal.returns
returns c =
    read_none c.requires.0 c.requires.1 _ (cleared (goal.at.returns c).After-clearance-m) _ (c.linked.ensures.no c.if-linked.false) (omega arith)
