-- `fields::turns` meets its contract: the first row is told apart, and of any other the cell behind its beginning is known. Assumes nothing.
use Rattle.fields.proofs.Passes.{row_behind}
use Rattle.fields.proofs.turns.Goals as goal

pub overflow_sub-before : goal.overflow_sub-before
overflow_sub-before c = (row_behind c.requires c.if-s-gt0.true).0

pub corner_next-requires-clause-cells : goal.corner_next-requires-clause-cells
corner_next-requires-clause-cells c = (row_behind c.requires c.if-s-gt0.true).1
