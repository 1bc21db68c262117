-- `places::cell_of` meets its contract. Assumes nothing.
use native.Mathlib.Omega.{arith}
use mathlib.Core.Path.{sym, ◌∙◌}
use Rattle.places.proofs.Cells.{cell_corner, cell_start, cell_goal}
use Rattle.places.proofs.cell_of.Goals as goal

pub returns-then-i-t : goal.returns-then-i-t
returns-then-i-t c = c.from.ensures ∙ sym (cell_corner _ _ c.args.i (omega arith))

pub returns-then-i-t-2 : goal.returns-then-i-t-2
returns-then-i-t-2 c = sym (cell_start _ _ c.args.i (omega arith))

pub returns-else-i-t-2 : goal.returns-else-i-t-2
returns-else-i-t-2 c = sym (cell_goal _ _ c.args.i (omega arith))
