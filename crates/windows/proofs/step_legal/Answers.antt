-- `windows::step_legal` meets its contract: what it tests is the step rule, by what `in_window` and `cell` ensure. Assumes nothing.
use Rattle.std.proofs.Common.{arith}
use Rattle.std.proofs.lemmas.Grind.{common_steps}
use Rattle.floor.specs.Board.{dir_at, step}
use Rattle.windows.proofs.Windows.{beside_middle}
use Rattle.windows.proofs.step_legal.Goals as goal
use Rattle.windows.proofs.step_legal.Goals.{then-i-eq1, else-i-eq1}

pub returns-else-cell : goal.returns-else-cell
unfolding step
returns-else-cell c = let b = beside_middle (dir_at c.args.dir) in grind (arith, common_steps)

pub returns-then-cell-2 : goal.returns-then-cell-2
unfolding step
returns-then-cell-2 c = let b = beside_middle (dir_at c.args.dir) in grind (arith, common_steps)

pub returns-else-cell-2 : goal.returns-else-cell-2
unfolding step
returns-else-cell-2 c = let b = beside_middle (dir_at c.args.dir) in grind (arith, common_steps)

pub returns-then-j-eq1 : goal.returns-then-j-eq1
unfolding step
returns-then-j-eq1 c =
    let b = beside_middle (dir_at c.args.dir) in
    elim c.if-i-eq1.branch [ then-i-eq1 w ↦ grind (arith, common_steps) | else-i-eq1 w ↦ grind (arith, common_steps) ]
