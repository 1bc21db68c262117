-- `windows::in_nook` meets its contract: what it tests are the three places of `nook`, by what `in_window` and `cell` ensure. Assumes nothing.
use Rattle.std.proofs.Common.{arith}
use Rattle.std.proofs.lemmas.Grind.{common_steps}
use Rattle.floor.specs.Board.{nook}
use Rattle.windows.proofs.in_nook.Goals as goal
use Rattle.windows.proofs.in_nook.Goals.{then-not-cell, else-not-cell}

pub returns-then-cell : goal.returns-then-cell
unfolding nook
returns-then-cell c = elim c.if-not-cell.branch [ then-not-cell w ↦ grind (arith, common_steps) | else-not-cell w ↦ grind (arith, common_steps) ]

pub returns-else-cell : goal.returns-else-cell
unfolding nook
returns-else-cell c = elim c.if-not-cell.branch [ then-not-cell w ↦ grind (arith, common_steps) | else-not-cell w ↦ grind (arith, common_steps) ]
