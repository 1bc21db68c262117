-- `floor::free_in` meets its contract: one law of `free_in` for each way out. Assumes nothing.
use Rattle.std.proofs.Common.{◌∙◌, arith}
use Rattle.std.proofs.lemmas.Grind.{common_steps}
use Rattle.floor.proofs.Places.{free_in_zero, free_in_past, free_in_inside}
use Rattle.floor.proofs.free_in.Goals as goal
use Rattle.floor.proofs.free_in.Goals.{then-x-ne0, else-x-ne0}

pub returns-then-x-w : goal.returns-then-x-w
returns-then-x-w c = c.cell_free.ensures ∙ free_in_inside _ _ _ (omega arith) (omega arith)

pub returns-else-x-w : goal.returns-else-x-w
returns-else-x-w c = elim c.if-x-ne0.branch [
  | then-x-ne0 w ↦ grind (arith, common_steps, free_in_zero, free_in_past)
  | else-x-ne0 w ↦ grind (arith, common_steps, free_in_zero, free_in_past)
]
