-- `floor::Grid::free_at` meets its contract: one law of the board for each way out. Assumes nothing.
use Rattle.std.proofs.Common.{◌∙◌, arith}
use Rattle.std.proofs.lemmas.Grind.{common_steps}
use Rattle.floor.proofs.Places.{free_zero, free_past, free_inside}
use Rattle.floor.proofs.lent.Grid.free_at.Goals as goal
use Rattle.floor.proofs.lent.Grid.free_at.Goals.{then-y-ne0, else-y-ne0}

pub returns-then-y-self : goal.returns-then-y-self
returns-then-y-self c =
    let g = c.args.self.now in
    elim c.if-y-ne0.branch [
      | then-y-ne0 w ↦ c.free_in.ensures ∙ free_inside g.w g.h g.words.now c.args.y _ (grind (arith, common_steps)) (grind (arith, common_steps)) c.row_of.ensures.same _
      | else-y-ne0 w ↦ grind (arith, common_steps)
    ]

pub returns-else-y-self : goal.returns-else-y-self
returns-else-y-self c =
    elim c.if-y-ne0.branch [
      | then-y-ne0 w ↦ grind (arith, common_steps, free_past)
      | else-y-ne0 w ↦ grind (arith, common_steps, free_zero)
    ]
