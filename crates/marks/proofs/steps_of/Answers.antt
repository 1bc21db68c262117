-- `marks::steps_of` meets its contract: the masks' places are those of the cells. Assumes nothing.
use Rattle.floor.specs.Words.{board}
use Rattle.floor.specs.Lent.{of}
use Rattle.marks.specs.Marking.{steps_to, turns_to}
use Rattle.corners.proofs.Chunks.{row_bits}
use Rattle.marks.proofs.steps_of.Goals as goal

pub returns : goal.returns
returns c =
    let a = c.args in
    let b = of board a.floor.now.grid in
    record {
      legal = row_bits a.floor.now.grid.w a.cell _ (λ q. steps_to b q a.dir) c.requires.begins c.step_mask.ensures;
      turns = row_bits a.floor.now.grid.w a.cell _ (λ q. turns_to b q a.dir) c.requires.begins c.turn_mask.ensures;
    }
