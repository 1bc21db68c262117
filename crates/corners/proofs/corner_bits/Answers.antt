-- `corners::corner_bits` meets its contract: the mask's places are those of the cells, and past the row's end all is blocked. Assumes nothing.
use Rattle.corners.proofs.Chunks.{corner_row}
use Rattle.corners.proofs.corner_bits.Goals as goal

pub returns : goal.returns
returns c = corner_row _ _ _ _ _ c.requires.1 c.corner_mask.ensures
