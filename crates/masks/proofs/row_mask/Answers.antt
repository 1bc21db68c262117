-- `masks::row_mask` meets its contract: a bit that is not 1 is 0. Assumes nothing.
use mathlib.Core.Path.{◌∙◌}
use Rattle.masks.proofs.Bits.{unset_clear}
use Rattle.masks.proofs.row_mask.Goals as goal

pub returns : goal.returns
returns c i l = c.flipped.ensures i l ∙ unset_clear _ i
