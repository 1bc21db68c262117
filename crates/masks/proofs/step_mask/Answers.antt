-- `masks::step_mask` meets its contract: bit by bit. Assumes nothing.
use mathlib.Core.Bool.{◌&&◌}
use mathlib.Core.Path.{ap₂, ◌∙◌}
use Rattle.masks.proofs.Bits.{and_bit}
use Rattle.masks.proofs.step_mask.Goals as goal

pub returns : goal.returns
returns c i l = and_bit c.free_mask.result _ i ∙ ap₂ ◌&&◌ (c.free_mask.ensures i l) (c.beside.ensures i l)
