-- `masks::nooks_in` meets its contract: by what its masks ensure. Assumes nothing.
use mathlib.Core.Path.{◌∙◌}
use Rattle.masks.proofs.nooks_in.Goals as goal

pub returns : goal.returns
returns c i l = c.nooks.ensures i l ∙ rw (c.free_mask-side.ensures i l, c.next-be.ensures i l, c.last.ensures i l)
