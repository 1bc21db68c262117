-- `masks::nooks` meets its contract: bit by bit. Assumes nothing.
use mathlib.Core.Bool.{◌&&◌, ◌||◌}
use mathlib.Core.Path.{ap, ap₂, ◌∙◌}
use Rattle.masks.specs.Masks.{bit_set}
use Rattle.masks.proofs.Bits.{and_bit, or_bit}
use Rattle.masks.proofs.nooks.Goals as goal

pub returns : goal.returns
returns c i l =
    let a = c.args in
    and_bit a.side _ i
    ∙ ap (λ t. bit_set a.side i && t)
    (or_bit _ _ i
    ∙ ap₂ ◌||◌ (and_bit a.e _ i ∙ ap (λ t. bit_set a.e i && t) (c.flipped.ensures i l))
    (and_bit a.w _ i ∙ ap (λ t. bit_set a.w i && t) (c.flipped-2.ensures i l)))
