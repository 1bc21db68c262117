-- `masks::free_mask` meets its contract: one law of the board for each way out. Assumes nothing.
use Rattle.std.proofs.Common.{◌∙◌, arith}
use Rattle.masks.proofs.Bits.{none_mask}
use Rattle.floor.proofs.Places.{free_zero, free_past}
use Rattle.masks.proofs.CellMasks.{free_beyond, free_bit}
use Rattle.masks.proofs.free_mask.Goals as goal
use Rattle.masks.proofs.free_mask.Goals.{then-y-eq0-via-then-y-eq0, then-y-eq0-via-else-y-eq0+then-floor-y, then-y-eq0-via-else-y-eq0+else-floor-y+then-row_words-j}

pub returns-then-y-eq0 : goal.returns-then-y-eq0
returns-then-y-eq0 c =
    elim c.then-y-eq0.branch [
      | then-y-eq0-via-then-y-eq0 w ↦ none_mask _ (λ i l. free_zero _ _ _ _ w.if-y-eq0.true _)
      | then-y-eq0-via-else-y-eq0+then-floor-y w ↦ none_mask _ (λ i l. free_past _ _ _ _ w.if-floor-y.true _)
      | then-y-eq0-via-else-y-eq0+else-floor-y+then-row_words-j w ↦ none_mask _ (λ i l. free_beyond _ _ _ _ _ (omega arith))
    ]

pub returns : goal.returns
returns c i l =
    let f = c.args.floor.now in
    c.row_mask.ensures i l
    ∙ free_bit f.grid.w f.grid.h f.grid.words.now c.args.y c.args.j _ f.good c.if-y-eq0.false c.if-floor-y.false (omega arith)
    c.row_of.ensures i l
