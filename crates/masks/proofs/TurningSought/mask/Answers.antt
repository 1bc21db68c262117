-- `masks::Turning::mask` meets its contract: bit by bit, a free place with a nook on its north or its south side. Assumes nothing.
use Rattle.std.proofs.Common.{◌+◌, ◌*◌, sym}
use Rattle.floor.specs.Words.{board}
use Rattle.floor.specs.Lent.{of}
use Rattle.floor.proofs.Places.{free_zero}
use Rattle.masks.specs.Sought.{corner_blocked}
use Rattle.masks.proofs.Bits.{none_mask}
use Rattle.masks.proofs.CellMasks.{corner_bit}
use Rattle.masks.proofs.TurningSought.mask.Goals as goal

pub returns-then-y-eq0 : goal.returns-then-y-eq0
returns-then-y-eq0 c = none_mask _ (λ i l. sym (corner_blocked _ _ (sym (free_zero _ _ _ _ c.if-y-eq0.true _))))

pub returns : goal.returns
returns c i l =
    let a = c.args in
    corner_bit (of board a.floor.now.grid) (64 * a.j + i) a.y _ _ _ i _ _ (c.free_mask-here.ensures i l)
    (c.next-e.ensures i l) (c.last-a.ensures i l)
    (c.nooks_in-north.ensures i l) (c.nooks_in-south.ensures i l)
