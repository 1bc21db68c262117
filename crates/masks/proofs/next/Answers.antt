-- `masks::next` meets its contract: the places of two words, each moved by one. Assumes nothing.
use Rattle.floor.specs.Words.{board}
use Rattle.floor.specs.Lent.{of}
use Rattle.masks.proofs.CellMasks.{next_of}
use Rattle.masks.proofs.next.Goals as goal

pub returns : goal.returns
returns g c =
    let a = c.args in
    next_of (λ x. g.S.Sought.holds (of board a.floor.now.grid) (record { x = x; y = a.y })) a.j _ _ _ c.next_bits.ensures
    c.requires.own c.mask.ensures
