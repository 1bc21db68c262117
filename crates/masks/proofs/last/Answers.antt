-- `masks::last` meets its contract: the places of two words, each moved by one, and column 0 before the first. Assumes nothing.
use Rattle.floor.specs.Words.{board}
use Rattle.floor.specs.Lent.{of}
use Rattle.floor.proofs.Places.{padded}
use Rattle.masks.proofs.CellMasks.{last_of, last_first}
use Rattle.masks.proofs.last.Goals as goal

pub returns-then-j-eq0 : goal.returns-then-j-eq0
returns-then-j-eq0 g c =
    let a = c.args in
    let f = a.floor.now.grid in
    last_first (λ x. g.S.Sought.holds (of board f) (record { x = x; y = a.y })) a.j _ _ c.if-j-eq0.true
    (g.met.S.Sought.outside (of board f) a.y ((padded f.w f.h f.words.now).column a.y))
    c.last_bits.ensures c.requires.own

pub returns : goal.returns
returns g c =
    let a = c.args in
    last_of (λ x. g.S.Sought.holds (of board a.floor.now.grid) (record { x = x; y = a.y })) a.j _ _ _ c.if-j-eq0.false
    c.last_bits-2.ensures c.requires.own c.mask.ensures
