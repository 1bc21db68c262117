-- `offers::offer` meets its contract. Assumes nothing.
use native.Mathlib.Omega.{arith}
use mathlib.Core.Path.{sym, ◌∙◌}
use Rattle.offers.proofs.Offering.{offer_kept, offer_fits, offer_climbed, offer_settled}
use Rattle.offers.proofs.offer.Goals as goal

pub climb-requires-clause-lower : goal.climb-requires-clause-lower
climb-requires-clause-lower c =
    let p = c.requires in
    let key = c.key-key.ensures in
    offer_fits p.right p.room p.inside p.some c.get-old.ensures c.lowered-best.ensures c.put.ensures c.get-settled.ensures
    c.if-settled-eq0.true c.cell_of-cell.ensures key.is key.fits

pub returns-then-settled-eq0 : goal.returns-then-settled-eq0
returns-then-settled-eq0 c =
    let p = c.requires in
    offer_climbed p.right p.room p.inside p.some c.get-old.ensures c.lowered-best.ensures c.put.ensures c.get-settled.ensures
    c.if-settled-eq0.true c.cell_of-cell.ensures c.key-key.ensures.is c.climb.ensures

pub returns-else-settled-eq0 : goal.returns-else-settled-eq0
returns-else-settled-eq0 c =
    let p = c.requires in
    offer_settled p.right p.room p.inside p.some c.get-old.ensures c.lowered-best.ensures c.put.ensures c.get-settled.ensures c.if-settled-eq0.false

pub returns-else-best-old : goal.returns-else-best-old
returns-else-best-old c =
    let old = c.get-old.ensures in
    offer_kept (rw (← old) (sym c.lowered-best.ensures ∙ c.if-best-old.false)) c.requires.right
