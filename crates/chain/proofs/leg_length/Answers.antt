-- `chain::leg_length` meets its contract: the columns and rows of two cells fit. Assumes nothing.
use Rattle.places.proofs.Links.{two_cells}
use Rattle.chain.proofs.Backwards.{two_small}
use Rattle.chain.proofs.leg_length.Goals as goal

pub returns : goal.returns
returns c =
    let a = c.end_of.ensures in
    let b = c.end_of-2.ensures in
    rw (a.0, a.1, b.0, b.1) at c.line_length.ensures
