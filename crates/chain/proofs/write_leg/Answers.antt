-- `chain::write_leg` meets its contract. Assumes nothing.
use Rattle.chain.proofs.write_leg.Goals as goal

pub returns : goal.returns
returns c =
    let a = c.end_of-a.ensures in
    let b = c.end_of-b.ensures in
    rw (a.0, a.1, b.0, b.1) at c.write_line.ensures
