-- `places::put` meets its contract. Assumes nothing.
use native.Mathlib.Omega.{arith}
use Rattle.places.proofs.Columns.{entry_inside, put_entry}
use Rattle.places.proofs.put.Goals as goal

pub returns : goal.returns
returns c = put_entry _ _ _ _ _ c.requires
