-- `search::mark` meets its contract. Assumes nothing.
use native.Mathlib.Omega.{arith}
use Rattle.search.proofs.Steps.{marked_of}
use Rattle.search.proofs.mark.Goals as goal

pub returns : goal.returns
returns c = marked_of c.requires.room c.requires.inside c.put.ensures c.empty.ensures
