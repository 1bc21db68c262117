-- `search::run` meets its contract. Assumes nothing.
use native.Mathlib.Omega.{arith}
use lib.ListN.{get_or-replicate}
use Rattle.tree.specs.Keys.{nobody}
use Rattle.places.proofs.Charts.{ready_kept}
use Rattle.search.proofs.Running.{begun_first, bounded_begun, run_begun}
use Rattle.search.proofs.run.Goals as goal

pub begin-requires-clause-bare : goal.begin-requires-clause-bare
begin-requires-clause-bare c = (omega arith, λ i h. get_or-replicate 4100 i nobody 0 h)

pub settle_up_to-requires-clause-begun : goal.settle_up_to-requires-clause-begun
settle_up_to-requires-clause-begun c = begun_first c.requires.ready c.requires.blank c.begin.ensures

pub returns : goal.returns
returns c = run_begun c.begin.ensures.left c.settle_up_to.ensures.1 c.settled_count.ensures
