-- `search::settle` meets its contract. Assumes nothing.
use native.Mathlib.Omega.{arith}
use mathlib.Core.Path.{refl}
use Rattle.places.proofs.Charts.{ready_kept}
use Rattle.search.proofs.Steps.{first_entry, first_near, settling_none, settling_some}
use Rattle.search.proofs.settle.Goals as goal

pub follow_all-requires-clause-right : goal.follow_all-requires-clause-right
follow_all-requires-clause-right c = c.mark.ensures.right _ c.requires.right

pub returns-in_err-u : goal.returns-in_err-u
returns-in_err-u c = rw c.from_residual.ensures (settling_none (c.in_err-u.ensures c.args.work.now c.requires.ready.room c.requires.right) c.requires.right)

pub returns : goal.returns
returns c =
    let first = c.in_ok-u.ensures c.args.work.now c.requires.ready.room c.requires.right in
    settling_some first c.requires.ready c.mark.ensures (rw c.get-d.ensures at c.follow_all.ensures)
