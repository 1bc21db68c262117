-- `places::get` meets its contract. Assumes nothing.
use native.Mathlib.Omega.{arith}
use mathlib.Core.Path.{sym}
use Rattle.places.proofs.Columns.{entry_inside, column_at}
use Rattle.places.proofs.get.Goals as goal

pub returns : goal.returns
returns c =
    let s = c.before in
    sym (column_at s.args.n s.args.work.now s.args.column s.args.i s.requires.place)
