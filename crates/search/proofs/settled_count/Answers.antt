-- `search::settled_count` meets its contract. Assumes nothing.
use native.Mathlib.Omega.{arith}
use mathlib.Core.Path.{◌≡◌}
use Prim.Native.Nat.{◌+◌, ◌*◌, ◌-◌}
use Rattle.places.specs.Columns.{column_of}
use Rattle.search.proofs.Running.{counts_flags}
use Rattle.search.proofs.settled_count.Goals as goal

pub returns : goal.returns
unfolding column_of
returns c =
    let n = c.args.n in
    let q : 2 * n + n - 2 * n ≡ n = omega arith in
    rw (c.set_count.ensures, q) (counts_flags n c.args.work.now c.requires)
