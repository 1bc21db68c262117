-- `tree::empty` meets its contract. Assumes nothing.
use native.Mathlib.Omega.{arith}
use Rattle.tree.proofs.Keys.{mending_first, mending_more, mending_top, changed_of}
use Rattle.tree.proofs.empty.Goals as goal

pub loop-i-init : goal.loop-i-init
loop-i-init c = mending_first c.requires.keyed c.requires.inside.0

pub loop-i-preserved : goal.loop-i-preserved
loop-i-preserved c = mending_more c.loop-i.invariant (omega arith) c.min-best.ensures

pub returns : goal.returns
returns c =
    let p = c.requires in
    let w = c.loop-i.invariant in
    changed_of p.keyed p.inside.0 (mending_top w (omega arith)) w.sized w.leaves
