-- `tree::climb` meets its contract. Assumes nothing.
use native.Mathlib.Omega.{arith}
use Rattle.tree.proofs.Keys.{climbing_first, climbing_more, climbing_early, climbing_top, changed_of}
use Rattle.tree.proofs.climb.Goals as goal

pub returns-then-tree-i : goal.returns-then-tree-i
returns-then-tree-i c =
    let p = c.requires in
    let w = c.loop-i.invariant in
    changed_of p.keyed p.inside.0 (climbing_early w (omega arith) (omega arith)) w.sized w.leaves

pub loop-i-preserved : goal.loop-i-preserved
loop-i-preserved c = climbing_more c.loop-i.invariant (omega arith) (omega arith)

pub returns : goal.returns
returns c =
    let p = c.requires in
    let w = c.loop-i.invariant in
    changed_of p.keyed p.inside.0 (climbing_top w (omega arith)) w.sized w.leaves
