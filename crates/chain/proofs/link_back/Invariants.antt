-- `chain::link_back` meets its contract: the loop's invariant: NEXT leads from v to the goal along the end of the chain, and what
-- leads to v with the legs' lengths is the shortest length. The label falls with each turn. Assumes nothing.
use Prim.Native.Nat.{◌+◌}
use Rattle.lengths.specs.Lengths.{pair}
use Rattle.places.specs.Columns.{Next, Only}
use Rattle.places.specs.Roads.{on}
use Rattle.chain.specs.Chain.{Journey, Walked, label_at, Reached}
use Rattle.chain.proofs.Backwards.{Tracing}
use Rattle.chain.proofs.link_back.Given as goal

abbrev pub invariant-loop-v : goal.invariant-loop-v
invariant-loop-v l =
    Only (l.roads.trip.k + 2) l.initial.work Next l.work
    × Reached l.roads.trip l.initial.work l.v
    × ((a : Journey) → on (Walked a) l.roads l.initial.work → Tracing a l.roads.corners.now l.roads.trip l.initial.work l.work l.v (pair l.straight l.diagonal))

abbrev pub decreases-loop-v : goal.decreases-loop-v
decreases-loop-v l = label_at l.roads.trip l.initial.work l.v
