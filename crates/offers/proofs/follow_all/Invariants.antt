-- `offers::follow_all` meets its contract. Assumes nothing.
use Prim.Native.Nat.{◌≤◌, ◌+◌}
use Rattle.places.specs.Flagging.{first_told}
use Rattle.places.specs.Roads.{on}
use Rattle.offers.proofs.Follows.{Following}
use Rattle.offers.proofs.follow_all.Given as goal

abbrev pub invariant-loop-i : goal.invariant-loop-i
invariant-loop-i l =
    let first = first_told l.roads.starts.now l.roads.trip.k l.u in
    (l.i ≤ l.f.count) × on Following l.roads l.initial.work l.initial.tree l.u l.d first (first + l.i) l.work l.tree
