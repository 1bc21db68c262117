-- `chain::write_route` meets its contract: the loop's invariant: with the legs that are left written, the list will be as it has to
-- be. Labels rise along the column. Assumes nothing.
use Prim.Native.Nat.{ℕ, ◌+◌, ◌-◌}
use mathlib.Core.List.{List}
use mathlib.Core.Path.{◌≡◌}
use lib.ListN.{length, get_or}
use Rattle.places.specs.Columns.{column_of, Label}
use Rattle.chain.specs.Chain.{Paved}
use Rattle.chain.proofs.Paving.{Paving}
use Rattle.chain.proofs.write_route.Given as goal

abbrev pub invariant-loop-v : goal.invariant-loop-v
invariant-loop-v l =
    (length l.route ≡ length l.initial.route)
    × ((places : List ℕ) → Paved l.roads.corners.now l.roads.trip l.work (length l.initial.route) places → Paving l.roads.corners.now l.roads.trip l.work l.initial.route places l.v l.next l.route)

abbrev pub decreases-loop-v : goal.decreases-loop-v
decreases-loop-v l =
    get_or (column_of (l.roads.trip.k + 2) l.work Label) l.roads.trip.to 0 - get_or (column_of (l.roads.trip.k + 2) l.work Label) l.v 0
