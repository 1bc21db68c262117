-- `chain::write_route` meets its contract: the loop's invariant: with the legs that are left written, the list will be as it has to
-- be. Labels rise along the column. Assumes nothing.
use Prim.Native.Nat.{◌+◌, ◌-◌}
use mathlib.Core.Path.{◌≡◌, refl, ◌∙◌}
use native.Mathlib.Omega.{arith}
use lib.ListN.{get_or, set, length-set}
use Rattle.places.specs.Columns.{column_of, Next}
use Rattle.places.proofs.Columns.{column_length}
use Rattle.chain.proofs.Paving.{along_low, along_entry, along_next, Paving, paving_none, leg_room, paving_next, paving_done, start_written}
use Rattle.chain.proofs.write_route.Goals as goal
use Rattle.chain.proofs.write_route.Goals.{After-get, At-loop-v}

-- what is written and what is left, for the places that the caller has
paving : (c : At-loop-v) →
    Paving c.args.roads.now.corners.now c.args.roads.now.trip c.args.work.now (set c.args.route.now 0 c.args.roads.now.trip.start)
    c.requires.0 c.loop-v.v c.loop-v.next c.loop-v.route
paving c =
    let s = c.args in
    c.loop-v.invariant.1 c.requires.0 (rw (length-set s.route.now 0 s.roads.now.trip.start) c.requires.1)

pub get-requires : goal.get-requires
get-requires c =
    let s = c.args in
    let e = along_entry c.loop-v-test.true (paving (goal.at.get-requires c).At-loop-v).along in
    let m = column_length (s.roads.now.trip.k + 2) s.work.now Next (omega arith) c.requires.1.columns in
    record { column = omega arith; place = omega arith; room = c.requires.1.columns }

-- the column has one more than the next place
entry : (c : After-get) →
    Paving c.args.roads.now.corners.now c.args.roads.now.trip c.args.work.now (set c.args.route.now 0 c.args.roads.now.trip.start) c.requires.0 c.loop-v.v c.loop-v.next c.loop-v.route →
    get_or (column_of (c.args.roads.now.trip.k + 2) c.args.work.now Next) c.loop-v.v 0 ≡ c.get.result - 1 + 1
entry c p =
    let e = along_entry c.loop-v-test.true p.along in
    let r = c.get.ensures in
    omega arith

pub write_leg-next-requires : goal.write_leg-next-requires
write_leg-next-requires c =
    let s = goal.at.write_leg-next-requires c in
    let w = paving s.At-loop-v in
    let l = c.loop-v in
    let p = c.requires.1 in
    let m = leg_room w (c.get.result - 1) c.loop-v-test.true (entry s.After-get w) in
    let e = length-set c.args.route.now 0 c.args.roads.now.trip.start in
    let f = l.invariant.0 in
    let g = p.room in
    record { first = p.cells l.v; second = p.cells (c.get.result - 1); room = omega arith }

pub loop-v-smaller : goal.loop-v-smaller
loop-v-smaller c =
    let s = goal.at.loop-v-smaller c in
    let w = paving s.At-loop-v in
    let (rises, (tail, e, r)) = along_next (c.get.result - 1) c.loop-v-test.true (entry s.After-get w) w.along in
    let low = along_low r in
    omega arith

pub loop-v-preserved : goal.loop-v-preserved
loop-v-preserved c =
    let s = goal.at.loop-v-preserved c in
    let l = c.loop-v in (
      c.write_leg-next.auto.route ∙ l.invariant.0,
      λ places p.
          let f = l.invariant.0 in
          let g = p.room in
          paving_next (l.invariant.1 places p) (c.get.result - 1) c.loop-v-test.true (entry s.After-get (paving s.At-loop-v)) c.write_leg-next.ensures
          (omega arith),
    )

pub returns : goal.returns
returns c = λ places p.
    let s = c.args in
    let g = p.room in
    paving_done (c.loop-v.invariant.1 places (rw (length-set s.route.now 0 s.roads.now.trip.start) p)) c.loop-v-test.false
    ∙ start_written s.roads.now.corners.now s.roads.now.trip places s.route.now (omega arith)
