-- `offers::follow_arcs` meets its contract. Assumes nothing.
use native.Mathlib.Omega.{arith}
use mathlib.Core.Path.{◌≡◌, refl, sym, ◌∙◌}
use Prim.Native.Nat.{◌+◌, ◌<◌}
use lib.ListN.{get_or}
use Rattle.places.specs.Chart.{arcs_of}
use Rattle.places.proofs.Told.{told_corner, told_end}
use Rattle.places.proofs.Charts.{arc_entry, arc_place, arc_cells}
use Rattle.offers.proofs.Follows.{followed_none, following_first, following_more, arc_followed}
use Rattle.offers.proofs.follow_arcs.Goals as goal
use Rattle.offers.proofs.follow_arcs.Goals.{After-from-b}

pub returns-then-roads-u : goal.returns-then-roads-u
returns-then-roads-u c =
    let r = c.args.roads.now in
    rw (told_end r.corners.now r.starts.now r.neighbours.now r.trip c.args.work.now c.args.u (omega arith)) (followed_none _ _ c.requires.right)

-- there is such an arc
there : (c : After-from-b) → c.loop-c.c-index < arcs_of c.args.roads.now.starts.now c.args.u
there c = omega (arith, c.neighbours_of-near.ensures.count)

-- the cell that it leads to
cell : (c : After-from-b) → c.from-b.result ≡ get_or c.args.roads.now.neighbours.now (get_or c.args.roads.now.starts.now c.args.u 0 + c.loop-c.c-index) 0
cell c = c.from-b.ensures ∙ c.neighbours_of-near.ensures.each c.loop-c.c-index (there c)

pub bounds-roads-b : goal.bounds-roads-b
bounds-roads-b c =
    let s = (goal.at.bounds-roads-b c).After-from-b in
    rw (cell s) (arc_entry c.args.u c.loop-c.c-index c.loop-c.invariant.ready c.args.roads.now.indexed (omega arith) (there s))

pub leg-far-requires : goal.leg-far-requires
leg-far-requires c =
    let s = (goal.at.leg-far-requires c).After-from-b in
    rw (c.cell_of-a.ensures, cell s) (arc_cells c.args.u c.loop-c.c-index c.loop-c.invariant.ready c.args.roads.now.indexed (omega arith) (there s))

pub offer-requires-clause-inside : goal.offer-requires-clause-inside
offer-requires-clause-inside c =
    let s = (goal.at.offer-requires-clause-inside c).After-from-b in
    let v = rw (cell s) at c.from-v.ensures in
    rw v (arc_place c.args.u c.loop-c.c-index c.loop-c.invariant.ready c.args.roads.now.indexed (omega arith) (there s))

pub loop-c-preserved : goal.loop-c-preserved
loop-c-preserved c =
    let s = (goal.at.loop-c-preserved c).After-from-b in
    let f = c.loop-c.invariant in
    following_more f c.requires.short.0
    (arc_followed c.args.u c.loop-c.c-index f.ready c.args.roads.now.indexed (omega arith) (there s)
    c.cell_of-a.ensures (cell s) c.from-v.ensures c.leg-far.ensures.apart c.offer.ensures)

pub returns : goal.returns
returns c =
    let r = c.args.roads.now in
    let q : c.loop-c.c-index ≡ arcs_of r.starts.now c.args.u = omega (arith, c.neighbours_of-near.ensures.count, c.loop-c.auto.c-index-end) in
    let z = told_corner r.corners.now r.starts.now r.neighbours.now r.trip c.args.work.now c.args.u (omega arith) in
    rw (q ∙ sym z) at (c.loop-c.invariant.followed _ _ (followed_none _ _ c.requires.right))
