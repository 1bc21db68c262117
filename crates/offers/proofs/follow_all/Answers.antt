-- `offers::follow_all` meets its contract. Assumes nothing.
use native.Mathlib.Omega.{arith}
use mathlib.Core.Path.{◌≡◌, ◌∙◌}
use Prim.Native.Nat.{◌+◌}
use Rattle.places.specs.Chart.{chart, link_count}
use Rattle.places.specs.Flagging.{first_told}
use Rattle.places.specs.Roads.{of}
use Rattle.places.proofs.Charts.{ready_kept}
use Rattle.places.proofs.Told.{told_all}
use Rattle.offers.proofs.Follows.{following_first, following_more}
use Rattle.offers.proofs.follow_all.Goals as goal

pub loop-i-preserved : goal.loop-i-preserved
loop-i-preserved c =
    let l = c.loop-i in
    let first = first_told c.args.roads.now.starts.now c.args.roads.now.trip.k c.args.u in
    let z : first + l.i + 1 ≡ first + (l.i + 1) = omega arith in
    (omega arith, rw z at (following_more l.invariant.1 c.requires.short.0 c.follow_flag.ensures))

pub returns : goal.returns
returns c =
    let r = c.args.roads.now in
    let l = c.loop-i in
    let all = told_all r.corners.now r.starts.now r.neighbours.now r.trip c.args.work.now c.args.u in
    let q : first_told r.starts.now r.trip.k c.args.u + l.i ≡ link_count (of chart r c.args.work.now) c.args.u =
    omega (arith, l.invariant.0, c.flags_of-f.ensures.count, all) in
    rw q at (l.invariant.1.followed _ _ c.follow_arcs.ensures)
