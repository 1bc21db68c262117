-- `writing::put_route` meets its contract. The loop's invariant: the cells passed have been written. Assumes nothing.
use Prim.Native.Nat.{◌+◌, ◌≤◌}
use mathlib.Core.Path.{sym, ap}
use native.Mathlib.Omega.{arith}
use lib.ListN.{length}
use lib.Seq.{take_all}
use Rattle.writing.specs.Answers.{cell_bytes, route_cells}
use Rattle.writing.proofs.Puts.{grown_none, grown_then, grown_same, put_back, cells_none, cells_more, cells_room, route_then}
use Rattle.writing.proofs.put_route.Goals as goal
use Rattle.writing.proofs.put_route.Goals.{Start}

-- the colon and the cells have room together
total : (s : Start) → s.args.from + (2 + length (cell_bytes s.args.route.now)) ≤ length s.args.out.now
unfolding route_cells
total s = omega (arith, s.requires)

pub text-requires : goal.text-requires
text-requires c = omega (arith, total (goal.at.text-requires c).Start)

pub loop-cell-init : goal.loop-cell-init
loop-cell-init c = grown_same (sym cells_none) (grown_none _)

pub spaced-requires : goal.spaced-requires
spaced-requires c =
    let l = c.loop-cell in
    let p = l.invariant.put in
    rw c.from.ensures
    (omega (arith, total (goal.at.spaced-requires c).Start, cells_room c.args.route.now l.cell-index (omega arith), p.ends, l.invariant.long, c.text.ensures.put.ends, c.text.ensures.long))

pub loop-cell-preserved : goal.loop-cell-preserved
loop-cell-preserved c =
    let l = c.loop-cell in
    grown_same
    (cells_more c.args.route.now l.cell-index (omega arith))
    (grown_then (omega (arith, total (goal.at.loop-cell-preserved c).Start, c.text.ensures.put.ends, c.text.ensures.long)) l.invariant (rw c.from.ensures at c.spaced.ensures))

pub returns : goal.returns
returns c =
    let l = c.loop-cell in
    let g = grown_same
    (route_then c.args.route.now)
    (grown_then (omega (arith, total (goal.at.returns c).Start)) c.text.ensures
    (grown_same (ap cell_bytes (take_all l.cell-index c.args.route.now (omega arith))) l.invariant)) in
    put_back (let s = g.same in grind arith) g.put
