-- `matching::rows_match` meets its contract: the loop's invariant: each turning point passed has its neighbours. Assumes nothing.
use Rattle.std.proofs.Common.{◌+◌, ◌≤◌, length, arith, below_more}
use native.Mathlib.Numerals.{add-one}
use Rattle.matching.proofs.Matched.{corner_ready, started_in}
use Rattle.matching.proofs.rows_match.Goals as goal

pub slice_bounds-row-end : goal.slice_bounds-row-end
slice_bounds-row-end c =
    let inside : c.from-to.result ≤ length c.args.plan.now.neighbours.now =
    rw c.from-to.ensures (started_in c.requires.starts (c.loop-k.k + 1) (omega arith)) in
    inside

pub row_matches-requires : goal.row_matches-requires
row_matches-requires c =
    let p = c.requires in
    record { ready = rw c.from.ensures (corner_ready _ _ _ _ _ c.args.floor.now.good p.clear p.corners.0 c.loop-k.k c.loop-k-test.true) }

pub loop-k-preserved : goal.loop-k-preserved
loop-k-preserved c =
    let right = c.row_matches.ensures.yes c.if-not-row_matches.false in
    below_more _ _ c.loop-k.invariant (rw (c.from.ensures, c.from-from.ensures, c.from-to.ensures, add-one c.loop-k.k) at right)
