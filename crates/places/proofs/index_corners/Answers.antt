-- `places::index_corners` meets its contract. Assumes nothing.
use native.Mathlib.Omega.{arith}
use Rattle.places.proofs.Cells.{indexing_first, indexing_more, indexing_done}
use Rattle.places.proofs.index_corners.Goals as goal

pub loop-i-preserved : goal.loop-i-preserved
loop-i-preserved c =
    let w = c.from-cell.ensures in
    let p = c.requires in
    let x = c.loop-i in
    indexing_more p.ascending x.invariant (omega arith) w (omega (arith, w, p.small x.i (omega arith), x.invariant.sized, p.room))

pub returns : goal.returns
returns c = record { indexed = indexing_done c.requires.room c.loop-i.invariant (omega arith); sized = c.loop-i.invariant.sized }
