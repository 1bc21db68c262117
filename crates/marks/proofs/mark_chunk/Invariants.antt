-- `marks::mark_chunk` meets its contract: the loop's invariant: the direction is marked for the cells met. Assumes nothing.
use Prim.Native.Nat.{◌+◌, ◌*◌}
use Rattle.floor.specs.Lent.{on}
use Rattle.marks.specs.Marking.{first_met, Marking}
use Rattle.marks.proofs.mark_chunk.Given as goal

abbrev pub invariant-loop-k : goal.invariant-loop-k
invariant-loop-k l =
    let g = l.floor.grid in
    on Marking g l.dir (first_met (g.w * g.h) l.dir l.chunk.cell l.chunk.count + l.k) l.initial.clear l.clear
