-- `marks::chunk_matches` meets its contract: the loop's invariant: each entry passed is what the next one makes it. Assumes nothing.
use Rattle.floor.specs.Lent.{on}
use Rattle.marks.specs.Marking.{ChunkAgrees}
use Rattle.marks.proofs.chunk_matches.Given as goal

abbrev pub invariant-loop-i : goal.invariant-loop-i
invariant-loop-i l = on ChunkAgrees l.floor.grid l.clear l.dir l.chunk.cell l.i
