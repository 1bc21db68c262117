-- `corners::walk::ChunkWalk::next` meets its contract: where a chunk ends the next one begins. Assumes nothing.
use Rattle.std.proofs.Common.{◌+◌, ◌*◌, ◌%◌, ◌≤◌, ◌≡◌, rules}
use Rattle.corners.proofs.Chunks.{chunk_ends, next_begins}
use Rattle.corners.proofs.walk.ChunkWalkIterator.next.Goals as goal

pub returns-clause-goes : goal.returns-clause-goes
returns-clause-goes c =
    let s = c.args.self.now in
    let e : s.cell + c.span-count.result ≤ s.w * s.h = chunk_ends c.span-count.ensures.chunk in
    let b : (s.cell + c.span-count.result) % s.w % 64 ≡ 0 = next_begins c.span-count.ensures in
    search rules
