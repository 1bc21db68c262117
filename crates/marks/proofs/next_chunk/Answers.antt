-- `marks::next_chunk` meets its contract: a pass from the first cell on meets the next span. Assumes nothing.
use Rattle.corners.proofs.Chunks.{chunk_ends, next_begins}
use Rattle.marks.proofs.Orders.{first_in_turn}
use Rattle.marks.proofs.next_chunk.Goals as goal

pub returns-then-from_first : goal.returns-then-from_first
returns-then-from_first c =
    let s = c.span.ensures in
    let first = first_in_turn _ _ _ _ c.requires.some.1 (c.from_first.ensures.yes c.if-from_first.true) in
    record { chunk = s.chunk; some = s.some; fits = chunk_ends s.chunk; first = first; whole = λ u. next_begins s }
