-- `marks::chunk_matches` meets its contract: what is computed is what the next entry makes of each one. Assumes nothing.
use Prim.Native.Nat.{◌+◌}
use mathlib.Core.Path.{◌≡◌, sym, ◌∙◌}
use native.Mathlib.Omega.{arith}
use borrow.Author.Count.{below_more}
use Rattle.floor.specs.Words.{board, place_of}
use Rattle.floor.specs.Lent.{of}
use Rattle.marks.specs.Marking.{by_next}
use Rattle.corners.proofs.Chunks.{chunk_ends}
use Rattle.marks.proofs.Marked.{bits_next, bits_in, bits_ready}
use Rattle.marks.proofs.chunk_matches.Goals as goal
use Rattle.marks.proofs.chunk_matches.Goals.{After-by_bits-m}

pub by_bits-m-requires : goal.by_bits-m-requires
by_bits-m-requires c =
    let k = c.requires.chunk.0 in
    let d = c.requires.chunk.1 in
    let are = c.steps_of-steps.ensures in
    record {
      ready = bits_ready k are (omega arith) c.step_from.ensures c.args.floor.now.good _ c.requires.long d;
      next = bits_in k are (omega arith) c.step_from.ensures _ c.requires.long d;
    }

-- what is computed is what the next entry makes of this one
made : (c : After-by_bits-m) →
    let a = c.args in
    let g = a.floor.now.grid in
    c.by_bits-m.result ≡ by_next (of board g) g.w a.clear.now (place_of g.w (a.chunk.cell + c.loop-i.i)) a.dir
made c = c.by_bits-m.ensures ∙ bits_next c.requires.chunk.0 c.steps_of-steps.ensures (omega arith) c.step_from.ensures c.args.clear.now

pub entry-requires : goal.entry-requires
entry-requires c = omega (arith, chunk_ends c.requires.chunk.0, c.requires.long)

pub loop-i-preserved : goal.loop-i-preserved
loop-i-preserved c =
    below_more _ _ c.loop-i.invariant (sym c.entry.ensures.same ∙ c.if-entry-m.false ∙ made (goal.at.loop-i-preserved c).After-by_bits-m)
