-- `marks::mark_chunk` meets its contract: one entry more is marked each time. Assumes nothing.
use Prim.Native.Nat.{◌+◌, ◌*◌, ◌<◌, ◌≤◌}
use mathlib.Core.Path.{◌≡◌}
use native.Mathlib.Omega.{arith}
use lib.ListN.{length}
use Rattle.marks.specs.Marking.{rank, first_met}
use Rattle.marks.proofs.Orders.{rank_below, in_turn}
use Rattle.marks.proofs.Marked.{bits_in, bits_ready, bits_small, bits_marked}
use Rattle.marks.proofs.mark_chunk.Goals as goal
use Rattle.marks.proofs.mark_chunk.Goals.{After-in_turn-i}

-- the cell is one of the chunk's
inside : (c : After-in_turn-i) → c.in_turn-i.result < c.args.chunk.count
inside c = omega (arith, c.in_turn-i.ensures, rank_below c.args.chunk.count c.args.dir c.loop-k.k c.requires.chunk.1 (omega arith))

-- and its place in the pass is the next one
here : (c : After-in_turn-i) →
    let a = c.args in
    let g = a.floor.now.grid in
    rank (g.w * g.h) a.dir (a.chunk.cell + c.in_turn-i.result) ≡ first_met (g.w * g.h) a.dir a.chunk.cell a.chunk.count + c.loop-k.k
here c = rw c.in_turn-i.ensures (in_turn c.requires.chunk.0 c.requires.chunk.1 c.loop-k.k (omega arith))

pub mark_bit-requires : goal.mark_bit-requires
mark_bit-requires c =
    let t = (goal.at.mark_bit-requires c).After-in_turn-i in
    let f = c.args.floor.now.good in
    let k = c.requires.chunk.0 in
    let d = c.requires.chunk.1 in
    let m = c.loop-k.invariant in
    let g = c.args.floor.now.grid in
    let long : 4 * (g.w * g.h) ≤ length c.loop-k.clear = omega (arith, c.requires.long, m.as_long) in
    let are = c.steps_of-steps.ensures in
    record {
      ready = bits_ready k are (inside t) c.step_from.ensures f _ long d;
      next = bits_in k are (inside t) c.step_from.ensures _ long d;
      byte = bits_small k are (inside t) c.step_from.ensures m (here t) d f;
    }

pub loop-k-preserved : goal.loop-k-preserved
loop-k-preserved c =
    let t = (goal.at.loop-k-preserved c).After-in_turn-i in
    bits_marked c.requires.chunk.0 c.steps_of-steps.ensures (inside t) c.step_from.ensures c.loop-k.invariant (here t) c.requires.chunk.1 c.requires.long
    _ c.mark_bit.ensures _ (omega arith)
