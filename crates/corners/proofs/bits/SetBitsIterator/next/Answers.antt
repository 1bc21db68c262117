-- `corners::bits::SetBits::next` meets its contract: the zeros below the lowest 1 of what is left of the mask. Assumes nothing.
use Rattle.std.proofs.Common.{refl, arith}
use Rattle.corners.proofs.Counts.{next_found}
use Rattle.corners.proofs.bits.SetBitsIterator.next.Goals as goal

pub returns-then-self-i-clause-steps : goal.returns-then-self-i-clause-steps
returns-then-self-i-clause-steps c k l m =
    let s = c.args.self.now in
    (next_found s.mask s.from).clear k l (omega arith)

pub returns-clause-steps : goal.returns-clause-steps
returns-clause-steps c =
    let s = c.args.self.now in
    (next_found s.mask s.from, omega arith, refl)
