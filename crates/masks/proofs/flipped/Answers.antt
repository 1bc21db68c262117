-- `masks::flipped` meets its contract: what is left of all ones has the other bits. Assumes nothing.
use native.Mathlib.Omega.{arith}
use Rattle.masks.proofs.Bits.{flip_bit}
use Rattle.masks.proofs.flipped.Goals as goal

pub returns : goal.returns
returns c i l = flip_bit 64 c.args.a i (omega arith) l
