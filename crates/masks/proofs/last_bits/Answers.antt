-- `masks::last_bits` meets its contract: by the law of bits moved up. Assumes nothing.
use Rattle.std.proofs.Common.{arith}
use Rattle.masks.proofs.Bits.{last_mask}
use Rattle.masks.proofs.last_bits.Goals as goal

pub returns : goal.returns
returns c = last_mask c.args.a c.args.b (omega arith)
