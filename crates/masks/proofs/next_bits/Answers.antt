-- `masks::next_bits` meets its contract: by the law of bits moved down. Assumes nothing.
use Rattle.std.proofs.Common.{arith}
use Rattle.masks.proofs.Bits.{next_mask}
use Rattle.masks.proofs.next_bits.Goals as goal

pub returns : goal.returns
returns c = next_mask c.args.a c.args.b (omega arith)
