-- `windows::three_bits` meets its contract: each is read by its own shift. Assumes nothing.
use native.Mathlib.Numerals.{add-one, add-two}
use Rattle.windows.specs.Window.{triple}
use Rattle.windows.proofs.three_bits.Goals as goal

pub returns : goal.returns
unfolding triple
returns c = rw (add-one c.args.s, add-two c.args.s)
