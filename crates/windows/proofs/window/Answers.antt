-- `windows::window` meets its contract: by what `three_at` ensures of each row. Assumes nothing.
use native.Mathlib.Numerals.{add-one, add-two}
use Rattle.windows.specs.Window.{window_of, triple}
use Rattle.windows.proofs.window.Goals as goal

pub returns : goal.returns
unfolding window_of triple
returns c = cc (add-one c.args.cell.y, add-two c.args.cell.y)
