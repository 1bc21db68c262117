-- `windows::corner_at` meets its contract: the rule on the window is the rule on the board. Assumes nothing.
use mathlib.Core.Path.{◌∙◌}
use Rattle.windows.proofs.Windows.{corner_window}
use Rattle.windows.proofs.corner_at.Goals as goal

pub returns : goal.returns
returns c = c.is_corner.ensures ∙ corner_window _ _ _ _ c.window.ensures
