-- `windows::step_at` meets its contract: the rule on the window is the rule on the board. Assumes nothing.
use mathlib.Core.Path.{◌∙◌}
use Rattle.windows.proofs.Windows.{step_window}
use Rattle.windows.proofs.step_at.Goals as goal

pub returns : goal.returns
returns c = c.step_legal.ensures ∙ step_window _ _ _ _ c.window.ensures _
