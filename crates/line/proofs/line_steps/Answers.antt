-- `line::line_steps` meets its contract: the steps of the octile length are the greater offset. Assumes nothing.
use Rattle.std.proofs.Common.{◌∙◌}
use Rattle.line.proofs.Firsts.{steps_greater}
use Rattle.line.proofs.line_steps.Goals as goal

pub returns : goal.returns
returns c = c.max.ensures ∙ steps_greater _ _ _ _ _ _ c.apart-dx.ensures c.apart-dy.ensures
