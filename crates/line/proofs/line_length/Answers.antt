-- `line::line_length` meets its contract: the gaps of two cells are those of their places. Assumes nothing.
use mathlib.Core.Path.{◌∙◌}
use Rattle.line.proofs.Firsts.{octile_cells}
use Rattle.line.proofs.line_length.Goals as goal

pub returns : goal.returns
returns c = c.octile.ensures ∙ octile_cells _ _ _ _ _ _ c.apart-dx.ensures c.apart-dy.ensures
