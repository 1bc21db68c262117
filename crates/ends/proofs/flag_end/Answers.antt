-- `ends::flag_end` meets its contract. Assumes nothing.
use mathlib.Core.Path.{sym, ◌∙◌}
use Rattle.ends.proofs.Charting.{end_all}
use Rattle.ends.proofs.flag_end.Goals as goal

pub returns-then-not-corner_cell : goal.returns-then-not-corner_cell
returns-then-not-corner_cell c =
    let p = c.requires in
    let f = c.flag_links.ensures in
    end_all _ _ _ _ _ _ _ _ p.empty (sym c.corner_cell.ensures ∙ c.if-not-corner_cell.true) p.ready.flags.ascending _ f.0 f.1
