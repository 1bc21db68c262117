-- `ends::flags::flag_links` meets its contract: what was found round the cell is what is seen from it. Assumes nothing.
use mathlib.Core.Path.{refl}
use Rattle.plan.proofs.Seens.{found_room}
use Rattle.ends.proofs.flags.flag_links.Goals as goal

pub returns-in_default : goal.returns-in_default
returns-in_default c = let full = c.in_default.ensures in absurd (found_room _ _ _ _ c.requires.ready.few _ refl full.0)
