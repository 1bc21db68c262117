-- `places::link_at` meets its contract. Assumes nothing.
use native.Mathlib.Omega.{arith}
use mathlib.Core.Path.{sym, ◌∙◌}
use Rattle.places.specs.Chart.{chart}
use Rattle.places.specs.Roads.{of}
use Rattle.places.proofs.Links.{link_corner, link_start, link_goal, count_end}
use Rattle.places.proofs.link_at.Goals as goal

pub returns-then-u-k : goal.returns-then-u-k
returns-then-u-k c = c.corner_link.ensures ∙ sym (link_corner _ c.args.u c.args.j (omega arith))

pub flagged-requires : goal.flagged-requires
flagged-requires c =
    record { column = omega arith; place = omega (arith, count_end (of chart c.args.roads.now c.args.work.now) c.args.u (omega arith), c.requires.there); room = c.requires.ready.room }

pub returns-then-u-k-2 : goal.returns-then-u-k-2
returns-then-u-k-2 c = c.flagged.ensures ∙ sym (link_start _ c.args.u c.args.j (omega arith))

pub flagged-requires-else-u-k-2 : goal.flagged-requires-else-u-k-2
flagged-requires-else-u-k-2 c =
    record { column = omega arith; place = omega (arith, count_end (of chart c.args.roads.now c.args.work.now) c.args.u (omega arith), c.requires.there); room = c.requires.ready.room }

pub returns-else-u-k-2 : goal.returns-else-u-k-2
returns-else-u-k-2 c = c.flagged-else-u-k-2.ensures ∙ sym (link_goal _ c.args.u c.args.j (omega arith))
