-- `places::corner_link` meets its contract. Assumes nothing.
use native.Mathlib.Omega.{arith}
use mathlib.Core.Path.{◌≡◌, sym, ◌∙◌}
use Prim.Native.Nat.{◌+◌, ◌<◌}
use lib.ListN.{get_or}
use Rattle.places.specs.Chart.{chart, arcs_of}
use Rattle.places.specs.Roads.{of}
use Rattle.places.proofs.Charts.{arc_entry, arc_index}
use Rattle.places.proofs.Links.{corner_arc, corner_start, corner_goal}
use Rattle.places.proofs.corner_link.Goals as goal
use Rattle.places.proofs.corner_link.Goals.{After-from-c}

-- the corner's neighbour, by the list of all
cell : (c : After-from-c) → c.from-c.result ≡ get_or c.args.roads.now.neighbours.now (get_or c.args.roads.now.starts.now c.args.u 0 + c.args.j) 0
cell c = let near = c.neighbours_of-near.ensures in c.from-c.ensures ∙ near.each c.args.j (omega (arith, near.count))

pub bounds-roads-c : goal.bounds-roads-c
bounds-roads-c c =
    rw (cell (goal.at.bounds-roads-c c).After-from-c)
    (arc_entry c.args.u c.args.j c.requires.ready c.args.roads.now.indexed (omega arith) (omega (arith, c.neighbours_of-near.ensures.count)))

pub returns-then-j-near : goal.returns-then-j-near
returns-then-j-near c =
    let there : c.args.j < arcs_of c.args.roads.now.starts.now c.args.u = omega (arith, c.neighbours_of-near.ensures.count) in
    rw (corner_arc (of chart c.args.roads.now c.args.work.now) c.args.u c.args.j there, c.from.ensures, cell (goal.at.returns-then-j-near c).After-from-c, arc_index c.args.u c.args.j c.requires.ready c.args.roads.now.indexed (omega arith) there)

pub returns-then-j-near-2 : goal.returns-then-j-near-2
returns-then-j-near-2 c = c.flagged.ensures ∙ sym (corner_start _ c.args.u c.args.j (omega (arith, c.neighbours_of-near.ensures.count)))

pub returns-else-j-near-2 : goal.returns-else-j-near-2
returns-else-j-near-2 c = c.flagged-else-j-near-2.ensures ∙ sym (corner_goal _ c.args.u c.args.j (omega (arith, c.neighbours_of-near.ensures.count)))
