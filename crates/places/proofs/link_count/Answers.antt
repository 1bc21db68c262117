-- `places::link_count` meets its contract. Assumes nothing.
use native.Mathlib.Omega.{arith}
use borrow.Author.Tests.{lt-ltb, le-ltb}
use Rattle.places.specs.Chart.{count_of}
use Rattle.places.proofs.link_count.Goals as goal

pub returns-then-u-roads : goal.returns-then-u-roads
unfolding count_of
returns-then-u-roads c = rw (lt-ltb c.args.u c.args.roads.now.trip.k (omega arith), c.neighbours_of.ensures.count)

pub returns-else-u-roads : goal.returns-else-u-roads
unfolding count_of
returns-else-u-roads c = rw (le-ltb c.args.u c.args.roads.now.trip.k (omega arith))
