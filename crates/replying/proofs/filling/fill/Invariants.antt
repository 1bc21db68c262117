-- `replying::filling::fill` meets its contract. The loop's invariant: lines from the spot on have been answered or refused. The measure
-- is what is left to do of the text. Assumes nothing.
use Rattle.plan.specs.Lent.{lists_of}
use Rattle.opening.specs.Grounds.{surveyed_on}
use Rattle.replying.proofs.Pieces.{Filling, left_of}
use Rattle.replying.proofs.filling.fill.Given as goal

abbrev pub invariant-loop-route : goal.invariant-loop-route
invariant-loop-route l =
    Filling (surveyed_on l.floor.grid (lists_of l.plan)) l.input.text.now l.input.more l.initial.spot l.initial.out l.route l.work l.out l.spot

abbrev pub decreases-loop-route : goal.decreases-loop-route
decreases-loop-route l = left_of l.input.text.now l.spot
