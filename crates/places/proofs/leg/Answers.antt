-- `places::leg` meets its contract. Assumes nothing.
use Rattle.places.specs.Places.{apart}
use Rattle.places.proofs.Cells.{offset_x, offset_y}
use Rattle.places.proofs.leg.Goals as goal

pub returns : goal.returns
unfolding apart
returns c = record { apart = rw (c.weigh.ensures.weight, c.apart-dx.ensures, c.apart-dy.ensures); bounded = c.weigh.ensures.bounded }
