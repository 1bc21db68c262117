-- `offers::follow_flag` meets its contract. Assumes nothing.
use native.Mathlib.Omega.{arith}
use Rattle.places.proofs.Links.{two_cells}
use Rattle.places.proofs.Told.{tells, told_place}
use Rattle.offers.proofs.Follows.{flag_followed, flag_passed}
use Rattle.offers.proofs.follow_flag.Goals as goal

pub overflow_mul-flag : goal.overflow_mul-flag
overflow_mul-flag c = omega (arith, (tells c.args.i c.requires.ready c.requires.inside c.requires.flags c.requires.there).within)

pub overflow_add-flag : goal.overflow_add-flag
overflow_add-flag c = omega (arith, (tells c.args.i c.requires.ready c.requires.inside c.requires.flags c.requires.there).within)

pub offset_bounds-work-f : goal.offset_bounds-work-f
offset_bounds-work-f c = omega (arith, (tells c.args.i c.requires.ready c.requires.inside c.requires.flags c.requires.there).within)

pub bounds-work-f : goal.bounds-work-f
bounds-work-f c = (tells c.args.i c.requires.ready c.requires.inside c.requires.flags c.requires.there).within

pub leg-far-requires : goal.leg-far-requires
leg-far-requires c =
    let p = c.requires in
    rw (c.cell_of-a.ensures, c.cell_of-b.ensures) (two_cells _ p.ready.fair _ _ p.inside (told_place c.args.i c.requires.ready c.requires.inside c.requires.flags c.requires.there))

pub offer-requires-clause-inside : goal.offer-requires-clause-inside
offer-requires-clause-inside c = told_place c.args.i c.requires.ready c.requires.inside c.requires.flags c.requires.there

pub returns-then-flag-gt0 : goal.returns-then-flag-gt0
returns-then-flag-gt0 c = flag_followed c.args.i c.requires.ready c.requires.inside c.requires.flags c.requires.there c.if-flag-gt0.true c.cell_of-a.ensures c.cell_of-b.ensures c.leg-far.ensures.apart c.offer.ensures

pub returns-else-flag-gt0 : goal.returns-else-flag-gt0
returns-else-flag-gt0 c = flag_passed c.args.i c.requires.ready c.requires.inside c.requires.flags c.requires.there (omega (arith, c.if-flag-gt0.false))
