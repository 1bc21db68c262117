-- `ends::prepare` meets its contract: the flags of the start are set, then those of the goal. Assumes nothing.
use mathlib.Core.Path.{refl}
use native.Mathlib.Omega.{arith}
use Rattle.places.specs.Columns.{ByStart, ByGoal}
use Rattle.chain.proofs.Corners.{corners_ascend}
use Rattle.ends.proofs.Charting.{flaggable, prepared}
use Rattle.ends.proofs.prepare.Goals as goal

pub flag_end-requires-clause-ready : goal.flag_end-requires-clause-ready
flag_end-requires-clause-ready c =
    let p = c.requires.able in
    flaggable _ _ _ _ _ _ _ p _ _ ByStart _ p.start_inside p.start_free refl (omega arith) refl

pub flag_end-requires-2-clause-ready : goal.flag_end-requires-2-clause-ready
flag_end-requires-2-clause-ready c =
    let p = c.requires.able in
    flaggable _ _ _ _ _ _ _ p _ _ ByGoal _ p.goal_inside p.goal_free refl (omega arith) c.flag_end.ensures.only.sized

pub trip_of-requires : goal.trip_of-requires
trip_of-requires c =
    let p = c.requires.able in
    (corners_ascend p.fits.own, p.fits.few_corners)

pub returns : goal.returns
returns c = prepared _ _ _ _ _ _ _ c.requires.able _ c.trip_of.ensures _ _ c.flag_end.ensures c.flag_end-2.ensures c.requires.empty
