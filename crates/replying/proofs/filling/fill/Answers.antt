-- `replying::filling::fill` meets its contract. The loop's invariant: lines from the spot on have been answered or refused. The measure
-- is what is left to do of the text. Assumes nothing.
use native.Mathlib.Omega.{arith}
use Rattle.replying.specs.Pieces.{LineLeft}
use Rattle.replying.proofs.Pieces.{filling_none, filling_more, piece_of, step_less}
use Rattle.replying.proofs.filling.fill.Goals as goal
use Rattle.replying.proofs.filling.fill.Goals.{In-loop-route}

pub loop-route-init : goal.loop-route-init
loop-route-init c = let p = c.requires.begins in filling_none _ _ _ _ _ _ _ p.0 p.1

-- a turn has a line to answer
left : (c : In-loop-route) → LineLeft c.args.input.now.text.now c.loop-route.spot
left c = c.has_line.ensures.yes c.loop-route-test.true

pub loop-route-smaller : goal.loop-route-smaller
loop-route-smaller c = step_less _ _ _ _ _ _ (left (goal.at.loop-route-smaller c).In-loop-route) c.reply_to-spot.ensures

pub loop-route-preserved : goal.loop-route-preserved
loop-route-preserved c =
    let k = c.reply_to-spot.auto in
    filling_more _ _ _ _ _ _ _ _ _ c.loop-route.invariant _ _ _ k.route k.work k.out
    (left (goal.at.loop-route-preserved c).In-loop-route) _ c.reply_to-spot.ensures

pub returns : goal.returns
returns c =
    piece_of _ _ _ _ _ _ _ _ _ c.loop-route.invariant _ _ c.requires.begins.1.out_size
    (c.has_line.ensures.no c.loop-route-test.false) c.finish.ensures
