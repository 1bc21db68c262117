-- `floorwalk::write_pieces` is safe and ends. The loop's invariant: lines begin at the spot unless it is the last, and there is room.
-- The measure is what is left to do of the text. Assumes nothing.
use Rattle.std.proofs.Common.{◌≡◌, false}
use Rattle.replying.specs.Replies.{Begins}
use Rattle.replying.specs.Pieces.{PieceRoom}
use Rattle.replying.proofs.Pieces.{left_of}
use Rattle.floorwalk.proofs.write_pieces.Given as goal

abbrev pub invariant-loop-spot : goal.invariant-loop-spot
invariant-loop-spot l = (l.spot.last ≡ false → Begins l.input.text.now l.spot) × PieceRoom l.route l.work l.out l.spot.used

abbrev pub decreases-loop-spot : goal.decreases-loop-spot
decreases-loop-spot l = left_of l.input.text.now l.spot
