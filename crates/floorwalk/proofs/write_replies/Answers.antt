-- `floorwalk::write_replies` is safe and ends: the parts of the lists are within them, and the trips begin inside the text.
-- Assumes nothing.
use Rattle.std.proofs.Common.{arith, rules}
use Rattle.floor.proofs.Accepted.{fits}
use Rattle.reading.proofs.Lines.{pair_inside}
use Rattle.reading.proofs.Floors.{rows_inside}
use Rattle.floorwalk.proofs.Pieces.{begun}
use Rattle.floorwalk.proofs.write_replies.Goals as goal

pub write_pieces-requires-clause-begins : goal.write_pieces-requires-clause-begins
write_pieces-requires-clause-begins c =
    let m = c.requires.floor.map in
    let f = fits _ _ m.sizes.accepted in
    begun _ _ _ _ _ _ _ _ c.first_spot.ensures (rw m.ends (rows_inside _ m.from _ _ m.before m.after (pair_inside _ _ _ _ _ _ m.sizes.line).1 m.filled))
    (omega (arith, f.high)) (omega (arith, c.requires.short)) (search rules) (search rules) c.requires.room.out_size
