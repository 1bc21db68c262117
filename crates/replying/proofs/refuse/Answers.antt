-- `replying::refuse` meets its contract: the part of the output from the place on has room, since a line number has at
-- most 20 digits. Assumes nothing.
use Prim.Native.Nat.{◌≤◌}
use mathlib.Core.Path.{refl}
use native.Mathlib.Omega.{arith}
use lib.ListN.{length}
use Rattle.writing.specs.Answers.{input_refused}
use Rattle.writing.proofs.Puts.{digits_64, input_length}
use Rattle.replying.proofs.Buffers.{put_part, part_length}
use Rattle.replying.proofs.refuse.Goals as goal
use Rattle.replying.proofs.refuse.Goals.{Start}

-- a refusal has at most 43 bytes
short : (s : Start) → length (input_refused s.args.spot.line) ≤ 43
short s = rw (input_length s.args.spot.line) (omega (arith, digits_64 s.args.spot.line (omega (arith, s.well_formed))))

pub put_input_refused-n-requires : goal.put_input_refused-n-requires
put_input_refused-n-requires c =
    rw (part_length c.args.out.now c.args.spot.used _ refl) (omega (arith, short (goal.at.put_input_refused-n-requires c).Start, c.requires))

pub overflow_add-result : goal.overflow_add-result
overflow_add-result c = omega (arith, short (goal.at.overflow_add-result c).Start, c.put_input_refused-n.ensures.ends, c.requires, c.well_formed)

pub returns : goal.returns
returns c =
    record {
      end = _;
      is = refl;
      line =
          record {
            put = put_part c.args.out.now _ c.args.spot.used _ _ _ refl c.put_input_refused-n.ensures;
            short = omega (arith, short (goal.at.returns c).Start);
          };
    }
