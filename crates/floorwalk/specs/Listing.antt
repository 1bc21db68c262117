-- The whole listing that floorwalk writes for a text (01, "Floorwalk: the program and its listing").
-- The text is what is taken of the input, and `more` says whether the input goes on after it.
use Rattle.std.specs.Prelude.{ℕ, ◌+◌, Bool, List, ◌++◌}
use Rattle.opening.specs.Grounds.{Ground}
use Rattle.opening.specs.Openings.{TurnedAway, OpenFloor, ground_line}
use Rattle.replying.specs.Pieces.{Passed, Ending}

-- the whole listing
pub data Listing (text : List ℕ) (more : Bool) : List ℕ → Type 0 where
  refused : {bytes : List ℕ} → TurnedAway text bytes → Listing text more bytes
  walked : {g : Ground} {next at line : ℕ} {bytes tail : List ℕ} →
      OpenFloor text g next → Passed g text next (g.h + 2) at line bytes → Ending text more at line tail →
      Listing text more (ground_line g ++ (bytes ++ tail))
