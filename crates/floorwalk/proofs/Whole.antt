-- The floor's line and the pieces that are written after it make the whole listing. Assumes nothing.
use Prim.Native.Nat.{ℕ, ◌+◌}
use mathlib.Core.Bool.{Bool, true, false}
use mathlib.Core.List.{List, ◌++◌, append-nil, append_assoc}
use mathlib.Core.Path.{◌≡◌, refl, sym, ap, subst, ◌∙◌}
use Rattle.opening.specs.Grounds.{Ground}
use Rattle.replying.specs.Replies.{spot_of}
use Rattle.opening.specs.Openings.{OpenFloor, ground_line}
use Rattle.replying.specs.Pieces.{Passed, Ending, PieceMade}
use Rattle.floorwalk.specs.Listing.{Listing, walked}
use Rattle.replying.specs.declared.Spot.{Spot}
use Rattle.floorwalk.proofs.Pieces.{passed_then}

module _ (g : Ground) (text : List ℕ) (more : Bool) where
  -- what is written piece by piece from a spot on, each from where the one before it was flushed
  pub data PiecesWritten : Spot → List ℕ → Type 0 where
    last_piece : {from r : Spot} {before after : List ℕ} (p : PieceMade g text more from before after r) → r.last ≡ true → PiecesWritten from (p.bytes ++ p.tail)
    next_piece : {from r : Spot} {before after rest : List ℕ} (p : PieceMade g text more from before after r) →
        r.last ≡ false → PiecesWritten (spot_of r.at r.line 0 r.last) rest → PiecesWritten from (p.bytes ++ p.tail ++ rest)

  -- the lines from a spot on are answered to the end
  record Rest (from : Spot) (bytes : List ℕ) : Type 0 where
    at : ℕ
    line : ℕ
    replies : List ℕ
    tail : List ℕ
    passed : Passed g text from.at from.line at line replies
    ending : Ending text more at line tail
    joined : bytes ≡ replies ++ tail

  -- what is written piece by piece answers the lines to the end
  rest_of : {from : Spot} {bytes : List ℕ} → PiecesWritten from bytes → Rest from bytes
  rest_of (last_piece {r = r} p e) =
      record { at = r.at; line = r.line; replies = p.bytes; tail = p.tail; passed = p.passed; ending = p.ended e; joined = refl }
  rest_of (next_piece {from = from} {r = r} {rest = rest} p e w) =
      let q = rest_of w in
      record {
        at = q.at;
        line = q.line;
        replies = p.bytes ++ q.replies;
        tail = q.tail;
        passed = passed_then g text from.at from.line r.at r.line q.at q.line p.bytes q.replies p.passed q.passed;
        ending = q.ending;
        joined =
            ap (λ t. p.bytes ++ t ++ rest) (p.going e).0
            ∙ ap (λ t. t ++ rest) (append-nil p.bytes)
            ∙ ap (λ t. p.bytes ++ t) q.joined
            ∙ sym (append_assoc p.bytes q.replies q.tail);
      }

  -- the whole listing of an open floor
  pub whole : (next used : ℕ) (bytes : List ℕ) → OpenFloor text g next → PiecesWritten (spot_of next (g.h + 2) used false) bytes → Listing text more (ground_line g ++ bytes)
  whole next used bytes o w =
      let q = rest_of w in subst (λ b. Listing text more (ground_line g ++ b)) (sym q.joined) (walked o q.passed q.ending)
