-- Pieces one after the other: each leaves less to do, and lines may go on after it. Assumes nothing.
use Prim.Native.Nat.{ℕ, ◌+◌, ◌-◌, ◌<◌, ◌≤◌}
use mathlib.Core.Bool.{Bool, true, false, cond}
use mathlib.Core.List.{List, ◌++◌, append-nil, append_assoc}
use mathlib.Core.Path.{◌≡◌, refl, sym, subst}
use native.Mathlib.Omega.{arith}
use lib.ListN.{length}
use Rattle.opening.specs.Grounds.{Ground}
use Rattle.replying.specs.Replies.{Begins, spot_of}
use Rattle.replying.specs.Pieces.{Passed, none, one_more, PieceRoom, PieceMade}
use Rattle.replying.specs.declared.Spot.{Spot}
use Rattle.replying.proofs.Pieces.{left_of}

-- a piece leaves less to do
pub piece_less : (g : Ground) (text : List ℕ) (more : Bool) (s r : Spot) (before after : List ℕ) → Begins text s → PieceMade g text more s before after r → left_of text r < left_of text s
piece_less g text more s r before after b p = subst (λ l. left_of text r < length text - s.at + cond l 0 1) (sym b.going) (by r.last refl)
  where
    by : (l : Bool) → r.last ≡ l → left_of text r < length text - s.at + 1
    by true e = subst (λ l. length text - r.at + cond l 0 1 < length text - s.at + 1) (sym e) (omega (arith, p.later))
    by false e =
        subst (λ l. length text - r.at + cond l 0 1 < length text - s.at + 1) (sym e) (omega (arith, (p.going e).1, p.inside))

-- a first spot begins a piece
pub begun : (text route work out : List ℕ) (at line used : ℕ) (r : Spot) → r ≡ spot_of at line used false → at ≤ length text → line ≤ at + 257 → used ≤ 32576
    → length route ≡ 16384 → length work ≡ 12300 → length out ≡ 131072 → Begins text r × PieceRoom route work out r.used
begun text route work out at line used r e i n u a b c =
    subst (λ t. Begins text t × PieceRoom route work out t.used) (sym e)
    (record { inside = i; numbered = n; going = refl }, record { route_size = a; work_long = b; out_size = c; little = u })

-- after a piece is written its spot has no output, and lines may go on there
pub flushed : (text route work out : List ℕ) (p r : Spot) → r ≡ spot_of p.at p.line 0 p.last → p.at ≤ length text → p.line ≤ p.at + 257
    → length route ≡ 16384 → length work ≡ 12300 → length out ≡ 131072 → (r.last ≡ false → Begins text r) × PieceRoom route work out r.used
flushed text route work out p r e i n a b c =
    subst (λ t. (t.last ≡ false → Begins text t) × PieceRoom route work out t.used) (sym e)
    (λ g. record { inside = i; numbered = n; going = g }, record { route_size = a; work_long = b; out_size = c; little = omega arith })

-- lines answered after lines answered
pub passed_then : (g : Ground) (text : List ℕ) (from first mid line at last : ℕ) (bytes others : List ℕ)
    → Passed g text from first mid line bytes → Passed g text mid line at last others → Passed g text from first at last (bytes ++ others)
passed_then g text from first mid line at last bytes others p none = subst (Passed g text from first mid line) (sym (append-nil bytes)) p
passed_then g text from first mid line at last bytes others p (one_more {at = a} {line = l} {bytes = b} {reply = r} q s) =
    subst (Passed g text from first at last) (append_assoc bytes b r) (one_more (passed_then g text from first mid line a l bytes b p q) s)
