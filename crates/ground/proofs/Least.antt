-- No walk is shorter than the octile length of its ends. So the direct line is shortest wherever it is legal.
-- Assumes nothing.
use mathlib.Core.Path.{◌≡◌, refl, subst}
use mathlib.Core.List.{List, [], ◌∷◌}
use Prim.Native.Nat.{ℕ, pred, ◌≤◌}
use native.Mathlib.Omega.{arith}
use Rattle.lengths.specs.Lengths.{Len, ◌≼◌, gap, octile_of}
use Rattle.lengths.specs.Laws.{≼_refl, ≼_trans, ⊕_mono}
use Rattle.lengths.specs.Octile.{octile_grows, distance_self, distance_triangle}
use Rattle.floor.specs.Board.{Board, Place, Dir, Offset, less, same, more, dx, dy, shift, go, moving}
use Rattle.ground.specs.Kind.{octile, walkers}
use Rattle.ground.specs.Walk.{end, Legal, Walk, size, len, Shortest}
use Rattle.ground.specs.Line.{line}
use Rattle.ground.proofs.Tables.{each}
use Rattle.ground.proofs.Axes.{one_if}
use Rattle.ground.proofs.LineEnds.{line_end, line_len}

-- an offset moves by one or not at all
gap_shift : (o : Offset) (n : ℕ) → gap n (shift o n) ≤ one_if (moving o)
gap_shift less n = let h : gap n (pred n) ≤ 1 = omega arith in h
gap_shift same n = let h : gap n n ≤ 0 = omega arith in h
gap_shift more n = omega arith

-- a direction is as long as its offsets say
size_octile : (d : Dir) → octile_of (one_if (moving (dx d))) (one_if (moving (dy d))) ≡ size d
size_octile = each (λ d. octile_of (one_if (moving (dx d))) (one_if (moving (dy d))) ≡ size d) refl refl refl refl refl refl refl refl

-- one step leads no further than its own length
step_octile : (d : Dir) (s : Place) → octile s (go d s) ≼ size d
step_octile d s =
    subst (λ (l : Len). octile s (go d s) ≼ l) (size_octile d) (octile_grows (gap_shift (dx d) s.x) (gap_shift (dy d) s.y))

-- no list of directions is shorter than the octile length of its ends
list_least : (s : Place) (ds : List Dir) → octile s (end s ds) ≼ len ds
list_least s [] = rw (distance_self s.x s.y) (≼_refl (len []))
list_least s (d ∷ ds) =
    let q : Place = go d s in
    let t : Place = end q ds in
    ≼_trans (distance_triangle s.x s.y q.x q.y t.x t.y) (⊕_mono (step_octile d s) (list_least q ds))

-- H. No walk is shorter than the octile length of its ends.
pub octile_least : (B : Board) (s t : Place) (ds : List Dir) → Walk walkers B s t ds → octile s t ≼ len ds
octile_least B s t ds w = subst (λ (p : Place). octile s p ≼ len ds) w.1 (list_least s ds)

-- Where the direct line is legal, it is a shortest walk.
pub line_shortest : (B : Board) (s t : Place) → Legal walkers B s (line s t) → Shortest walkers B s t (octile s t)
line_shortest B s t l = record { some = (line s t, (l, line_end s t), line_len s t); least = octile_least B s t }
