-- Where a walk passes a turning point it may be cut in two, and one that passes 𝟎 has 𝟎 wherever it is cut.
-- Assumes nothing.
use mathlib.Core.Path.{◌≡◌, refl, ap}
use mathlib.Core.Bool.{true, false}
use mathlib.Core.List.{List, [], ◌∷◌, ◌++◌}
use mathlib.Core.Logic.{⊎_elim}
use Prim.Native.Nat.{◌<◌}
use native.Mathlib.Omega.{arith}
use lib.ListN.{length}
use Rattle.floor.specs.Board.{Board, Place, Dir, go, corner}
use Rattle.ground.specs.Walk.{end, passes}
use Rattle.ground.proofs.Logic.{not_both, or_cases, or_false_left, or_false_right}

-- where a walk that passes a turning point may be cut
pub record Met (B : Board) (s : Place) (ds : List Dir) : Type 0 where
  pub first : Dir
  pub before : List Dir
  pub next : Dir
  pub after : List Dir
  pub whole : ds ≡ (first ∷ before) ++ (next ∷ after)
  pub turns : corner B (end s (first ∷ before)) ≡ true

-- a walk that passes a turning point may be cut there
pub met : (B : Board) (ds : List Dir) (s : Place) → passes B s ds ≡ true → Met B s ds
met B [] s h = not_both h refl
met B (a ∷ []) s h = not_both h refl
met B (a ∷ b ∷ ds) s h =
    ⊎_elim (λ c. record { first = a; before = []; next = b; after = ds; whole = refl; turns = c })
    (λ r. let m = met B (b ∷ ds) (go a s) r in
    record {
      first = a;
      before = m.first ∷ m.before;
      next = m.next;
      after = m.after;
      whole = ap (λ (x : List Dir). a ∷ x) m.whole;
      turns = m.turns;
    })
    (or_cases (corner B (go a s)) (passes B (go a s) (b ∷ ds)) h)

-- A walk that passes no turning point has 𝟎 where it is cut.
pub passes_none_at : (B : Board) (s : Place) (μ ν : List Dir) → 0 < length μ → 0 < length ν → passes B s (μ ++ ν) ≡ false → corner B (end s μ) ≡ false
passes_none_at B s [] ν p q h = absurd (omega arith)
passes_none_at B s (a ∷ μ) [] p q h = absurd (omega arith)
passes_none_at B s (a ∷ []) (b ∷ ν) p q h = or_false_left (corner B (go a s)) (passes B (go a s) (b ∷ ν)) h
passes_none_at B s (a ∷ c ∷ μ) (b ∷ ν) p q h =
    passes_none_at B (go a s) (c ∷ μ) (b ∷ ν) (omega arith) (omega arith) (or_false_right (corner B (go a s)) (passes B (go a s) (c ∷ μ ++ (b ∷ ν))) h)
