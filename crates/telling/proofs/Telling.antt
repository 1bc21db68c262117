-- What is told of the direct line, and the line written behind its start. Assumes nothing.
use Prim.Native.Nat.{ℕ, suc, ◌+◌, ◌<◌, ◌≤◌}
use mathlib.Core.List.{List, ◌∷◌, ◌++◌}
use mathlib.Core.Path.{◌≡◌, refl, ◌∙◌, ap, subst}
use native.Mathlib.Omega.{arith}
use lib.ListN.{length, drop, set}
use lib.Seq.{take-suc-set, drop-set-lt}
use Rattle.lengths.specs.Lengths.{Len}
use Rattle.floor.specs.Board.{Place}
use Rattle.ground.specs.Kind.{octile}
use Rattle.ground.specs.Line.{line}
use Rattle.corners.specs.Lists.{written}
use Rattle.line.specs.Cells.{after, steps, LineWritten}
use Rattle.line.proofs.Firsts.{steps_octile}
use Rattle.line.proofs.Legs.{line_cells}
use Rattle.chain.specs.Route.{cells_of}
use Rattle.telling.specs.Told.{Told, LineAnswer}
use Rattle.telling.specs.declared.Answer.{Answer}

-- what is said with 0 fits
pub told_fits : {l : Len} {effort room : ℕ} {r : Answer} → Told l effort room r → r.code ≡ 0 → cells_of l ≤ room
told_fits {l} {effort} {room} {r} told e =
    by_contra (cells_of l) room (λ m. let q = told.full m in absurd (omega arith))
  where
    by_contra : (a b : ℕ) → ¬ (b < a) → a ≤ b
    by_contra a b n = omega (arith, n)

-- what is said with another number does not
pub told_full : {l : Len} {effort room : ℕ} {r : Answer} → Told l effort room r → ¬ (r.code ≡ 0) → room < cells_of l
told_full {l} {effort} {room} {r} told n =
    by_contra (cells_of l) room (λ m. n (told.fits m))
  where
    by_contra : (a b : ℕ) → ¬ (a ≤ b) → b < a
    by_contra a b n = omega (arith, n)

-- the start's cell was written first, then the line's
pub line_written : (w n : ℕ) (s t : Place) (entry : List ℕ) {r : ℕ} {exit : List ℕ} → 0 < length entry →
    LineWritten w s t (set entry 0 n) 1 r exit → exit ≡ written (n ∷ after w s (line s t)) entry
line_written w n s t entry {r} {exit} some done =
    let long : 1 + steps s t ≡ suc (length (after w s (line s t))) = omega (arith, line_cells w s t) in
    done.cells
    ∙ ap (λ (l : List ℕ). l ++ (after w s (line s t) ++ drop (1 + steps s t) (set entry 0 n))) (take-suc-set entry 0 n some)
    ∙ ap (λ (l : List ℕ). n ∷ (after w s (line s t) ++ l)) (drop-set-lt (1 + steps s t) entry 0 n (omega arith))
    ∙ ap (λ (k : ℕ). n ∷ (after w s (line s t) ++ drop k entry)) long

module _ (s t : Place) (route : List ℕ) {l : Len} {r : Answer} (long : l ≡ octile s t) (told : Told l 0 (length route) r) where
  -- the same of the octile length
  told_line : Told (octile s t) 0 (length route) r
  told_line = subst (λ (m : Len). Told m 0 (length route) r) long told

  -- the line has room behind its start
  pub line_room : r.code ≡ 0 → 1 + steps s t ≤ length route
  line_room e = let m = told_fits told_line e in let q = steps_octile s t in omega arith

  -- the line was written
  pub line_taken : (w n : ℕ) {k : ℕ} {exit : List ℕ} → r.code ≡ 0 → LineWritten w s t (set route 0 n) 1 k exit → LineAnswer w n s t r route exit
  line_taken w n e done =
      let m = line_room e in
      let f = told_fits told_line e in
      record {
        measured = told_line.measured;
        free = told_line.billed;
        left = record {
          fits = λ b. (e, line_written w n s t route (omega arith) done);
          full = λ b. absurd (omega arith);
        };
      }

  -- the line has no room
  pub line_kept : (w n : ℕ) → ¬ (r.code ≡ 0) → LineAnswer w n s t r route route
  line_kept w n d =
      let f = told_full told_line d in
      record {
        measured = told_line.measured;
        free = told_line.billed;
        left = record {
          fits = λ b. absurd (omega arith);
          full = λ b. (told_line.full b, refl);
        };
      }
