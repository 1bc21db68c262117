-- A chain of legs, each walked by its own direct line, is one walk. Assumes nothing.
use Prim.Native.Nat.{ℕ, suc, ◌+◌, ◌-◌, ◌≤◌}
use mathlib.Core.List.{List, [], ◌∷◌, ◌++◌, append_assoc}
use mathlib.Core.Path.{◌≡◌, refl, sym, ◌∙◌, ap, ap₂}
use native.Mathlib.Omega.{arith}
use lib.ListN.{length, take, drop, length-append}
use lib.Seq.{length-take-le, take_at, drop_at, drop-drop}
use Rattle.floor.specs.Board.{Place, Dir, go}
use Rattle.floor.specs.Words.{place_of, cell_of}
use Rattle.ground.specs.Walk.{end}
use Rattle.ground.specs.Line.{line}
use Rattle.line.specs.Cells.{after, legs, steps, LineWritten}

-- ---- the cells of a walk
module _ (w : ℕ) where
  -- a walk comes to as many cells as it has steps
  pub after_length : (p : Place) (ds : List Dir) → length (after w p ds) ≡ length ds
  after_length p [] = refl
  after_length p (d ∷ ds) = ap suc (after_length (go d p) ds)

  -- the cells of two walks in a row
  pub after_append : (p : Place) (u v : List Dir) → after w p (u ++ v) ≡ after w p u ++ after w (end p u) v
  after_append p [] v = refl
  after_append p (d ∷ u) v = ap (λ (cs : List ℕ). cell_of w (go d p) ∷ cs) (after_append (go d p) u v)

  -- a direct line comes to as many cells as it has steps
  pub line_cells : (s t : Place) → length (after w s (line s t)) ≡ steps s t
  unfolding steps
  line_cells s t = after_length s (line s t)

  -- one leg more written, the others still to be: the list will be the same
  pub legs_next : (a b : ℕ) (rest l l' : List ℕ) (j r e : ℕ) → LineWritten w (place_of w a) (place_of w b) l j r l' → r ≤ length l → r ≤ e →
      take r l' ++ (legs w (b ∷ rest) ++ drop e l') ≡ take j l ++ (legs w (a ∷ b ∷ rest) ++ drop e l)
  legs_next a b rest l l' j r e written fits before =
      ap₂ (λ (u v : List ℕ). u ++ (legs w (b ∷ rest) ++ v)) front back
      ∙ append_assoc (take j l) cells (legs w (b ∷ rest) ++ drop e l)
      ∙ ap (λ (u : List ℕ). take j l ++ u) (sym (append_assoc cells (legs w (b ∷ rest)) (drop e l)))
    where
      cells : List ℕ
      cells = after w (place_of w a) (line (place_of w a) (place_of w b))

      k : ℕ
      k = steps (place_of w a) (place_of w b)

      next : r ≡ j + k
      next = written.next

      whole : l' ≡ (take j l ++ cells) ++ drop r l
      whole = written.cells ∙ sym (append_assoc (take j l) cells (drop (j + k) l)) ∙ ap (λ (n : ℕ). (take j l ++ cells) ++ drop n l) (sym next)

      long : length (take j l ++ cells) ≡ r
      long =
          let many : length cells ≡ k = line_cells (place_of w a) (place_of w b) in
          let some : length (take j l) ≡ j = length-take-le j l (omega arith) in
          length-append (take j l) cells ∙ omega arith

      front : take r l' ≡ take j l ++ cells
      front = ap (take r) whole ∙ take_at (take j l ++ cells) (drop r l) r long

      back : drop e l' ≡ drop e l
      back =
          let s : r + (e - r) ≡ e = omega arith in
          ap (λ (n : ℕ). drop n l') (sym s) ∙ sym (drop-drop (e - r) r l')
          ∙ ap (drop (e - r)) (ap (drop r) whole ∙ drop_at (take j l ++ cells) (drop r l) r long)
          ∙ drop-drop (e - r) r l ∙ ap (λ (n : ℕ). drop n l) s
