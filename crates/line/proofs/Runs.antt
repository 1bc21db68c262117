-- A direct line judged, and written, step by step. Assumes nothing.
use Prim.Native.Nat.{ℕ, zero, suc, ◌+◌, ◌-◌, ◌*◌, ◌/◌, ◌%◌, ◌<◌, ◌≤◌}
use mathlib.Core.Bool.{Bool, true, false}
use mathlib.Core.List.{List, ◌∷◌, ◌++◌, append_assoc, append-nil}
use mathlib.Core.Logic.{⊎_elim}
use mathlib.Core.Path.{◌≡◌, sym, ◌∙◌, ap, subst}
use native.Mathlib.Nat.{mul-le-mul_right, suc-mul, zero-mul, mul_comm, mod-lt, div-lt_iff_lt-mul}
use native.Mathlib.Omega.{arith}
use lib.ListN.{length, take, drop, set, length-drop, take-append-drop, drop_of_length-le}
use lib.Seq.{take-suc-set, drop-set-lt, length-take-le}
use borrow.Rule.Slice.PartMut.{put_mid}
use Rattle.std.proofs.lemmas.Slice.{put_mid-paste}
use Rattle.std.proofs.lemmas.List.Edits.{paste_all}
use Rattle.floor.specs.Board.{Board, Place, at, Free, Dir, dir_at, go, step}
use Rattle.floor.specs.Words.{cell_of}
use Rattle.ground.specs.Kind.{walkers}
use Rattle.ground.specs.Walk.{Legal}
use Rattle.ground.specs.Line.{diagonal_way, line}
use Rattle.ground.proofs.Logic.{not_both, and_left}
use Rattle.ground.proofs.Walks.{place_eq}
use Rattle.line.specs.Cells.{after, steps, Nearer, Cell, LineWritten}
use Rattle.line.proofs.Firsts.{nearer, first_there, line_first, line_none, steps_first}

-- ---- the cells of a floor
-- one step nearer stays below what both numbers are below
pub nearer_below : {x u a : ℕ} (w : ℕ) → Nearer x u a → x < w → u < w → a < w
nearer_below w p l m = ⊎_elim (λ k. omega arith) (λ k. omega arith) p.between

-- one step nearer to a cell is a cell
pub nearer_cell : {w x y u v a b : ℕ} → Nearer x u a → Nearer y v b → Cell w x y → Cell w u v → Cell w a b
nearer_cell {w} p q l m =
    record {
      column = nearer_below w p l.column m.column;
      rows = ⊎_elim (λ k. omega (arith, mul-le-mul_right w k, l.rows)) (λ k. omega (arith, mul-le-mul_right w k, m.rows)) q.between;
    }

-- a column and a row of a floor are a cell
pub cell_in : (w h x y : ℕ) → w * h ≤ 16384 → x < w → y < h → Cell w x y
cell_in w h x y few l m = record { column = l; rows = omega (arith, mul-le-mul_right w m, suc-mul y w, mul_comm h w) }

-- and so are those of a number
pub cell_of_lem : (w h c : ℕ) → w * h ≤ 16384 → c < w * h → Cell w (c % w) (c / w)
cell_of_lem w h c few l = cell_in w h (c % w) (c / w) few (mod-lt c (some w l)) ((div-lt_iff_lt-mul (some w l)).1 (rw (mul_comm h w) l))
  where
    some : (w : ℕ) → c < w * h → 0 < w
    some zero l = absurd (omega (arith, zero-mul h))
    some (suc w) l = omega arith

-- ---- judged
-- a legal step leads to a free place
step_free : (B : Board) (d : Dir) (p : Place) → step B d p ≡ true → Free B (go d p)
unfolding step
step_free B d p e = and_left _ _ e

-- The steps from s to p are the first of the direct line to t, and legal; so the line is legal exactly where the rest of it is.
pub record Rest (B : Board) (s t p : Place) : Type 0 where
  pub free : Free B p
  pub whole : Legal walkers B p (line p t) → Legal walkers B s (line s t)
  pub part : Legal walkers B s (line s t) → Legal walkers B p (line p t)

module _ (B : Board) (s t : Place) where
  -- where no step is left the line is legal
  pub rest_none : (p : Place) → Rest B s t p → steps p t ≡ 0 → Legal walkers B s (line s t)
  rest_none p r e = r.whole (rw (line_none p t e) r.free)

  module _ (p : Place) (r : Rest B s t p) (some : 0 < steps p t) where
    -- the rest, by its first step
    opened : Legal walkers B p (line p t) → (step B (diagonal_way p t) p ≡ true) × Legal walkers B (nearer p t) (line (nearer p t) t)
    opened l =
        let l' : Legal walkers B p (diagonal_way p t ∷ line (nearer p t) t) = subst (Legal walkers B p) (line_first p t some) l in
        (l'.1, subst (λ (q : Place). Legal walkers B q (line (nearer p t) t)) (first_there p t some) l'.2)

    -- where the next step is not legal, the line is not
    pub rest_stops : step B (diagonal_way p t) p ≡ false → ¬ (Legal walkers B s (line s t))
    rest_stops e l = not_both (opened (r.part l)).0 e

    -- where it is, the rest begins one step nearer
    pub rest_next : step B (diagonal_way p t) p ≡ true → Rest B s t (nearer p t)
    rest_next e =
        record {
          free = subst (Free B) (first_there p t some) (step_free B (diagonal_way p t) p e);
          whole =
              λ l.
              r.whole
              (subst (Legal walkers B p) (sym (line_first p t some))
              (r.free, e, subst (λ (q : Place). Legal walkers B q (line (nearer p t) t)) (sym (first_there p t some)) l));
          part = λ l. (opened (r.part l)).1;
        }

-- ---- written
-- a list as it will be: its first j entries, the cells of the direct line after p, and its entries from e on
abbrev pub filled : ℕ → Place → Place → List ℕ → ℕ → ℕ → List ℕ
filled w t p l j e = take j l ++ (after w p (line p t) ++ drop e l)

module _ (w : ℕ) (t p : Place) (l : List ℕ) where
  -- where no step is left it is as it is
  pub filled_none : (j : ℕ) → steps p t ≡ 0 → filled w t p l j j ≡ l
  filled_none j e = rw (line_none p t e) (take-append-drop j l)

  -- the next cell written, it will be the same
  pub filled_next : (j e : ℕ) → 0 < steps p t → j < e → j < length l →
      filled w t (nearer p t) (set l j (cell_of w (nearer p t))) (suc j) e ≡ filled w t p l j e
  filled_next j e some a b =
      rw (take-suc-set l j (cell_of w (nearer p t)) b, drop-set-lt e l j (cell_of w (nearer p t)) a, append_assoc)
      (ap (λ (cs : List ℕ). take j l ++ (cs ++ drop e l)) (sym cells))
    where
      cells : after w p (line p t) ≡ cell_of w (nearer p t) ∷ after w (nearer p t) (line (nearer p t) t)
      cells = ap (after w p) (line_first p t some) ∙ ap (λ (q : Place). cell_of w q ∷ after w q (line (nearer p t) t)) (first_there p t some)

-- the part of a list that is written has n entries
pub part_long : (l : List ℕ) (first n : ℕ) → first + n ≤ length l → length (take (first + n - first) (drop first l)) ≡ n
part_long l first n room =
    let count : first + n - first ≡ n = omega arith in
    rw count (length-take-le n (drop first l) (rw length-drop (omega arith)))

-- The entries that the code writes, seen as a part of the list: once no step is left, they are the cells of the line from s.
pub line_put : (w : ℕ) (s t p : Place) (l items : List ℕ) (first n i : ℕ) → n ≡ steps s t → first + n ≤ length l →
    length items ≡ length (take (first + n - first) (drop first l)) → i + steps p t ≡ n → length (take (first + n - first) (drop first l)) ≤ i →
    filled w t p items i n ≡ filled w t s (take (first + n - first) (drop first l)) 0 n →
    LineWritten w s t l first (first + n) (put_mid first (first + n - first) l items)
line_put w s t p l items first n i e room same left ended f =
    record {
      next = ap (λ (m : ℕ). first + m) e;
      cells =
          put_mid-paste first (first + n - first) l items cells n all (sym count) many
          ∙ paste_all l first cells n many
          ∙ ap (λ (m : ℕ). take first l ++ (cells ++ drop (first + m) l)) e;
    }
  where
    cells : List ℕ
    cells = after w s (line s t)

    count : first + n - first ≡ n
    count = omega arith

    long : length (take (first + n - first) (drop first l)) ≡ n
    long = part_long l first n room

    all : items ≡ cells
    all =
        sym (filled_none w t p items n (let a = long in omega arith))
        ∙ ap (λ (j : ℕ). filled w t p items j n) (let a = long in let d : n ≡ i = omega arith in d) ∙ f
        ∙ ap (λ (xs : List ℕ). cells ++ xs) (drop_of_length-le (take (first + n - first) (drop first l)) {i = n} (let a = long in omega arith))
        ∙ append-nil cells

    many : n ≡ length cells
    many = sym (ap length (sym all) ∙ same ∙ long)

-- ---- as the code steps, from cell (x, y) to cell (a, b)
module _ {x y u v a b : ℕ} (p : Nearer x u a) (q : Nearer y v b) (some : 0 < steps (at x y) (at u v)) where
  -- it comes to the next place of the line
  code_there : nearer (at x y) (at u v) ≡ at a b
  code_there = sym (place_eq p.there q.there)

  -- one step less is left
  pub code_steps : steps (at x y) (at u v) ≡ suc (steps (at a b) (at u v))
  code_steps = steps_first (at x y) (at u v) some ∙ ap (λ (r : Place). suc (steps r (at u v))) code_there

  -- a legal step is judged
  pub code_rest : (B : Board) (s : Place) → Rest B s (at u v) (at x y) → step B (diagonal_way (at x y) (at u v)) (at x y) ≡ true →
      Rest B s (at u v) (at a b)
  code_rest B s r e = subst (Rest B s (at u v)) code_there (rest_next B s (at u v) (at x y) r some e)

  -- a cell is written
  pub code_filled : (w : ℕ) (l : List ℕ) (j e : ℕ) → j < e → j < length l →
      filled w (at u v) (at a b) (set l j (b * w + a)) (suc j) e ≡ filled w (at u v) (at x y) l j e
  code_filled w l j e m k =
      ap (λ (r : Place). filled w (at u v) r (set l j (cell_of w r)) (suc j) e) (sym code_there)
      ∙ filled_next w (at u v) (at x y) l j e some m k

-- what the code found of a step in the direction that it took
pub code_judged : (B : Board) (s t : Place) (dir : ℕ) (r c : Bool) → dir_at dir ≡ diagonal_way s t → r ≡ step B (dir_at dir) s → r ≡ c →
    step B (diagonal_way s t) s ≡ c
code_judged B s t dir r c p q e = ap (λ (d : Dir). step B d s) (sym p) ∙ sym q ∙ e
