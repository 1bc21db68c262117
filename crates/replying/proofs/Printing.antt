-- An answer's line: what its parts make, and how long it can be. Assumes nothing.
use Prim.Native.Nat.{ℕ, zero, suc, ◌^◌, ◌<◌, ◌≤◌}
use mathlib.Core.List.{List, [], ◌∷◌, ◌++◌, append-nil}
use mathlib.Core.Path.{◌≡◌, refl, sym, ap, ap₂, ◌∙◌}
use native.Mathlib.Omega.{arith}
use lib.ListN.{length, get_or, take}
use lib.Seq.{get_or-take, length-take-le}
use Rattle.telling.specs.declared.Answer.{Answer}
use Rattle.writing.specs.Answers.{answer_numbers, route_cells}
use Rattle.writing.proofs.Puts.{digits_64, answer_length, route_length}
use Rattle.replying.specs.Replies.{figure_in, numbers_of, route_part, reply_line, Printable}

-- the numbers of an answer fit 32 bits
pub record Small (a : Answer) : Type 0 where
  pub code : a.code < 2 ^ 32
  pub straight : a.straight < 2 ^ 32
  pub diagonal : a.diagonal < 2 ^ 32
  pub cells : a.cells < 2 ^ 32
  pub effort : a.effort < 2 ^ 32

-- the entries of a route are numbers of 16 bits
abbrev pub Cells : List ℕ → Type 0
Cells route = (i : ℕ) → get_or route i 0 < 65536

-- the line of the same numbers
pub same_answer : (figure : ℕ) {a b c d e f g h i j : ℕ} → a ≡ b → c ≡ d → e ≡ f → g ≡ h → i ≡ j → answer_numbers a c e g i figure ≡ answer_numbers b d f h j figure
same_answer figure p q r s t = λ z. answer_numbers (p z) (q z) (r z) (s z) (t z) figure

-- the part of code 0
part_zero : (code : ℕ) (cells : List ℕ) → code ≡ 0 → route_cells cells ≡ route_part code cells
unfolding route_part
part_zero zero cells e = refl
part_zero (suc code) cells e = absurd (omega arith)

-- and of any other
part_other : (code : ℕ) (cells : List ℕ) → ¬ (code ≡ 0) → [] ≡ route_part code cells
unfolding route_part
part_other zero cells n = absurd (n refl)
part_other (suc code) cells n = refl

module _ (a : Answer) (route : List ℕ) (f : ℕ) (e : f ≡ figure_in a) where
  -- the six numbers, with the figure that was computed
  abbrev pub numbers_with : List ℕ
  numbers_with = answer_numbers a.code a.straight a.diagonal a.cells a.effort f

  -- they are the numbers of the answer
  same_numbers : numbers_with ≡ numbers_of a
  same_numbers = ap (answer_numbers a.code a.straight a.diagonal a.cells a.effort) e

  -- the line of code 0
  pub line_zero : a.code ≡ 0 → numbers_with ++ route_cells (take a.cells route) ++ 10 ∷ [] ≡ reply_line a route
  line_zero z = ap₂ (λ x y. x ++ y ++ 10 ∷ []) same_numbers (part_zero a.code (take a.cells route) z)

  -- and of any other
  pub line_other : ¬ (a.code ≡ 0) → numbers_with ++ 10 ∷ [] ≡ reply_line a route
  line_other n =
      ap (λ x. x ++ 10 ∷ []) (sym (append-nil numbers_with))
      ∙ ap₂ (λ x y. x ++ y ++ 10 ∷ []) same_numbers (part_other a.code (take a.cells route) n)

  -- the numbers take at most 125 bytes
  pub numbers_short : Small a → length numbers_with ≤ 125
  numbers_short s =
      rw (answer_length a.code a.straight a.diagonal a.cells a.effort f)
      (omega (
        arith,
        digits_64 a.code (omega (arith, s.code)),
        digits_64 a.straight (omega (arith, s.straight)),
        digits_64 a.diagonal (omega (arith, s.diagonal)),
        digits_64 a.cells (omega (arith, s.cells)),
        digits_64 a.effort (omega (arith, s.effort)),
        digits_64 f (omega (arith, e, s.straight, s.diagonal)),
      ))

-- the cells of a route that the list holds take at most 98,306 bytes
pub cells_short : (a : Answer) (route : List ℕ) → Printable a route → Cells route → a.code ≡ 0 → length (route_cells (take a.cells route)) ≤ 98306
cells_short a route p c z =
    let l = length-take-le a.cells route (p.written z) in
    omega (
      arith,
      p.written z,
      p.few,
      l,
      route_length (take a.cells route) (λ i h. rw (get_or-take a.cells route i 0 (omega (arith, l))) (c i)),
    )
