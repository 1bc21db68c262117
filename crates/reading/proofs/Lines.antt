-- Numbers in a text: a number goes on as long as digits do, and what stands at a place is read in one way. Assumes nothing.
use Prim.Native.Nat.{ℕ, ◌+◌, ◌*◌, ◌<◌, ◌≤◌}
use mathlib.Core.List.{List, [], ◌∷◌, ◌++◌, append_assoc}
use mathlib.Core.Logic.{◌⊎◌, inl, inr, ⊎_elim}
use mathlib.Core.Path.{◌≡◌, refl, sym, ap, ◌∙◌}
use native.Mathlib.Omega.{arith}
use lib.ListN.{length, get_or, take, drop, length-append}
use lib.Seq.{take_at}
use Rattle.writing.specs.Numbers.{Decimal, digit, more, Digit, decimal}
use Rattle.reading.specs.Lines.{At, Then, Ended, Pair, FourLine, Has}
use Rattle.writing.proofs.Decimals.{Digits, all_digits, some_digit, one_number, one_decimal, shorter, decimal_is}
use Rattle.reading.proofs.Places.{at_rest, at_none, at_byte, at_inside, first_byte, Once, Both, both_once}

module _ (text : List ℕ) (at : ℕ) where
  -- a digit is a number so far
  pub number_starts : (d : ℕ) → at < length text → get_or text at 0 ≡ 48 + d → d < 10 → At (Decimal d) text at (at + 1)
  number_starts d i e h = at_byte text at at (at_none text at) i (digit h (ap (λ b. b ∷ []) e))

  -- and so is a positive number so far with one digit more
  pub number_more : (next v d : ℕ) → At (Decimal v) text at next → ¬ (v ≡ 0) → next < length text → get_or text next 0 ≡ 48 + d → d < 10 → At (Decimal (10 * v + d)) text at (next + 1)
  number_more next v d a z i e h = at_byte text at next a i (more v d a.line (omega (arith, z)) h a.is (omega arith) (ap (λ b. a.line ++ b ∷ []) e))

  -- with its end after it, it is a number that ends
  pub number_ends : (end next v : ℕ) → At (Decimal v) text at next → v ≤ 999 → Has (λ x. x ≡ end) text next → At (Ended v end) text at (next + 1)
  number_ends end next v a s h =
      let w = one_decimal a.is (decimal_is v) refl in
      let e = h.is in
      at_byte text at next a h.inside (record { written = cc; small = s })

-- digits go on after the first of them, as `post` shows
record Longer (pre bytes post : List ℕ) : Type 0 where
  next : ℕ
  after : List ℕ
  tail : List ℕ
  goes : bytes ≡ pre ++ next ∷ after
  seen : post ≡ next ∷ tail
  is : Digit next

-- Digits and what follows them, beside digits that a byte ends which is no digit: they are the same digits, or the second go on.
runs : (pre bytes post rest : List ℕ) (end : ℕ) → end < 48 → Digits pre → Digits bytes → pre ++ post ≡ bytes ++ end ∷ rest → ((pre ≡ bytes) × (post ≡ end ∷ rest)) ⊎ Longer pre bytes post
runs [] [] post rest end l p q e = inl (refl, e)
runs [] (b ∷ bs) post rest end l p q e = inr (record { next = b; after = bs; tail = bs ++ end ∷ rest; goes = refl; seen = e; is = q.0 })
runs (a ∷ ls) [] post rest end l p q e = let h : a ≡ end = cc in absurd (omega (arith, p.0.0))
runs (a ∷ ls) (b ∷ bs) post rest end l p q e =
    let h : a ≡ b = cc in
    let t : ls ++ post ≡ bs ++ end ∷ rest = cc in
    ⊎_elim (λ s. inl (let s₀ = s.0 in cc, s.1)) (λ s. inr (record { next = s.next; after = s.after; tail = s.tail; goes = let g = s.goes in cc; seen = s.seen; is = s.is })) (runs ls bs post rest end l p.1 q.1 t)

module _ (text : List ℕ) (at end : ℕ) (l : end < 48) where
  -- Digits that stand where a number does are its digits, and its end follows; or the number has more digits.
  beside : {Is : List ℕ → Type 0} (next n other : ℕ) (a : At Is text at next) → Digits a.line → (b : At (Ended n end) text at other)
      → ((a.line ≡ decimal n) × Has (λ x. x ≡ end) text next) ⊎ ((length a.line < length (decimal n)) × (take (length a.line) (decimal n) ≡ a.line) × Has Digit text next)
  beside next n other a d b =
      ⊎_elim
      (λ s. let f = first_byte text next end b.rest (sym (at_rest text at next a) ∙ s.1) in inl (s.0, record { inside = f.0; is = f.1 }))
      (λ s. let f = first_byte text next s.next s.tail (sym (at_rest text at next a) ∙ s.seen) in inr (
        omega (arith, simp length-append at (ap length s.goes)),
        ap (take (length a.line)) s.goes ∙ take_at a.line _ _ refl,
        record { inside = f.0; is = rw f.1 s.is },
      ))
      (runs a.line (decimal n) a.rest b.rest end l d (all_digits (decimal_is n))
      (sym a.split ∙ b.split ∙ ap (λ x. x ++ b.rest) b.is.written ∙ append_assoc (decimal n) (end ∷ []) b.rest))

  -- a number has its first digit
  pub no_digit : ¬ (Has Digit text at) → (n next : ℕ) → ¬ (At (Ended n end) text at next)
  no_digit h n next b =
      ⊎_elim (λ s. omega (arith, some_digit (decimal_is n), ap length s.0)) (λ s. h s.2) (beside at n next (at_none text at) tt b)

  -- a number with a digit more is at least ten times what was read, which is no zero
  pub goes_on : (next v : ℕ) → At (Decimal v) text at next → Has Digit text next → (n other : ℕ) → At (Ended n end) text at other → (0 < v) × (v ≤ 99)
  goes_on next v a h n other b =
      ⊎_elim (λ s. absurd (omega (arith, h.is, s.1.is))) (λ s. let k = shorter {v = v} (length a.line) (decimal_is n) (rw s.1 a.is) s.0 in omega (arith, k, b.is.small)) (beside next n other a (all_digits a.is) b)

  -- where no digit and not the end follows, there is no number
  pub no_end : (next v : ℕ) → At (Decimal v) text at next → ¬ (Has Digit text next) → ¬ (Has (λ x. x ≡ end) text next) → (n other : ℕ) → ¬ (At (Ended n end) text at other)
  no_end next v a h g n other b = ⊎_elim (λ s. g s.1) (λ s. h s.2) (beside next n other a (all_digits a.is) b)

-- at a place stands at most one number with an end that is no digit
pub number_once : (end : ℕ) → end < 48 → Once ℕ (λ n. Ended n end)
number_once end l text at n m next other a b =
    ⊎_elim
    (λ s. let w = s.0 in (one_number (decimal_is n) (decimal_is m) w, cc))
    (λ s. let w : end ≡ s.next = let v = s.seen in cc in absurd (omega (arith, s.is.0)))
    (runs (decimal n) (decimal m) (end ∷ a.rest) b.rest end l (all_digits (decimal_is n)) (all_digits (decimal_is m)) (same n next a ∙ sym (same m other b)))
  where
    same : (k to : ℕ) (c : At (Ended k end) text at to) → decimal k ++ end ∷ c.rest ≡ drop at text
    same k to c = sym (append_assoc (decimal k) (end ∷ []) c.rest) ∙ ap (λ x. x ++ c.rest) (sym c.is.written) ∙ sym c.split

-- two numbers as one thing
abbrev pub Paired : ℕ → ℕ × ℕ → List ℕ → Type 0
Paired end p = Pair p.0 p.1 end

-- at a place stands at most one pair of numbers
pub pair_once : (end : ℕ) → end < 48 → Once (ℕ × ℕ) (Paired end)
pair_once end l = both_once (λ n. Ended n 32) (λ n. Ended n end) (number_once 32 (omega arith)) (number_once end l)

-- at a place stands at most one pair of pairs
pub four_once : Once ((ℕ × ℕ) × (ℕ × ℕ)) (Both (Paired 32) (Paired 10))
four_once = both_once (Paired 32) (Paired 10) (pair_once 32 (omega arith)) (pair_once 10 (omega arith))

-- what begins with a number has a byte
first_long : {n end : ℕ} {Second : List ℕ → Type 0} (line : List ℕ) → Then (Ended n end) Second line → 0 < length line
first_long line t = omega (arith, simp length-append at (ap length t.joined), simp length-append at (ap length t.first.written))

-- a line of two numbers ends after it begins, and within the text
pub pair_inside : (text : List ℕ) (at a b end next : ℕ) → At (Pair a b end) text at next → (at < next) × (next ≤ length text)
pair_inside text at a b end next p = at_inside text at next p (first_long p.line p.is)

-- a line of four numbers ends after it begins, and within the text
pub four_inside : (text : List ℕ) (at x y u v next : ℕ) → At (FourLine x y u v) text at next → (at < next) × (next ≤ length text)
four_inside text at x y u v next p =
    at_inside text at next p (omega (arith, simp length-append at (ap length p.is.joined), first_long p.is.front p.is.first))
