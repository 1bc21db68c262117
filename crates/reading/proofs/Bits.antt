-- The bits of a word: made one by one from the highest, and that they determine it. Assumes nothing.
use Prim.Native.Nat.{ℕ, zero, suc, ◌+◌, ◌*◌, ◌/◌, ◌%◌, ◌^◌, ◌<◌}
use mathlib.Core.Bool.{Bool, true≢false}
use mathlib.Core.Path.{◌≡◌, refl, sym, ap, ◌∙◌}
use native.Mathlib.Numerals.{one-add, add-one}
use native.Mathlib.Omega.{arith}
use lib.Arith.{lt-one}
use lib.Dec.{eqb}
use lib.Pow.{shr_lt, shr-shr}
use borrow.Author.Tests.{ne_eqb}
use Rattle.floor.specs.Words.{bit_clear}

-- bit k + 1 of a number is bit k of its half
next_bit : (n k : ℕ) → bit_clear n (suc k) ≡ bit_clear (n / 2) k
next_bit n k = ap (λ m. eqb (m % 2) 0) (ap (λ j. n / 2 ^ j) (sym (one-add k)) ∙ sym (shr-shr n 1 k))

-- one bit more, below the others
pub bits_more : (f : ℕ → Bool) (word b k n : ℕ) → b < 2 → eqb b 0 ≡ f k → ((i : ℕ) → i < n → bit_clear word i ≡ f (suc k + i)) → (i : ℕ) → i < suc n → bit_clear (2 * word + b) i ≡ f (k + i)
bits_more f word b k n l e h zero i =
    let m : (2 * word + b) / 1 % 2 ≡ b = omega arith in
    ap (λ x. eqb x 0) m ∙ e ∙ ap f (omega arith)
bits_more f word b k n l e h (suc j) i =
    let m : (2 * word + b) / 2 ≡ word = omega arith in
    next_bit (2 * word + b) j ∙ ap (λ x. bit_clear x j) m ∙ h j (omega arith) ∙ ap f (omega arith)

-- the lowest bits
same_low : (a b : ℕ) → a < 2 → b < 2 → eqb a 0 ≡ eqb b 0 → a ≡ b
same_low zero zero l m e = refl
same_low zero (suc b) l m e = absurd (true≢false (e ∙ ne_eqb (suc b) 0 (λ q. omega arith)))
same_low (suc a) zero l m e = absurd (true≢false (sym e ∙ ne_eqb (suc a) 0 (λ q. omega arith)))
same_low (suc a) (suc b) l m e = omega arith

-- words with the same bits are the same
pub same_bits : (d n m : ℕ) → n < 2 ^ d → m < 2 ^ d → ((i : ℕ) → i < d → bit_clear n i ≡ bit_clear m i) → n ≡ m
same_bits zero n m l k h = lt-one l ∙ sym (lt-one k)
same_bits (suc d) n m l k h =
    let halves = same_bits d (n / 2) (m / 2) (shr_lt d 1 (half l)) (shr_lt d 1 (half k)) (λ i j. sym (next_bit n i) ∙ h (suc i) (omega arith) ∙ next_bit m i) in
    let low = same_low (n / 1 % 2) (m / 1 % 2) (omega arith) (omega arith) (h 0 (omega arith)) in
    omega arith
  where
    half : {x : ℕ} → x < 2 ^ suc d → x < 2 ^ (d + 1)
    half p = rw add-one p
