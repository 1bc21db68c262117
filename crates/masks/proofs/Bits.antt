-- The bits of a word: of words joined bit by bit, of a word with each bit the other way, and of one moved up or down by one; and words that are masks.
-- Assumes nothing.
use Prim.Native.Nat.{ℕ, zero, suc, ◌+◌, ◌-◌, ◌*◌, ◌/◌, ◌%◌, ◌^◌, ◌<◌}
use mathlib.Core.Bool.{Bool, false, not, ◌&&◌, ◌||◌, or-false}
use mathlib.Core.Path.{◌≡◌, refl, sym, ap, ap₂, ◌∙◌}
use native.Mathlib.Nat.{div-one, div-div-eq-div-mul, pow-suc, mul_comm, zero-mul, add-zero, mod-lt, zero-lt-suc}
use native.Mathlib.Numerals.{add-one, one-add}
use native.Mathlib.Decide.{ℕ_discrete}
use native.Mathlib.Omega.{arith}
use lib.Arith.{lt-one}
use lib.Bits.{bit_and, bit_or, and_shr, or_shr, and_mod, or_mod, block_half, block_odd}
use lib.Count.{ones, ones_step, ones-ones}
use lib.Dec.{eqb}
use lib.Pow.{pow_pos, shr_lt, shr-shr, high, split}
use Rattle.masks.specs.Masks.{bit_set, Mask, Next, Last}
use Rattle.floor.specs.Words.{sum_below, one, bit_clear}
use Rattle.floor.proofs.Sums.{sum_same, sum_first}

-- what holds of 0 and 1 holds of a number's lowest digit
digit : (P : ℕ → Type 0) → P 0 → P 1 → (n : ℕ) → n < 2 → P n
digit P p q zero l = p
digit P p q (suc zero) l = q
digit P p q (suc (suc n)) l = absurd (omega arith)

-- the same of two numbers' lowest digits
digits : (P : ℕ → ℕ → Type 0) → P 0 0 → P 0 1 → P 1 0 → P 1 1 → (m n : ℕ) → P (m % 2) (n % 2)
digits P p q r s m n =
    digit (λ a. P a (n % 2)) (digit (P 0) p q (n % 2) (mod-lt n (zero-lt-suc 1))) (digit (P 1) r s (n % 2) (mod-lt n (zero-lt-suc 1))) (m % 2)
    (mod-lt m (zero-lt-suc 1))

-- bit k + 1 of a number is bit k of its half
pub half_bit : (a k : ℕ) → bit_set a (suc k) ≡ bit_set (a / 2) k
half_bit a k = rw (div-div-eq-div-mul, pow-suc, mul_comm (2 ^ k) 2)

-- a bit of `&` is 1 where both are
pub and_bit : (a b k : ℕ) → bit_set (bit_and a b) k ≡ (bit_set a k && bit_set b k)
and_bit a b k =
    ap (λ n. eqb (n % 2) 1) (and_shr a b k)
    ∙ ap (λ n. eqb n 1) (and_mod (a / 2 ^ k) (b / 2 ^ k) 1)
    ∙ digits (λ m n. eqb (bit_and m n) 1 ≡ (eqb m 1 && eqb n 1)) refl refl refl refl (a / 2 ^ k) (b / 2 ^ k)

-- a bit of `|` is 1 where one of the two is
pub or_bit : (a b k : ℕ) → bit_set (bit_or a b) k ≡ (bit_set a k || bit_set b k)
or_bit a b k =
    ap (λ n. eqb (n % 2) 1) (or_shr a b k)
    ∙ ap (λ n. eqb n 1) (or_mod (a / 2 ^ k) (b / 2 ^ k) 1)
    ∙ digits (λ m n. eqb (bit_or m n) 1 ≡ (eqb m 1 || eqb n 1)) refl refl refl refl (a / 2 ^ k) (b / 2 ^ k)

-- a bit that is not 1 is 0
pub unset_clear : (a k : ℕ) → not (bit_set a k) ≡ bit_clear a k
unset_clear a k = digit (λ n. not (eqb n 1) ≡ eqb n 0) refl refl (a / 2 ^ k % 2) (mod-lt _ (zero-lt-suc 1))

-- no bit of 0 is 1
pub zero_bit : (k : ℕ) → bit_set 0 k ≡ false
zero_bit zero = refl
zero_bit (suc k) = half_bit 0 k ∙ zero_bit k

-- the bits of a number of d digits, taken from d digits 1, are the others
pub flip_bit : (d a k : ℕ) → a < 2 ^ d → k < d → bit_set (2 ^ d - 1 - a) k ≡ not (bit_set a k)
flip_bit zero a k h l = absurd (omega arith)
flip_bit (suc d) a zero h l =
    let p = pow-suc 2 d in
    let e : (2 ^ suc d - 1 - a) % 2 ≡ 1 - a % 2 = omega arith in
    rw (div-one (2 ^ suc d - 1 - a), div-one a, e) (digit (λ n. eqb (1 - n) 1 ≡ not (eqb n 1)) refl refl (a % 2) (mod-lt a (zero-lt-suc 1)))
flip_bit (suc d) a (suc k) h l =
    let p = pow-suc 2 d in
    let e : (2 ^ suc d - 1 - a) / 2 ≡ 2 ^ d - 1 - a / 2 = omega arith in
    half_bit _ k ∙ ap (λ n. bit_set n k) e ∙ flip_bit d (a / 2) k (omega arith) (omega arith) ∙ ap not (sym (half_bit a k))

-- the k low bits of a number are those of what stands there
pub low_bit : (k hi lo i : ℕ) → i < k → bit_set (hi * 2 ^ k + lo) i ≡ bit_set lo i
low_bit zero hi lo i l = absurd (omega arith)
low_bit (suc k) hi lo zero l = rw (div-one (hi * 2 ^ suc k + lo), div-one lo) (ap (λ n. eqb n 1) (block_odd hi k lo))
low_bit (suc k) hi lo (suc i) l =
    half_bit _ i ∙ ap (λ n. bit_set n i) (block_half hi k lo) ∙ low_bit k hi (lo / 2) i (omega arith) ∙ sym (half_bit lo i)

-- the bits from bit k on are those of what stands above
pub high_bit : (k hi lo i : ℕ) → lo < 2 ^ k → bit_set (hi * 2 ^ k + lo) (k + i) ≡ bit_set hi i
high_bit k hi lo i h = ap (λ n. eqb (n % 2) 1) (sym (shr-shr (hi * 2 ^ k + lo) k i) ∙ ap (λ n. n / 2 ^ i) (high hi k h))

-- from bit k on no bit of a number of k digits is 1
above_bit : (k n i : ℕ) → n < 2 ^ k → bit_set n (k + i) ≡ false
above_bit k n i h =
    let e : 0 * 2 ^ k + n ≡ n = omega (arith, zero-mul (2 ^ k)) in
    ap (λ m. bit_set m (k + i)) (sym e) ∙ high_bit k 0 n i h ∙ zero_bit i

-- nor is one of the k low bits of a number moved up by k
under_bit : (k n i : ℕ) → i < k → bit_set (n * 2 ^ k) i ≡ false
under_bit k n i l = ap (λ m. bit_set m i) (sym (add-zero (n * 2 ^ k))) ∙ low_bit k n 0 i l ∙ zero_bit i

-- the others are its own
over_bit : (k n i : ℕ) → bit_set (n * 2 ^ k) (k + i) ≡ bit_set n i
over_bit k n i = ap (λ m. bit_set m (k + i)) (sym (add-zero (n * 2 ^ k))) ∙ high_bit k n 0 i (pow_pos k)

-- the bits that a word keeps are those of the number
kept_bit : (k n i : ℕ) → i < k → bit_set (n % 2 ^ k) i ≡ bit_set n i
kept_bit k n i l = sym (low_bit k (n / 2 ^ k) (n % 2 ^ k) i l) ∙ ap (λ m. bit_set m i) (split n k)

-- the word of 64 places, and of the next one after each
pub next_mask : (a b : ℕ) → a < 2 ^ 64 → Next a b (bit_or (a / 2) (b * 2 ^ 63 % 2 ^ 64))
next_mask a b h f ma mb i l = or_bit (a / 2) (b * 2 ^ 63 % 2 ^ 64) i ∙ by (ℕ_discrete i 63)
  where
    by : Dec (i ≡ 63) → (bit_set (a / 2) i || bit_set (b * 2 ^ 63 % 2 ^ 64) i) ≡ f (suc i)
    by (yes e) =
        ap₂ ◌||◌
        (ap (bit_set (a / 2)) e ∙ above_bit 63 (a / 2) 0 (shr_lt 63 1 h))
        (ap (bit_set (b * 2 ^ 63 % 2 ^ 64)) e ∙ kept_bit 64 (b * 2 ^ 63) 63 (omega arith) ∙ over_bit 63 b 0 ∙ mb 0 (omega arith))
        ∙ ap f (omega arith)
    by (no n) =
        ap₂ ◌||◌
        (sym (half_bit a i) ∙ ma (suc i) (omega arith))
        (kept_bit 64 (b * 2 ^ 63) i l ∙ under_bit 63 b i (omega arith))
        ∙ or-false (f (suc i))

-- the word of 64 places, and of the one before each
pub last_mask : (a b : ℕ) → b < 2 ^ 64 → Last a b (bit_or (a * 2 ^ 1 % 2 ^ 64) (b / 2 ^ 63))
last_mask a b h f ma mb zero l =
    or_bit (a * 2 ^ 1 % 2 ^ 64) (b / 2 ^ 63) 0
    ∙ ap₂ ◌||◌ (kept_bit 64 (a * 2 ^ 1) 0 l ∙ under_bit 1 a 0 (omega arith)) (rw div-one (mb 63 (omega arith)))
last_mask a b h f ma mb (suc i) l =
    or_bit (a * 2 ^ 1 % 2 ^ 64) (b / 2 ^ 63) (suc i)
    ∙ ap₂ ◌||◌
    (kept_bit 64 (a * 2 ^ 1) (suc i) l ∙ ap (bit_set (a * 2 ^ 1)) (sym (one-add i)) ∙ over_bit 1 a i ∙ ma i (omega arith))
    (ap (bit_set (b / 2 ^ 63)) (sym (one-add i)) ∙ above_bit 1 (b / 2 ^ 63) i (shr_lt 1 63 h))
    ∙ or-false (f (64 + i))
    ∙ ap f (omega arith)

-- 0 is the mask of what no place has
pub none_mask : (f : ℕ → Bool) → ((i : ℕ) → i < 64 → false ≡ f i) → Mask f 0
none_mask f e i l = zero_bit i ∙ e i l

-- the ones of a number of d digits, each digit being looked at
pub ones_are : (d n : ℕ) → n < 2 ^ d → ones n ≡ sum_below d (λ k. one (bit_set n k))
unfolding sum_below
ones_are zero n h = ap ones (lt-one h) ∙ ones-ones 0
ones_are (suc d) n h =
    let low : one (bit_set n 0) ≡ n % 2 = rw div-one (digit (λ m. one (eqb m 1) ≡ m) refl refl (n % 2) (mod-lt n (zero-lt-suc 1))) in
    let high = sum_same d (λ k. one (bit_set n (suc k))) (λ k. one (bit_set (n / 2) k)) (λ k l. ap one (half_bit n k)) in
    let half : n / 2 < 2 ^ d = shr_lt d 1 (rw add-one h) in
    omega (arith, ones_step n, sum_first d (λ k. one (bit_set n k)), high, low, ones_are d (n / 2) half)
