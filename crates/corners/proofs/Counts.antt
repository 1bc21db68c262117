-- The ones of a mask: as many as the turning points of its chunk, and which is the next one. Assumes nothing.
use Prim.Native.Nat.{ℕ, zero, suc, ◌+◌, ◌-◌, ◌/◌, ◌%◌, ◌^◌, ◌<◌}
use mathlib.Core.Bool.{Bool, true, false}
use mathlib.Core.Logic.{◌⊎◌, inl, inr}
use mathlib.Core.Path.{◌≡◌, refl, sym, ap, subst, ◌∙◌}
use native.Mathlib.Nat.{div-one, div-div-eq-div-mul, mod-lt, zero-lt-suc, add-zero}
use native.Mathlib.Omega.{arith}
use lib.ListN.{length}
use lib.Count.{ones, under, count_trailing_zeros}
use lib.Pow.{pow-add}
use borrow.Author.Tests.{lt-ltb, le-ltb}
use Rattle.floor.specs.Words.{sum_below, one}
use Rattle.masks.specs.Masks.{bit_set, Mask}
use Rattle.masks.proofs.Bits.{half_bit, ones_are}
use Rattle.floor.proofs.Sums.{sum_same, sum_none, sum_add}
use Rattle.ground.proofs.Logic.{true_or_false}
use Rattle.corners.specs.Lists.{select}
use Rattle.corners.specs.Chunks.{Span, in_row, NextBit}
use Rattle.corners.proofs.Selects.{length_taken, length_passed}

-- the bits below the lowest that is 1 are 0
clear_below : (k n j : ℕ) → j < count_trailing_zeros k n → bit_set n j ≡ false
unfolding count_trailing_zeros
clear_below zero n j l = absurd (omega arith)
clear_below (suc k) n j l = by (n % 2) refl j l (λ i m. clear_below k (n / 2) i m)
  where
    by : (d : ℕ) → n % 2 ≡ d → (j : ℕ) → j < under d (count_trailing_zeros k (n / 2)) → ((i : ℕ) → i < count_trailing_zeros k (n / 2) → bit_set (n / 2) i ≡ false) → bit_set n j ≡ false
    by zero e zero l r = rw (div-one, e)
    by zero e (suc j) l r = half_bit n j ∙ r j (omega arith)
    by (suc d) e j l r = absurd (omega arith)

-- and that one is 1
set_there : (k n : ℕ) → count_trailing_zeros k n < k → bit_set n (count_trailing_zeros k n) ≡ true
unfolding count_trailing_zeros
set_there zero n l = absurd (omega arith)
set_there (suc k) n l = by (n % 2) refl (mod-lt n (zero-lt-suc 1)) l (λ m. set_there k (n / 2) m)
  where
    by : (d : ℕ) → n % 2 ≡ d → d < 2 → under d (count_trailing_zeros k (n / 2)) < suc k → (count_trailing_zeros k (n / 2) < k → bit_set (n / 2) (count_trailing_zeros k (n / 2)) ≡ true) →
        bit_set n (under d (count_trailing_zeros k (n / 2))) ≡ true
    by zero e b l r = half_bit n (count_trailing_zeros k (n / 2)) ∙ r (omega arith)
    by (suc zero) e b l r = rw (div-one, e)
    by (suc (suc d)) e b l r = absurd (omega arith)

-- a bit of a number moved down by i
bit_moved : (n i k : ℕ) → bit_set (n / 2 ^ i) k ≡ bit_set n (i + k)
bit_moved n i k = rw (div-div-eq-div-mul, ← pow-add)

-- the first bit from bit i on that is 1
pub next_found : (mask i : ℕ) → NextBit mask i (i + count_trailing_zeros 64 (mask / 2 ^ i))
next_found mask i =
    record {
      low = omega arith;
      clear = λ k l m.
          let e : i + (k - i) ≡ k = omega arith in
          subst (λ j. bit_set mask j ≡ false) e (sym (bit_moved mask i (k - i)) ∙ clear_below 64 (mask / 2 ^ i) (k - i) (omega arith));
      found = λ l. sym (bit_moved mask i (count_trailing_zeros 64 (mask / 2 ^ i))) ∙ set_there 64 (mask / 2 ^ i) (omega arith);
    }

-- the numbers that pass a test among n more are as many as the test says
select_counts : (f : ℕ → Bool) (c n : ℕ) → length (select f (c + n)) ≡ length (select f c) + sum_below n (λ i. one (f (c + i)))
unfolding sum_below
select_counts f c zero = ap (λ m. length (select f m)) (add-zero c) ∙ sym (add-zero _)
select_counts f c (suc n) = by (select_counts f c n) (true_or_false (f (c + n)))
  where
    e : c + suc n ≡ (c + n) + 1
    e = omega arith

    by : length (select f (c + n)) ≡ length (select f c) + sum_below n (λ i. one (f (c + i))) → (f (c + n) ≡ true) ⊎ (f (c + n) ≡ false) →
        length (select f (c + suc n)) ≡ length (select f c) + (sum_below n (λ i. one (f (c + i))) + one (f (c + n)))
    by so (inl t) = rw (e, t) (omega (arith, length_taken f (c + n) t))
    by so (inr t) = rw (e, t) (omega (arith, length_passed f (c + n) t))

-- so the ones of a chunk's mask tell how many of its cells pass
pub ones_counted : {w h c n : ℕ} (f : ℕ → Bool) (mask : ℕ) → mask < 2 ^ 64 → Span w h c n → Mask (in_row w f c) mask →
    length (select f (c + n)) ≡ length (select f c) + ones mask
ones_counted {w} {h} {c} {n} f mask fits s m =
    let few = s.chunk.few in
    let split : 64 ≡ n + (64 - n) = omega arith in
    let first : sum_below n (λ i. one (bit_set mask i)) ≡ sum_below n (λ i. one (f (c + i)))
    = sum_same n (λ i. one (bit_set mask i)) (λ i. one (f (c + i))) (λ i l. rw (m i (omega arith), lt-ltb (c % w + i) w (let r = s.chunk.in_one_row in omega arith))) in
    let rest : sum_below (64 - n) (λ i. one (bit_set mask (n + i))) ≡ 0
    = sum_none (64 - n) (λ i. one (bit_set mask (n + i))) (λ i l. rw (m (n + i) (omega arith), le-ltb (c % w + (n + i)) w (let r = s.whole (omega arith) in omega arith))) in
    let all : sum_below 64 (λ i. one (bit_set mask i)) ≡ sum_below n (λ i. one (bit_set mask i)) + sum_below (64 - n) (λ i. one (bit_set mask (n + i)))
    = ap (λ d. sum_below d (λ i. one (bit_set mask i))) split ∙ sum_add n (64 - n) (λ i. one (bit_set mask i)) in
    omega (arith, select_counts f c n, first, rest, all, ones_are 64 mask fits)
