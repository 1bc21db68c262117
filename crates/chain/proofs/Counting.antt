-- Counting by another name: numbers that correspond one to one are as many. Assumes nothing.
use Prim.Native.Nat.{ℕ, zero, suc, ◌<◌}
use mathlib.Core.Logic.{◌≢◌}
use mathlib.Core.Path.{◌≡◌, refl, sym, ◌∙◌, subst}
use native.Mathlib.Omega.{arith}
use Rattle.settling.specs.Counts.{Counts, empty, with, without, below}
use Rattle.settling.proofs.Tally.{counts_one_more}

-- where none of the numbers below n has the property, it counts 0
pub counts_none_below : {Q : ℕ → Type 0} (n : ℕ) → ((x : ℕ) → x < n → Q x → ⊥) → Counts Q (below n) 0
counts_none_below zero no-q = empty
counts_none_below (suc n) no-q = without (no-q n (omega arith)) (counts_none_below n (λ x l. no-q x (omega arith)))

-- Where f takes the numbers below n that have P one to one to all those below N that have Q, these are as many.
pub counts_onto :
    {P : ℕ → Type 0} (Q : ℕ → Type 0) (f : ℕ → ℕ) (n N : ℕ) {m : ℕ} →
    ((i j : ℕ) → i < n → j < n → P i → P j → f i ≡ f j → i ≡ j) →
    ((i : ℕ) → i < n → P i → (f i < N) × Q (f i)) →
    ((x : ℕ) → x < N → Q x → (i : ℕ) × (i < n) × P i × (f i ≡ x)) →
    Counts P (below n) m →
    Counts Q (below N) m
counts_onto Q f zero N one into onto empty = counts_none_below N (λ x l q. let (i, k, p, e) = onto x l q in omega arith)
counts_onto {P} Q f (suc n) N one into onto (with {n = m} p c) =
    let here = into n (omega arith) p in
    counts_one_more {P = λ x. Q x × (x ≢ f n)} {Q = Q} (f n) (λ q. q.1 refl) here.1 (λ x other. (λ q. q.0, λ q. (q, other))) N here.0 m
    (counts_onto (λ x. Q x × (x ≢ f n)) f n N (λ i j k l. one i j (omega arith) (omega arith))
    (λ i l q. let r = into i (omega arith) q in (r.0, (r.1, λ e. let z = one i n (omega arith) (omega arith) q p e in omega arith)))
    (λ x l q.
    let (i, k, r, e) = onto x l q.0 in
    (i, by i k (λ (z : i ≡ n). q.1 (sym e ∙ subst (λ (y : ℕ). f i ≡ f y) z refl)), r, e))
    c)
  where
    by : (i : ℕ) → i < suc n → (i ≡ n → ⊥) → i < n
    by i l d = omega (arith, d)
counts_onto {P} Q f (suc n) N one into onto (without p c) =
    counts_onto Q f n N (λ i j k l. one i j (omega arith) (omega arith)) (λ i l. into i (omega arith))
    (λ x l q.
    let (i, k, r, e) = onto x l q in
    (i, by i k (λ (z : i ≡ n). p (subst P z r)), r, e))
    c
  where
    by : (i : ℕ) → i < suc n → (i ≡ n → ⊥) → i < n
    by i l d = omega (arith, d)
