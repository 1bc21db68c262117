-- The index of what stands in a list, and of the two numbers between which another lies. Assumes nothing.
use Prim.Native.Nat.{ℕ, zero, suc, ◌≤◌, ◌<◌}
use mathlib.Core.Bool.{Bool, true, false, cond}
use mathlib.Core.List.{List, [], ◌∷◌}
use mathlib.Core.Logic.{inl, inr}
use mathlib.Core.Path.{◌≡◌, refl, sym}
use native.Mathlib.Decide.{dec_le}
use native.Mathlib.Omega.{arith}
use lib.Dec.{eqb}
use lib.ListN.{length}
use borrow.Author.Tests.{eqb-false}
use Rattle.plan.specs.Rising.{In}
use Rattle.places.specs.Places.{index_of}

-- what stands in a list has an index
pub in_index : (xs : List ℕ) (t : ℕ) → In t xs → index_of xs t < length xs
unfolding index_of
in_index [] t i = absurd i
in_index (x ∷ xs) t i = by (λ k. in_index xs t k) (eqb x t) refl i
  where
    by : (In t xs → index_of xs t < length xs) → (b : Bool) → eqb x t ≡ b → In t (x ∷ xs) → cond b 0 (suc (index_of xs t)) < suc (length xs)
    by r true e i = omega arith
    by r false e (inl k) = absurd (eqb-false x t e (sym k))
    by r false e (inr k) = let l = r k in omega arith

-- numbers that begin at 0: each number below the last lies between two of them
pub between : (S : ℕ → ℕ) (n j : ℕ) → S 0 ≡ 0 → j < S n → (u : ℕ) × (u < n) × (S u ≤ j) × (j < S (suc u))
between S zero j z l = absurd (omega arith)
between S (suc n) j z l = by (dec_le (S n) j) (λ k. between S n j z k)
  where
    by :
        Dec (S n ≤ j) → (j < S n → (u : ℕ) × (u < n) × (S u ≤ j) × (j < S (suc u))) →
        (u : ℕ) × (u < suc n) × (S u ≤ j) × (j < S (suc u))
    by (yes k) r = (n, omega arith, k, l)
    by (no k) r = let (u, a, b, c) = r (omega (arith, k)) in (u, omega arith, b, c)
