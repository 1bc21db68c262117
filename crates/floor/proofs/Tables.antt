-- Reading a table of refusals. Assumes nothing.
use Prim.Native.Nat.{ℕ, ◌<◌}
use mathlib.Core.Bool.{Bool, true, false, true≢false}
use mathlib.Core.List.{List, [], ◌∷◌, ◌++◌}
use mathlib.Core.Logic.{inl, inr, ⊎_elim}
use mathlib.Core.Path.{◌≡◌, refl, sym, ◌∙◌}
use native.Mathlib.Omega.{arith}
use Rattle.floor.specs.Refusals.{Refusal, FirstOf, Numbered, Tells}

-- a table gives one number
pub first_unique : (rs : List Refusal) (c d : ℕ) → FirstOf rs c → FirstOf rs d → c ≡ d
first_unique [] c d p q = p ∙ sym q
first_unique (r ∷ rs) c d (inl p) (inl q) = p.1 ∙ sym q.1
first_unique (r ∷ rs) c d (inl p) (inr q) = absurd (q.0 p.0)
first_unique (r ∷ rs) c d (inr p) (inl q) = absurd (p.0 q.0)
first_unique (r ∷ rs) c d (inr p) (inr q) = first_unique rs c d p.1 q.1

-- a number that the first rows give is the whole table's
pub first_here : (rs ss : List Refusal) (c : ℕ) → FirstOf rs c → 0 < c → FirstOf (rs ++ ss) c
first_here [] ss c p l = absurd (omega arith)
first_here (r ∷ rs) ss c p l = ⊎_elim inl (λ q. inr (q.0, first_here rs ss c q.1 l)) p

-- where none of the first rows applies, the others decide
pub first_later : (rs ss : List Refusal) (c : ℕ) → Numbered rs → FirstOf rs 0 → FirstOf ss c → FirstOf (rs ++ ss) c
first_later [] ss c n p q = q
first_later (r ∷ rs) ss c n p q = ⊎_elim (λ a. absurd (let l = n.0 in let e = a.1 in omega arith)) (λ b. inr (b.0, first_later rs ss c n.1 b.1 q)) p

-- a test that found the condition
pub found : {P : Type 0} → P → Tells P true
found p = record { yes = λ e. p; no = λ e. absurd (true≢false e) }

-- a test that found that it fails
pub missing : {P : Type 0} → ¬ P → Tells P false
missing n = record { yes = λ e. absurd (true≢false (sym e)); no = λ e. n }

-- a test that is not true is false
pub not_so : (b : Bool) → ¬ (b ≡ true) → b ≡ false
not_so true n = absurd (n refl)
not_so false n = refl

-- a test's answer is one, where it tells whether a condition holds
pub tells_only : {P : Type 0} (a b : Bool) → Tells P a → Tells P b → a ≡ b
tells_only true true p q = refl
tells_only true false p q = absurd (q.no refl (p.yes refl))
tells_only false true p q = absurd (p.no refl (q.yes refl))
tells_only false false p q = refl
