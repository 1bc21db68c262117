-- Three neighbouring places of a row, as the code reads them. Assumes nothing.
use Prim.Native.Nat.{ℕ, zero, suc, ◌-◌, ◌/◌, ◌%◌, ◌<◌}
use mathlib.Core.Bool.{Bool, false}
use mathlib.Core.List.{List, [], ◌∷◌}
use mathlib.Core.Path.{◌≡◌}
use native.Mathlib.Omega.{arith}
use lib.ListN.{get_or}
use borrow.Author.Tests.{lt-ltb}
use Rattle.floor.specs.Words.{bit_clear, free_in}
use Rattle.windows.specs.Window.{triple, OneWord}

-- three places of a row are told by what holds at each
pub triple_same : (f g : ℕ → Bool) (x : ℕ) → ((i : ℕ) → f i ≡ g i) → triple f x ≡ triple g x
unfolding triple
triple_same f g x e = simp e

-- where all is blocked, so are the three
pub triple_blocked : (f : ℕ → Bool) (x : ℕ) → ((i : ℕ) → false ≡ f i) → false ∷ false ∷ false ∷ [] ≡ triple f x
unfolding triple
triple_blocked f x e = triple_same (λ i. false) f x e

-- three places of a row whose cells are bits of one word
pub triple_in_word : (w : ℕ) (row : List ℕ) (x : ℕ) → 0 < x → OneWord w (x - 1) →
    triple (bit_clear (get_or row ((x - 1) / 64) 0)) ((x - 1) % 64) ≡ triple (free_in w row) x
unfolding triple free_in
triple_in_word w row zero l o = absurd (omega arith)
triple_in_word w row (suc a) l o =
    let i = o.inside in
    let t = o.together in
    let e : suc a - 1 ≡ a = omega arith in
    let d₁ : suc a / 64 ≡ a / 64 = omega arith in
    let d₂ : suc (suc a) / 64 ≡ a / 64 = omega arith in
    let m₁ : suc a % 64 ≡ suc (a % 64) = omega arith in
    let m₂ : suc (suc a) % 64 ≡ suc (suc (a % 64)) = omega arith in
    rw (e, lt-ltb a w (omega arith), lt-ltb (suc a) w (omega arith), lt-ltb (suc (suc a)) w (omega arith), d₁, d₂, m₁, m₂)
