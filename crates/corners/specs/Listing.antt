-- The numbers that pass a test, as code writes them into a list, or reads them there. These are states of code.
use Rattle.std.specs.Prelude.{ℕ, ◌≤◌, Bool, List, Option, MatchOption, ◌≡◌, length, take}
use Rattle.corners.specs.Lists.{written, select}

-- those below n, k in number, are written over the first entries of what was lent
pub record Written (f : ℕ → Bool) (lent : List ℕ) (n : ℕ) (now : List ℕ) (k : ℕ) : Type 0 where
  pub count : k ≡ length (select f n)
  pub list : now ≡ written (select f n) lent

-- those below n, k in number, are the first entries of a list
pub record Read (f : ℕ → Bool) (xs : List ℕ) (n k : ℕ) : Type 0 where
  pub count : k ≡ length (select f n)
  pub first : take k xs ≡ select f n

-- some number says so; none says that the list is of no more numbers than those below n either
abbrev pub Told : (ℕ → Bool) → List ℕ → ℕ → Option ℕ → Type 0
Told f xs n r = MatchOption r ((m : ℕ) → n ≤ m → ¬ (xs ≡ select f m)) (λ k. Read f xs n k)
