-- Lists as the plan has them: parts, what is written over the first entries, and those entries that have a property.
use Rattle.std.specs.Prelude.{ℕ, zero, suc, ◌-◌, Bool, cond, List, [], ◌∷◌, ◌++◌, length, take, drop, replicate}

-- the entries at the places from a up to but not including e
abbrev pub part : List ℕ → ℕ → ℕ → List ℕ
part xs a e = take (e - a) (drop a xs)

-- a lent list after xs was written into its first entries: the entries beyond are unchanged
abbrev pub written : List ℕ → List ℕ → List ℕ
written xs lent = xs ++ drop (length xs) lent

-- a lent list with every entry set to 0
abbrev pub wiped : List ℕ → List ℕ
wiped lent = replicate (length lent) 0

-- the numbers below n that pass a test, ascending
unfoldable pub select : (ℕ → Bool) → ℕ → List ℕ
select f zero = []
select f (suc n) = select f n ++ cond (f n) (n ∷ []) []

-- ys are those of xs that have the property P, in the order of xs
pub data Picked (P : ℕ → Type 0) : List ℕ → List ℕ → Type 0 where
  none : Picked P [] []
  taken : {x : ℕ} {xs ys : List ℕ} → P x → Picked P xs ys → Picked P (x ∷ xs) (x ∷ ys)
  passed : {x : ℕ} {xs ys : List ℕ} → ¬ (P x) → Picked P xs ys → Picked P (x ∷ xs) ys
