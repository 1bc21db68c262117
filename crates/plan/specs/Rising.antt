-- Strictly ascending lists, and a number put in its place in one.
use Rattle.std.specs.Prelude.{ℕ, ◌<◌, cond, List, [], ◌∷◌, ◌⊎◌, ◌≡◌, ltb, eqb}

-- t stands in the list
abbrev pub In : ℕ → List ℕ → Type 0
In t [] = ⊥
In t (x ∷ xs) = (t ≡ x) ⊎ In t xs

-- every entry is above a
abbrev pub Above : ℕ → List ℕ → Type 0
Above a [] = Unit {0}
Above a (x ∷ xs) = (a < x) × Above a xs

-- every entry is below those after it
abbrev pub Rising : List ℕ → Type 0
Rising [] = Unit {0}
Rising (x ∷ xs) = Above x xs × Rising xs

-- an ascending list with t in it
unfoldable pub insertion : ℕ → List ℕ → List ℕ
insertion t [] = t ∷ []
insertion t (x ∷ xs) = cond (ltb t x) (t ∷ x ∷ xs) (cond (eqb t x) (x ∷ xs) (x ∷ insertion t xs))
