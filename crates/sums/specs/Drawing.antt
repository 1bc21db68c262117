-- A floor drawn with letters, as document 01's listing has it, with `o` for `.`, and the words that hold it: for floors of at most 64 columns.
use Rattle.std.specs.Prelude.{ℕ, ◌+◌, ◌*◌, ◌-◌, ◌^◌, List, [], ◌∷◌}

pub data Letter : Type 0 where
  o # : Letter

-- what the free cells of a row are worth, the first being worth 1
abbrev pub free_worth : List Letter → ℕ
free_worth [] = 0
free_worth (o ∷ ls) = 1 + 2 * free_worth ls
free_worth (# ∷ ls) = 2 * free_worth ls

-- each row is one word of ones, less its free cells
abbrev pub drawn : List (List Letter) → List ℕ
drawn [] = []
drawn (row ∷ rows) = (2 ^ 64 - 1 - free_worth row) ∷ drawn rows

-- the floor of document 01's listing, 5 × 3, with the middle cell blocked
abbrev pub hall : List ℕ
hall = drawn ((o ∷ o ∷ o ∷ o ∷ o ∷ []) ∷ (o ∷ o ∷ # ∷ o ∷ o ∷ []) ∷ (o ∷ o ∷ o ∷ o ∷ o ∷ []) ∷ [])

-- 2 × 2 with only (1, 0) blocked
abbrev pub bent : List ℕ
bent = drawn ((o ∷ # ∷ []) ∷ (o ∷ o ∷ []) ∷ [])

-- 2 × 2 with (1, 0) and (0, 1) blocked
abbrev pub split : List ℕ
split = drawn ((o ∷ # ∷ []) ∷ (# ∷ o ∷ []) ∷ [])

-- 3 × 1 with the middle blocked
abbrev pub barred : List ℕ
barred = drawn ((o ∷ # ∷ o ∷ []) ∷ [])
