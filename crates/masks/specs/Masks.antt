-- Sets of cells as words: a mask has a bit for each of 64 neighbouring places of a row, and the bit is 1 where the place has what is asked.
use Rattle.std.specs.Prelude.{ℕ, suc, ◌+◌, ◌*◌, ◌/◌, ◌%◌, ◌^◌, ◌<◌, Bool, not, ◌&&◌, ◌||◌, ◌≡◌, eqb}
use Rattle.floor.specs.Board.{Board, Place}

-- bit k of a word is 1, bit 0 being worth 1
abbrev pub bit_set : ℕ → ℕ → Bool
bit_set word k = eqb (word / 2 ^ k % 2) 1

-- the 64 bits of a word are what f says of the numbers below 64
abbrev pub Mask : (ℕ → Bool) → ℕ → Type 0
Mask f word = (i : ℕ) → i < 64 → bit_set word i ≡ f i

-- the place of bit i in the mask of word j of padded row y
abbrev pub spot : ℕ → ℕ → ℕ → Place
spot y j i = record { x = suc (64 * j + i); y = y }

-- r has the bits of a moved down by one, and the lowest of b on top: where a and b are the masks of 64 places and of the 64 after them, r is
-- the mask of those one further on
abbrev pub Next : ℕ → ℕ → ℕ → Type 0
Next a b r = (f : ℕ → Bool) → Mask f a → Mask (λ i. f (64 + i)) b → Mask (λ i. f (suc i)) r

-- r has the bits of a moved up by one, and the highest of b below: where b and a are the masks of 64 places and of the 64 after them, r is
-- the mask of those one before a's
abbrev pub Last : ℕ → ℕ → ℕ → Type 0
Last a b r = (f : ℕ → Bool) → Mask (λ i. f (64 + i)) a → Mask f b → Mask (λ i. f (63 + i)) r

-- a nook on one side of a place: the neighbour there is free, and so is the one to the east or to the west, and the diagonal place between
-- the two is blocked
abbrev pub nook_test : Bool → Bool → Bool → Bool → Bool → Bool
nook_test side east west beyondEast beyondWest = side && (east && not beyondEast || west && not beyondWest)

-- the same of the place of column x, its side being row z: of a place, the padded column is one more
abbrev pub nook_beside : Board → ℕ → ℕ → Bool → Bool → Bool
nook_beside B z x east west = nook_test (B (suc x) z) east west (B (suc (suc x)) z) (B x z)
