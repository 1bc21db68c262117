-- The floor as it is lent: 64-bit words, row by row (01, "The floor"), and the refusals 1, 2 and 3.
use Rattle.std.specs.Prelude.{ℕ, zero, suc, pred, ◌+◌, ◌*◌, ◌/◌, ◌%◌, ◌^◌, ◌≤◌, ◌<◌, ◌≡◌, Bool, true, false, ◌&&◌, List, [], ◌∷◌, ◌⊎◌, ◌≢◌, ltb, eqb, get_or, length, take, drop}
use Rattle.floor.specs.Board.{Board, Place, at}
use Rattle.floor.specs.Refusals.{Refusal, refuse}

-- how many words a row of w cells takes: w / 64 rounded up
abbrev pub row_words : ℕ → ℕ
row_words w = (w + 63) / 64

-- bit k of a word is 0, bit 0 being worth 1
abbrev pub bit_clear : ℕ → ℕ → Bool
bit_clear word k = eqb (word / 2 ^ k % 2) 0

-- cell x of a row is bit x % 64 of word x / 64, and free where that bit is 0
abbrev pub bit_free : List ℕ → ℕ → Bool
bit_free row x = bit_clear (get_or row (x / 64) 0) (x % 64)

-- the words of row y
abbrev pub row_of : ℕ → List ℕ → ℕ → List ℕ
row_of w words y = take (row_words w) (drop (y * row_words w) words)

-- the place of padded column x in a row of w cells is free
unfoldable pub free_in : ℕ → List ℕ → ℕ → Bool
free_in w row zero = false
free_in w row (suc x) = ltb x w && bit_free row x

-- the floor as a board: every place outside is blocked
unfoldable pub board : ℕ → ℕ → List ℕ → Board
board w h words x zero = false
board w h words x (suc y) = ltb y h && free_in w (row_of w words y) x

-- cell (x, y) of a floor of width w has the number y · w + x
abbrev pub number_of : ℕ → ℕ → ℕ → ℕ
number_of w x y = y * w + x

-- the place of the cell with a number
abbrev pub place_of : ℕ → ℕ → Place
place_of w c = at (c % w) (c / w)

-- the number of the cell at a place
abbrev pub cell_of : ℕ → Place → ℕ
cell_of w p = number_of w (pred p.x) (pred p.y)

-- ---- the refusals
-- W or H is 0, or W, H or W × H above its limit
abbrev pub SizeRefused : ℕ → ℕ → Type 0
SizeRefused w h = (w ≡ 0) ⊎ ((h ≡ 0) ⊎ ((255 < w) ⊎ ((255 < h) ⊎ (16384 < w * h))))

-- an unused bit, one of a row's words past its w cells, is 0
pub record UnusedClear (w h : ℕ) (words : List ℕ) : Type 0 where
  pub row : ℕ
  pub bit : ℕ
  pub row_in : row < h
  pub unused : w ≤ bit
  pub bit_in : bit < 64 * row_words w
  pub clear : bit_free (row_of w words row) bit ≡ true

-- a row's words have a 0 past its w cells
pub record RestClear (w : ℕ) (row : List ℕ) : Type 0 where
  pub bit : ℕ
  pub unused : w ≤ bit
  pub bit_in : bit < 64 * length row
  pub clear : bit_free row bit ≡ true

-- the rows 1, 2 and 3 of document 01's table
abbrev pub floor_rows : ℕ → ℕ → List ℕ → List Refusal
floor_rows w h words =
    refuse 1 (SizeRefused w h)
    ∷ refuse 2 (length words ≢ h * row_words w)
    ∷ refuse 3 (UnusedClear w h words)
    ∷ []

-- ---- what is read of a floor
-- what reading a floor takes: sides of at most 255, and exactly the words that the rows need
pub record Sized (w h : ℕ) (words : List ℕ) : Type 0 where
  pub wide : w ≤ 255
  pub high : h ≤ 255
  pub counted : length words ≡ h * row_words w

-- a list is row y of the floor, and has as many words as a row
pub record IsRow (w : ℕ) (words : List ℕ) (y : ℕ) (row : List ℕ) : Type 0 where
  pub same : row ≡ row_of w words y
  pub long : length row ≡ row_words w

-- a floor that no row refuses
pub record Floor (w h : ℕ) (words : List ℕ) : Type 0 where
  pub some_width : 1 ≤ w
  pub some_height : 1 ≤ h
  pub few_cells : w * h ≤ 16384
  pub sized : Sized w h words
  pub used : ¬ (UnusedClear w h words)

-- ---- the number of free cells
-- the sum of f over the numbers below n
unfoldable pub sum_below : ℕ → (ℕ → ℕ) → ℕ
sum_below zero f = 0
sum_below (suc n) f = sum_below n f + f n

-- 1 for true, 0 for false
abbrev pub one : Bool → ℕ
one true = 1
one false = 0

-- the number of free cells, each cell being looked at
unfoldable pub free_cells : ℕ → ℕ → List ℕ → ℕ
free_cells w h words = sum_below h (λ y. sum_below w (λ x. one (board w h words (suc x) (suc y))))

-- the number of bits of the first i words that are 0, each bit being looked at
unfoldable pub clear_bits : List ℕ → ℕ → ℕ
clear_bits words i = sum_below (64 * i) (λ x. one (bit_free words x))
