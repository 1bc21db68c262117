-- Chunks: up to 64 neighbouring cells of a row, which are bits of one mask. These are states of code.
use Rattle.std.specs.Prelude.{ℕ, ◌+◌, ◌-◌, ◌*◌, ◌%◌, ◌≤◌, ◌<◌, Bool, true, false, ◌&&◌, ◌≡◌, ltb}
use Rattle.masks.specs.Masks.{bit_set}

-- the n cells from cell c on are the first of a mask, and stand in one row
pub record Chunk (w h c n : ℕ) : Type 0 where
  pub inside : c < w * h
  pub begins : c % w % 64 ≡ 0
  pub few : n ≤ 64
  pub in_one_row : c % w + n ≤ w

-- and they are all of the mask that the row has
pub record Span (w h c n : ℕ) : Type 0 where
  pub chunk : Chunk w h c n
  pub some : 0 < n
  pub whole : n < 64 → c % w + n ≡ w

-- the last n of the cells below e are a chunk
pub record LastSpan (w h e n : ℕ) : Type 0 where
  pub chunk : Chunk w h (e - n) n
  pub some : 0 < n
  pub under : n ≤ e

-- bit i of the mask that begins with cell c is what f says of cell c + i, where that stands in the same row
abbrev pub RowBits : ℕ → (ℕ → Bool) → ℕ → ℕ → Type 0
RowBits w f c mask = (i : ℕ) → i < 64 → c % w + i < w → bit_set mask i ≡ f (c + i)

-- cell c + i stands in the row of cell c, and f says so of it
abbrev pub in_row : ℕ → (ℕ → Bool) → ℕ → ℕ → Bool
in_row w f c i = ltb (c % w + i) w && f (c + i)

-- bit r is the first one from bit i on that is 1; where r is 64 or more there is none
pub record NextBit (mask i r : ℕ) : Type 0 where
  pub low : i ≤ r
  pub clear : (k : ℕ) → i ≤ k → k < r → bit_set mask k ≡ false
  pub found : r < 64 → bit_set mask r ≡ true
