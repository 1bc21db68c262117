-- What is read of a map is a floor: a cell of its board is free exactly where its letter is. And what its rows take: bytes of the text, and
-- words. Assumes nothing.
use Prim.Native.Nat.{ℕ, zero, suc, ◌+◌, ◌*◌, ◌/◌, ◌%◌, ◌<◌, ◌≤◌}
use mathlib.Core.List.{List}
use mathlib.Core.Path.{◌≡◌, sym, ap, ◌∙◌}
use native.Mathlib.Decide.{dec_lt}
use native.Mathlib.Nat.{suc-mul, le_trans, mul-le-mul_left, mul-le-mul_right}
use native.Mathlib.Omega.{arith}
use lib.ListN.{length, take}
use lib.Seq.{get_or-take}
use Rattle.floor.specs.Words.{row_words, row_of, bit_clear, bit_free, board}
use Rattle.floor.proofs.Places.{row_ends, cell_free}
use Rattle.reading.specs.Maps.{row_place, Filled, free_letter}
use Rattle.reading.proofs.Letters.{row_inside}
use Rattle.reading.proofs.Fills.{row_word}

module _ (text : List ℕ) (from w h : ℕ) (before after : List ℕ) (f : Filled text from w h before after) where
  -- the words of the h rows
  abbrev words : List ℕ
  words = take (h * row_words w) after

  -- a bit of a row is that of the letters
  drawn_bit : (x y : ℕ) (l : y < h) → x < 64 * row_words w → bit_free (row_of w words y) x ≡ free_letter w (f.fit y l).letters x
  drawn_bit x y l m =
      let j : x / 64 < row_words w = omega arith in
      ap (λ word. bit_clear word (x % 64))
      (row_word w words y (x / 64) j ∙ get_or-take (h * row_words w) after (y * row_words w + x / 64) 0 (omega (arith, row_ends y h (row_words w) l)) ∙ sym (row_word w after y (x / 64) j))
      ∙ f.drawn y l (f.fit y l) x m

  -- a cell of the board is free exactly where its letter is
  pub drawn_cell : (x y : ℕ) → x < w → (l : y < h) → board w h words (suc x) (suc y) ≡ free_letter w (f.fit y l).letters x
  drawn_cell x y k l = cell_free w h words x y k l ∙ drawn_bit x y l (omega arith)

-- the rows of a map end within the text
pub rows_inside : (text : List ℕ) (from w h : ℕ) (before after : List ℕ) → from ≤ length text → Filled text from w h before after → row_place from w h ≤ length text
rows_inside text from w zero before after l f = omega arith
rows_inside text from w (suc h) before after l f =
    omega (arith, suc-mul h (w + 1), row_inside text (row_place from w h) w (f.fit h (omega arith)))

-- the rows of a floor of at most 16,384 cells take at most 512 words
pub few_words : (w h : ℕ) → w ≤ 255 → h ≤ 255 → w * h ≤ 16384 → h * row_words w ≤ 512
few_words w h a b c = by (dec_lt w 65) (dec_lt w 129) (dec_lt w 193)
  where
    -- rows of at least n cells and at most k words
    part : (n k : ℕ) → n ≤ w → row_words w ≤ k → (n * h ≤ 16384) × (h * row_words w ≤ h * k)
    part n k l m = (le_trans (mul-le-mul_right h l) c, mul-le-mul_left h m)

    by : Dec (w < 65) → Dec (w < 129) → Dec (w < 193) → h * row_words w ≤ 512
    by (yes l) d e = omega (arith, part 0 1 (omega arith) (omega arith))
    by (no l) (yes m) e = omega (arith, part 65 2 (omega (arith, l)) (omega arith))
    by (no l) (no m) (yes n) = omega (arith, part 129 3 (omega (arith, m)) (omega arith))
    by (no l) (no m) (no n) = omega (arith, part 193 4 (omega (arith, n)) (omega arith))
