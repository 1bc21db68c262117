-- The floor's words while a map is read, row by row. Assumes nothing.
use Prim.Native.Nat.{ℕ, ◌+◌, ◌-◌, ◌*◌, ◌/◌, ◌%◌, ◌<◌, ◌≤◌}
use mathlib.Core.List.{List, ◌++◌}
use mathlib.Core.Path.{◌≡◌, refl, sym, ap, ap₂, ◌∙◌}
use native.Mathlib.Nat.{suc-mul}
use native.Mathlib.Numerals.{add-one}
use native.Mathlib.Omega.{arith}
use lib.ListN.{length, get_or, take, drop, length-append, length-take, length-drop, get_or-append}
use lib.Seq.{take_at, drop_at, drop-drop, get_or-take, get_or-drop, length-take-le}
use borrow.Author.Count.{below_more}
use borrow.Rule.Slice.PartMut.{put_mid, Post-is}
use Rattle.floor.specs.Words.{row_words, row_of, bit_free, bit_clear}
use Rattle.floor.proofs.Places.{row_ends}
use Rattle.reading.specs.Maps.{RowAt, row_place, Filled, DrawsRow, free_letter}
use Rattle.reading.proofs.Letters.{letters_same}

-- no row is read at first
pub filled_none : (text : List ℕ) (from w : ℕ) (words : List ℕ) → Filled text from w 0 words words
filled_none text from w words =
    record { fit = λ y l. absurd (omega arith); drawn = λ y l. absurd (omega arith); long = refl; rest = refl }

-- a word of a row is one of the floor's
pub row_word : (w : ℕ) (words : List ℕ) (y j : ℕ) → j < row_words w → get_or (row_of w words y) j 0 ≡ get_or words (y * row_words w + j) 0
row_word w words y j l = get_or-take (row_words w) (drop (y * row_words w) words) j 0 l ∙ get_or-drop (y * row_words w) words j 0

module _ (w y : ℕ) (words row : List ℕ) (long : length row ≡ row_words w) (room : y * row_words w + row_words w ≤ length words) where
  -- the words with another row y
  abbrev put : List ℕ
  put = take (y * row_words w) words ++ (row ++ drop (y * row_words w + row_words w) words)

  -- as many words stand before row y
  front : length (take (y * row_words w) words) ≡ y * row_words w
  front = length-take-le (y * row_words w) words (omega arith)

  -- what stands from row y on
  put_drop : drop (y * row_words w) put ≡ row ++ drop (y * row_words w + row_words w) words
  put_drop = drop_at (take (y * row_words w) words) _ (y * row_words w) front

  -- its row y is the new one
  put_row : row_of w put y ≡ row
  put_row = ap (take (row_words w)) put_drop ∙ take_at row _ (row_words w) long

  -- the words before row y are as they were
  put_before : (i : ℕ) → i < y * row_words w → get_or put i 0 ≡ get_or words i 0
  put_before i l = get_or-append (take (y * row_words w) words) _ 0 i (rw front l) ∙ get_or-take (y * row_words w) words i 0 l

  -- the words after row y are as they were
  put_after : drop (y * row_words w + row_words w) put ≡ drop (y * row_words w + row_words w) words
  put_after = sym (drop-drop (row_words w) (y * row_words w) put) ∙ ap (drop (row_words w)) put_drop ∙ drop_at row _ (row_words w) long

  -- and they are as many
  put_long : length put ≡ length words
  put_long = simp (length-append, length-drop, front) (omega arith)

  -- a row before row y is as it was
  put_other : (k x : ℕ) → k < y → x < 64 * row_words w → bit_free (row_of w put k) x ≡ bit_free (row_of w words k) x
  put_other k x l m =
      let j : x / 64 < row_words w = omega arith in
      ap (λ word. bit_clear word (x % 64))
      (row_word w put k (x / 64) j ∙ put_before (k * row_words w + x / 64) (omega (arith, row_ends k y (row_words w) l)) ∙ sym (row_word w words k (x / 64) j))

-- one row more
filled_more : (text : List ℕ) (from w y : ℕ) (before words row bytes : List ℕ) → length row ≡ row_words w → y * row_words w + row_words w ≤ length words
    → RowAt text (row_place from w y) w → bytes ≡ take w (drop (row_place from w y) text) → DrawsRow bytes row → Filled text from w y before words
    → Filled text from w (y + 1) before (take (y * row_words w) words ++ (row ++ drop (y * row_words w + row_words w) words))
filled_more text from w y before words row bytes long room fits cut draws f =
    record {
      fit = below_more (λ k. RowAt text (row_place from w k) w) y f.fit fits;
      drawn = below_more (λ k. (r : RowAt text (row_place from w k) w) (x : ℕ) → x < 64 * row_words w → bit_free (row_of w now k) x ≡ free_letter w r.letters x) y
          (λ k l r x m. put_other w y words row long room k x l m ∙ f.drawn k l r x m)
          (λ r x m. ap (λ t. bit_free t x) (put_row w y words row long room) ∙ draws x (rw long m) ∙ letters_same text (row_place from w y) w bytes cut r x);
      long = put_long w y words row long room ∙ f.long;
      rest = rw next (put_after w y words row long room ∙ after);
    }
  where
    now : List ℕ
    now = take (y * row_words w) words ++ (row ++ drop (y * row_words w + row_words w) words)

    next : (y + 1) * row_words w ≡ y * row_words w + row_words w
    next = rw add-one (suc-mul y (row_words w))

    after : drop (y * row_words w + row_words w) words ≡ drop (y * row_words w + row_words w) before
    after = sym (drop-drop (row_words w) (y * row_words w) words) ∙ ap (drop (row_words w)) f.rest ∙ drop-drop (row_words w) (y * row_words w) before

-- one row more, as the code puts it
pub filled_put : (text : List ℕ) (from w y n at : ℕ) (before words row : List ℕ) → n ≡ row_words w → at ≡ row_place from w y → y * n + n ≤ length words
    → length row ≡ length (take (y * n + n - y * n) (drop (y * n) words)) → RowAt text at w → DrawsRow (take (at + w - at) (drop at text)) row → Filled text from w y before words
    → Filled text from w (y + 1) before (put_mid (y * n) (y * n + n - y * n) words row)
filled_put text from w y n at before words row e p room kept fits draws f =
    let long : length row ≡ row_words w = kept ∙ simp (length-take, length-drop) (omega arith) in
    let cut : take (at + w - at) (drop at text) ≡ take w (drop (row_place from w y) text) = ap₂ (λ k l. take k (drop l text)) (omega arith) p in
    rw (Post-is (y * n) (y * n + n) words (omega arith), e)
    (filled_more text from w y before words row _ long (rw e at room) (rw p at fits) cut draws f)

-- where the next row begins
pub next_place : (from w y at : ℕ) → at ≡ row_place from w y → at + (w + 1) ≡ row_place from w (y + 1)
next_place from w y at e = rw (add-one y) (omega (arith, suc-mul y (w + 1)))
