-- No second outcome: each reader's promise holds of one result, and of one list of words. Assumes nothing.
use Prim.Native.Nat.{ℕ, zero, suc, ◌+◌, ◌*◌, ◌/◌, ◌%◌, ◌^◌, ◌<◌, ◌≤◌}
use mathlib.Core.List.{List, ◌++◌}
use mathlib.Core.Path.{◌≡◌, refl, sym, ap, ap₂, ◌∙◌}
use native.Mathlib.Decide.{dec_lt}
use native.Mathlib.Nat.{suc-mul, zero-mul}
use native.Mathlib.Omega.{arith}
use lib.ListN.{length, get_or, take, drop, length-take, length-drop, take-append-drop}
use lib.Seq.{take-add, ext_get_or}
use Rattle.floor.specs.Words.{row_words, row_of, bit_clear}
use Rattle.std.specs.Prelude.{Option, Some, None, Result, Ok, Err}
use Rattle.reading.specs.declared.Two.{Two}
use Rattle.reading.specs.declared.Four.{Four}
use Rattle.reading.specs.declared.Misfit.{Misfit}
use Rattle.reading.specs.Lines.{TwoRead, FourRead}
use Rattle.reading.specs.Maps.{Filled, RowsRead}
use Rattle.reading.proofs.Lines.{pair_once, four_once}
use Rattle.reading.proofs.Bits.{same_bits}
use Rattle.reading.proofs.Fills.{row_word}

-- a reader of two numbers gives back one thing
pub two_unique : (text : List ℕ) (at : ℕ) (r s : Option Two) → TwoRead text at r → TwoRead text at s → r ≡ s
two_unique text at (Some a) (Some b) p q =
    let e = pair_once 10 (omega arith) text at (a.first, a.second) (b.first, b.second) a.next b.next p q in
    ap₂ (λ (z : ℕ × ℕ) n. Some (record { first = z.0; second = z.1; next = n })) e.0 e.1
two_unique text at (Some a) None p q = absurd (q a.first a.second a.next p)
two_unique text at None (Some b) p q = absurd (p b.first b.second b.next q)
two_unique text at None None p q = refl

-- a reader of four numbers gives back one thing
pub four_unique : (text : List ℕ) (at : ℕ) (r s : Option Four) → FourRead text at r → FourRead text at s → r ≡ s
four_unique text at (Some a) (Some b) p q =
    let e = four_once text at ((a.start.x, a.start.y), (a.goal.x, a.goal.y)) ((b.start.x, b.start.y), (b.goal.x, b.goal.y)) a.next b.next p q in
    ap₂ (λ (z : (ℕ × ℕ) × (ℕ × ℕ)) n. Some (record { start = record { x = z.0.0; y = z.0.1 }; goal = record { x = z.1.0; y = z.1.1 }; next = n })) e.0 e.1
four_unique text at (Some a) None p q = absurd (q a.start.x a.start.y a.goal.x a.goal.y a.next p)
four_unique text at None (Some b) p q = absurd (p b.start.x b.start.y b.goal.x b.goal.y b.next q)
four_unique text at None None p q = refl

-- the first row that does not fit is one, and then not all fit
pub rows_unique : (text : List ℕ) (from w h : ℕ) (before after other : List ℕ) (r s : Result ℕ Misfit) → RowsRead text from w h before after r → RowsRead text from w h before other s → r ≡ s
rows_unique text from w h before after other (Ok n) (Ok m) p q = ap Ok (p.0 ∙ sym q.0)
rows_unique text from w h before after other (Ok n) (Err b) p q = absurd (q.1 (p.1.fit b.row q.0))
rows_unique text from w h before after other (Err a) (Ok m) p q = absurd (p.1 (q.1.fit a.row p.0))
rows_unique text from w h before after other (Err a) (Err b) p q = by (dec_lt a.row b.row) (dec_lt b.row a.row)
  where
    by : Dec (a.row < b.row) → Dec (b.row < a.row) → ◌≡◌ {A = Result ℕ Misfit} (Err a) (Err b)
    by (yes l) d = absurd (p.1 (q.2.fit a.row l))
    by (no l) (yes m) = absurd (q.1 (p.2.fit b.row m))
    by (no l) (no m) = ap (λ (y : ℕ). Err (record { row = y })) (omega (arith, l, m))

-- each entry is a word
abbrev pub Words : List ℕ → Type 0
Words words = (i : ℕ) → get_or words i 0 < 2 ^ 64

module _ (text : List ℕ) (from w n : ℕ) (before after other : List ℕ) (f : Filled text from w n before after) (g : Filled text from w n before other) (u : Words after) (v : Words other) where
  -- row y has the same words
  row_same : (y : ℕ) → y < n → row_of w after y ≡ row_of w other y
  row_same y l = ext_get_or 0 (row_of w after y) (row_of w other y) (simp (length-take, length-drop) (omega (arith, f.long, g.long))) word
    where
      word : (j : ℕ) → j < length (row_of w after y) → get_or (row_of w after y) j 0 ≡ get_or (row_of w other y) j 0
      word j m =
          let k : j < row_words w = omega (arith, length-take (row_words w) (drop (y * row_words w) after)) in
          same_bits 64 _ _ (rw (row_word w after y j k) (u _)) (rw (row_word w other y j k) (v _)) (λ i b. bit after i b ∙ f.drawn y l (f.fit y l) (64 * j + i) (omega arith) ∙ sym (g.drawn y l (f.fit y l) (64 * j + i) (omega arith)) ∙ sym (bit other i b))
        where
          bit : (words : List ℕ) (i : ℕ) → i < 64 → bit_clear (get_or (row_of w words y) j 0) i ≡ bit_clear (get_or (row_of w words y) ((64 * j + i) / 64) 0) ((64 * j + i) % 64)
          bit words i b = ap₂ (λ a c. bit_clear (get_or (row_of w words y) a 0) c) (omega arith) (omega arith)

  -- the first m rows have the same words
  rows_same : (m : ℕ) → m ≤ n → take (m * row_words w) after ≡ take (m * row_words w) other
  rows_same zero l = rw zero-mul
  rows_same (suc m) l = rw (suc-mul m (row_words w), take-add (m * row_words w) (row_words w) after, take-add (m * row_words w) (row_words w) other) (ap₂ ◌++◌ (rows_same m (omega arith)) (row_same m (omega arith)))

  -- the words that a map draws are one list
  pub words_unique : after ≡ other
  words_unique =
      sym (take-append-drop (n * row_words w) after)
      ∙ ap₂ ◌++◌ (rows_same n (omega arith)) (f.rest ∙ sym g.rest)
      ∙ take-append-drop (n * row_words w) other

-- how many rows have been read
abbrev read_count : ℕ → Result ℕ Misfit → ℕ
read_count h (Ok n) = h
read_count h (Err bad) = bad.row

-- these rows stand in the words
filled_of : (text : List ℕ) (from w h : ℕ) (before after : List ℕ) (r : Result ℕ Misfit) → RowsRead text from w h before after r → Filled text from w (read_count h r) before after
filled_of text from w h before after (Ok n) p = p.1
filled_of text from w h before after (Err bad) p = p.2

-- a reader of rows gives back one thing and leaves one list
pub read_rows_unique : (text : List ℕ) (from w h : ℕ) (before after other : List ℕ) (r s : Result ℕ Misfit) → Words after → Words other
    → RowsRead text from w h before after r → RowsRead text from w h before other s → (r ≡ s) × (after ≡ other)
read_rows_unique text from w h before after other r s u v p q =
    let e = rows_unique text from w h before after other r s p q in
    (e, words_unique text from w (read_count h r) before after other (filled_of text from w h before after r p) (rw (← e) at (filled_of text from w h before other s q)) u v)
