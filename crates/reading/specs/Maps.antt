-- What the rows of a map mean (01, "Floorwalk: the program and its listing"): W letters `.` (46, free) or `#` (35), and a newline (10);
-- and the floor's words that they draw (01, "The floor").
use Rattle.std.specs.Prelude.{ℕ, ◌+◌, ◌*◌, ◌<◌, ◌≡◌, Bool, ◌&&◌, List, [], ◌∷◌, ◌++◌, ◌⊎◌, ltb, eqb, length, get_or, drop, Result, Ok, Err}
use Rattle.floor.specs.Words.{row_words, row_of, bit_free, bit_clear}
use Rattle.reading.specs.declared.Misfit.{Misfit}
use Rattle.reading.specs.Lines.{At}

-- a byte is a letter of the map
abbrev pub Letter : ℕ → Type 0
Letter b = (b ≡ 46) ⊎ (b ≡ 35)

-- a line is a row of w letters
pub record RowLine (w : ℕ) (letters line : List ℕ) : Type 0 where
  pub long : length letters ≡ w
  pub each : (x : ℕ) → x < w → Letter (get_or letters x 0)
  pub written : line ≡ letters ++ 10 ∷ []

-- a row of w letters stands at a place of the text
pub record RowAt (text : List ℕ) (at w : ℕ) : Type 0 where
  pub letters : List ℕ
  pub stands : At (RowLine w letters) text at (at + w + 1)

-- column x of a row of w letters is one of them, and free
unfoldable pub free_letter : ℕ → List ℕ → ℕ → Bool
free_letter w letters x = ltb x w && eqb (get_or letters x 0) 46

-- where row y of a map begins whose rows begin at `from`
abbrev pub row_place : ℕ → ℕ → ℕ → ℕ
row_place from w y = from + y * (w + 1)

-- The first n rows of the map fit, the words of these rows have a 0 exactly at the free letters, and the words after them are as they were.
pub record Filled (text : List ℕ) (from w n : ℕ) (before after : List ℕ) : Type 0 where
  pub fit : (y : ℕ) → y < n → RowAt text (row_place from w y) w
  pub drawn : (y : ℕ) → y < n → (row : RowAt text (row_place from w y) w) (x : ℕ) → x < 64 * row_words w → bit_free (row_of w after y) x ≡ free_letter w row.letters x
  pub long : length after ≡ length before
  pub rest : drop (n * row_words w) after ≡ drop (n * row_words w) before

-- What reading h rows gives back: where the text goes on; or the first row that does not fit, with the rows before it in the words.
abbrev pub RowsRead : List ℕ → ℕ → ℕ → ℕ → List ℕ → List ℕ → Result ℕ Misfit → Type 0
RowsRead text from w h before after (Ok next) = (next ≡ row_place from w h) × Filled text from w h before after
RowsRead text from w h before after (Err bad) = (bad.row < h) × (¬ (RowAt text (row_place from w bad.row) w)) × Filled text from w bad.row before after

-- a word's bits are the columns of a row of these letters from `first` on, 0 where free
abbrev pub Draws : List ℕ → ℕ → ℕ → Type 0
Draws letters first word = (k : ℕ) → k < 64 → bit_clear word k ≡ free_letter (length letters) letters (first + k)

-- a row's words have the columns of a row of these letters
abbrev pub DrawsRow : List ℕ → List ℕ → Type 0
DrawsRow letters row = (x : ℕ) → x < 64 * length row → bit_free row x ≡ free_letter (length letters) letters x
