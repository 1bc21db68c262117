-- The work space: six columns of n entries, one after the other, and what lies beyond them.
-- Assumes nothing.
use Rattle.std.specs.Prelude.{◌≡◌, List, ℕ, ◌*◌, ◌≤◌, ◌<◌, length, take, drop, set}

-- Column c of a work space whose columns have n entries.
unfoldable pub column_of : ℕ → List ℕ → ℕ → List ℕ
column_of n W c = take n (drop (c * n) W)

-- The columns: labels, a spare one, flags of settled places, flags of corners linked to the start, flags of corners linked to the goal,
-- and one that the search leaves alone.
abbrev pub Label : ℕ
Label = 0

abbrev pub Settled : ℕ
Settled = 2

abbrev pub ByStart : ℕ
ByStart = 3

abbrev pub ByGoal : ℕ
ByGoal = 4

abbrev pub Next : ℕ
Next = 5

-- Entry i of column c is there.
pub record Inside (n : ℕ) (W : List ℕ) (c i : ℕ) : Type 0 where
  pub column : c < 6
  pub place : i < n
  pub room : 6 * n ≤ length W

-- W' is W but for column c.
pub record Only (n : ℕ) (W : List ℕ) (c : ℕ) (W' : List ℕ) : Type 0 where
  pub others : (d : ℕ) → (d ≡ c → ⊥) → column_of n W' d ≡ column_of n W d
  pub rest : drop (6 * n) W' ≡ drop (6 * n) W
  pub sized : length W' ≡ length W

-- W' is W with v for entry i of column c.
pub record Put (n : ℕ) (W : List ℕ) (c i v : ℕ) (W' : List ℕ) : Type 0 where
  pub here : column_of n W' c ≡ set (column_of n W c) i v
  pub only : Only n W c W'

-- What a search leaves as it was: the flags of links, the sixth column, and what lies beyond the columns.
pub record Left (n : ℕ) (W W' : List ℕ) : Type 0 where
  pub by_start : column_of n W' ByStart ≡ column_of n W ByStart
  pub by_goal : column_of n W' ByGoal ≡ column_of n W ByGoal
  pub next : column_of n W' Next ≡ column_of n W Next
  pub rest : drop (6 * n) W' ≡ drop (6 * n) W
  pub sized : length W' ≡ length W
