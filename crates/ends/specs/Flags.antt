-- The flags of the corners that are seen from a cell, in a column of the work space. These are states of code.
use Rattle.std.specs.Prelude.{ℕ, ◌+◌, ◌*◌, ◌≤◌, ◌<◌, List, ◌⊎◌, ◌≡◌, length, get_or}
use Rattle.corners.specs.Corners.{corner_cells}
use Rattle.fields.specs.Fields.{Seen, Sweepable}
use Rattle.places.specs.Columns.{column_of, Only}
use Rattle.places.specs.Places.{index_of, Ascending}

-- corner i has its flag in column c of a work space whose columns have n entries
abbrev pub Flag : ℕ → ℕ → List ℕ → ℕ → Type 0
Flag n c W i = 0 < get_or (column_of n W c) i 0

-- room for the flags of the corners, which ascend
pub record FlagRoom (corners : List ℕ) (n c : ℕ) (W : List ℕ) : Type 0 where
  pub count : n ≡ length corners + 2
  pub column : c < 6
  pub room : 6 * n ≤ length W
  pub ascending : Ascending corners

-- what flagging from a cell takes: a sweep from it, room, that what is seen is a corner, and not too many corners
pub record Flaggable (w h : ℕ) (words clear corners : List ℕ) (cell n c : ℕ) (W : List ℕ) : Type 0 where
  pub sweep : Sweepable w h words cell clear
  pub flags : FlagRoom corners n c W
  pub listed : (t : ℕ) → Seen w h words cell t → index_of corners t < length corners
  pub few : length (corner_cells w h words) ≤ 2048

-- flags were set of corners that have the property P, and nothing else changed
pub record Flagging (P : ℕ → Type 0) (corners : List ℕ) (n c : ℕ) (W W' : List ℕ) : Type 0 where
  pub only : Only n W c W'
  pub kept : (i : ℕ) → Flag n c W i → Flag n c W' i
  pub new : (i : ℕ) → i < length corners → Flag n c W' i → Flag n c W i ⊎ P (get_or corners i 0)

-- every cell with the property P has its flag
abbrev pub AllFlagged : (ℕ → Type 0) → List ℕ → ℕ → ℕ → List ℕ → Type 0
AllFlagged P corners n c W = (t : ℕ) → P t → Flag n c W (index_of corners t)

-- the flags of the corners that have the property P were set, in a column of a trip's work space
abbrev pub Flagged : (ℕ → Type 0) → List ℕ → ℕ → List ℕ → List ℕ → Type 0
Flagged P corners c W W' = Flagging P corners (length corners + 2) c W W' × AllFlagged P corners (length corners + 2) c W'
