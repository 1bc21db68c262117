-- Boards, places, the eight directions, the step rule and turning points (01, "The floor" and "Turning points"; 000, Preliminaries and
-- Definition 1). A board says of each place whether it is free. Places are padded: cell (x, y) of a floor stands at (suc x, suc y), so
-- every neighbour of a cell has a place, and a place with a zero is outside.
use Rattle.std.specs.Prelude.{ℕ, suc, pred, Bool, true, false, not, ◌&&◌, ◌||◌, [], ◌∷◌, ◌≡◌, get_or}

-- whether the place of a column and a row is free
abbrev pub Board : Type 0
Board = ℕ → ℕ → Bool

-- row 0 and column 0 are outside
pub record Padded (B : Board) : Type 0 where
  pub row : (x : ℕ) → B x 0 ≡ false
  pub column : (y : ℕ) → B 0 y ≡ false

-- a place, by its padded column and row
pub record Place : Type 0 where
  pub x : ℕ
  pub y : ℕ

-- the place of cell (x, y)
abbrev pub at : ℕ → ℕ → Place
at x y = record { x = suc x; y = suc y }

-- a place is free
abbrev pub Free : Board → Place → Type 0
Free B p = B p.x p.y ≡ true

-- the eight directions
pub data Dir : Type 0 where
  N E S W NE SE SW NW : Dir

-- the directions by number, in the order of document 01
abbrev pub dir_at : ℕ → Dir
dir_at n = get_or (N ∷ E ∷ S ∷ W ∷ NE ∷ SE ∷ SW ∷ NW ∷ []) n N

-- an offset along one axis: -1, 0, 1
pub data Offset : Type 0 where
  less same more : Offset

-- the table of eight pairs of offsets, column and row: north is smaller y
abbrev pub offsets : Dir → Offset × Offset
offsets N = (same, less)
offsets E = (more, same)
offsets S = (same, more)
offsets W = (less, same)
offsets NE = (more, less)
offsets SE = (more, more)
offsets SW = (less, more)
offsets NW = (less, less)

-- how a direction moves the column
abbrev pub dx : Dir → Offset
dx d = (offsets d).0

-- and the row
abbrev pub dy : Dir → Offset
dy d = (offsets d).1

-- a number moved by an offset, not below 0
abbrev pub shift : Offset → ℕ → ℕ
shift less n = pred n
shift same n = n
shift more n = suc n

-- where a step leads
abbrev pub go : Dir → Place → Place
go d p = record { x = shift (dx d) p.x; y = shift (dy d) p.y }

-- an offset that is not 0
abbrev pub moving : Offset → Bool
moving less = true
moving same = false
moving more = true

-- a direction is diagonal when both of its offsets move
abbrev pub slanted : Dir → Bool
slanted d = moving (dx d) && moving (dy d)

-- A step from a free place is legal: the target is free and, for a diagonal one, so are both associated straight neighbours, which
-- lie one step along each axis.
unfoldable pub step : Board → Dir → Place → Bool
step B d p =
    B (shift (dx d) p.x) (shift (dy d) p.y)
    && (not (slanted d) || (B (shift (dx d) p.x) p.y && B p.x (shift (dy d) p.y)))

-- the diagonal neighbour is blocked and its two associated straight neighbours are free
unfoldable pub nook : Board → Dir → Place → Bool
nook B d p =
    not (B (shift (dx d) p.x) (shift (dy d) p.y))
    && (B (shift (dx d) p.x) p.y && B p.x (shift (dy d) p.y))

-- a turning point: a free place with such a diagonal neighbour
unfoldable pub corner : Board → Place → Bool
corner B p = B p.x p.y && (nook B NE p || (nook B SE p || (nook B SW p || nook B NW p)))
