-- The three by three window on which the corner rule and the step rule are judged (01, "The floor").
use Rattle.std.specs.Prelude.{ℕ, suc, ◌+◌, ◌%◌, ◌<◌, Bool, false, List, [], ◌∷◌, ◌≡◌, get_or}
use Rattle.floor.specs.Board.{Board, Dir, dx, dy, shift}

-- A window is three rows of three. It is a board of its own, and its middle is the place of cell (0, 0).
abbrev pub cells : List (List Bool) → Board
cells win i j = get_or (get_or win j []) i false

-- three neighbouring places of a row from column x on
unfoldable pub triple : (ℕ → Bool) → ℕ → List Bool
triple f x = f x ∷ f (suc x) ∷ f (suc (suc x)) ∷ []

-- the window round cell (x, y): its first place is (x, y), so its middle is that of the cell
unfoldable pub window_of : Board → ℕ → ℕ → List (List Bool)
window_of B x y = triple (λ i. B i y) x ∷ triple (λ i. B i (suc y)) x ∷ triple (λ i. B i (suc (suc y))) x ∷ []

-- two numbers are column and row of the neighbour in a direction, in the window
pub record InWindow (d : Dir) (o : List ℕ) : Type 0 where
  pub column : get_or o 0 0 ≡ shift (dx d) 1
  pub row : get_or o 1 0 ≡ shift (dy d) 1
  pub column_in : get_or o 0 0 < 3
  pub row_in : get_or o 1 0 < 3

-- the cells a, a + 1 and a + 2 of a row of w cells are bits of one word
pub record OneWord (w a : ℕ) : Type 0 where
  pub inside : a + 2 < w
  pub together : a % 64 < 62
