-- The cells of a walk, by number (01, "Query": the route lists cells from start to goal with both ends).
use Rattle.std.specs.Prelude.{ℕ, suc, ◌+◌, ◌*◌, ◌≤◌, ◌<◌, List, [], ◌∷◌, ◌++◌, ◌⊎◌, ◌≡◌, length, take, drop}
use Rattle.floor.specs.Board.{Place, Dir, shift, go}
use Rattle.floor.specs.Words.{place_of, cell_of}
use Rattle.ground.specs.Line.{toward, line}

-- the cells that a walk from p comes to, one for each of its steps
abbrev pub after : ℕ → Place → List Dir → List ℕ
after w p [] = []
after w p (d ∷ ds) = cell_of w (go d p) ∷ after w (go d p) ds

-- the cells after the first of a chain of places, each leg walked by its own direct line
abbrev pub legs : ℕ → List ℕ → List ℕ
legs w [] = []
legs w (a ∷ []) = []
legs w (a ∷ b ∷ rest) = after w (place_of w a) (line (place_of w a) (place_of w b)) ++ legs w (b ∷ rest)

-- how many steps the direct line has
unfoldable pub steps : Place → Place → ℕ
steps s t = length (line s t)

-- one step from column or row a toward b, as places are counted
pub record Nearer (a b r : ℕ) : Type 0 where
  pub there : suc r ≡ shift (toward (suc a) (suc b)) (suc a)
  pub between : (r ≤ a) ⊎ (r ≤ b)

-- column x and row y of a floor of width w, whose rows up to y have at most 16,384 cells
pub record Cell (w x y : ℕ) : Type 0 where
  pub column : x < w
  pub rows : y * w + w ≤ 16384

-- the cells of the direct line after s, the last of which is t's, stand from an entry on, r is the entry after them, and all others are as before
pub record LineWritten (w : ℕ) (s t : Place) (entry : List ℕ) (from r : ℕ) (exit : List ℕ) : Type 0 where
  pub next : r ≡ from + steps s t
  pub cells : exit ≡ take from entry ++ (after w s (line s t) ++ drop (from + steps s t) entry)
