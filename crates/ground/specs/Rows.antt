-- Two places that are joined directly, by rows: the rows of the slanted field between them.
-- The field has its corner at s, its rows go k straight steps in the direction c, and there are n + 1 of them, each one diagonal step d further.
-- Assumes nothing.
use Rattle.std.specs.Prelude.{◌≡◌, false, ◌++◌, ℕ, ◌+◌, ◌≤◌, ◌<◌, replicate}
use Rattle.floor.specs.Board.{Board, Place, Free, Dir, corner}
use Rattle.ground.specs.Kind.{walkers}
use Rattle.ground.specs.Walk.{end, Legal}

-- the place i diagonal and j straight steps from s
abbrev pub cell : Place → Dir → Dir → ℕ → ℕ → Place
cell s d c i j = end s (replicate i d ++ replicate j c)

-- the ray is legal, all cells of the field are free, and none but its two ends is a turning point
pub record Rows (B : Board) (s : Place) (d c : Dir) (n k : ℕ) : Type 0 where
  pub ray : Legal walkers B s (replicate n d)
  pub free : (i j : ℕ) → i ≤ n → j ≤ k → Free B (cell s d c i j)
  pub plain : (i j : ℕ) → i ≤ n → j ≤ k → 0 < i + j → i + j < n + k → corner B (cell s d c i j) ≡ false
