-- The clearance of a free place in a straight direction: the number of straight steps until a turning point is stood on
-- after the first step or later, or no further step is legal.
-- Assumes nothing.
use Rattle.std.specs.Prelude.{◌≡◌, true, false, ◌⊎◌, ℕ, suc, ◌≤◌, ◌<◌, replicate}
use Rattle.floor.specs.Board.{Board, Place, Free, Dir, corner}
use Rattle.ground.specs.Walk.{end}

-- the place j steps ahead of p
abbrev pub ahead : Dir → ℕ → Place → Place
ahead c j p = end p (replicate j c)

-- m is the clearance of p in the direction c
pub record Clearance (B : Board) (c : Dir) (p : Place) (m : ℕ) : Type 0 where
  pub free : (j : ℕ) → j ≤ m → Free B (ahead c j p)
  pub plain : (j : ℕ) → 0 < j → j < m → corner B (ahead c j p) ≡ false
  pub stops : ((0 < m) × (corner B (ahead c m p) ≡ true)) ⊎ (B (ahead c (suc m) p).x (ahead c (suc m) p).y ≡ false)
