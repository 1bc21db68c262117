-- A board of bounded size: only places from (1, 1) to (w, h) are free. Every floor is one.
use Rattle.std.specs.Prelude.{◌≡◌, true, ℕ, ◌≤◌}
use Rattle.floor.specs.Board.{Board, Padded}

-- only places from (1, 1) to (w, h) are free
pub record Within (w h : ℕ) (B : Board) : Type 0 where
  pub padded : Padded B
  pub wide : (x y : ℕ) → B x y ≡ true → x ≤ w
  pub high : (x y : ℕ) → B x y ≡ true → y ≤ h
