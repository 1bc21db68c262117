-- The chunks of a floor, as they are given one after another.
use Rattle.std.specs.Prelude.{ℕ, ◌+◌, ◌*◌, ◌%◌, ◌≤◌, Option, MatchOption, ◌≡◌}
use Rattle.corners.specs.Chunks.{Span}
use Rattle.corners.specs.declared.walk.ChunkWalk.{ChunkWalk}

-- all are still to be given
abbrev pub from_first : ℕ → ℕ → ChunkWalk
from_first w h = record { w = w; h = h; cell = 0 }

-- the next chunk begins with a mask, or there is none
pub record OnItsWay (s : ChunkWalk) : Type 0 where
  pub few_cells : s.w * s.h ≤ 16384
  pub inside : s.cell ≤ s.w * s.h
  pub begins : s.cell % s.w % 64 ≡ 0

-- what is given next: none where all cells are passed; otherwise the chunk from the next cell on, and those after it are left
abbrev pub ChunkGiven : ChunkWalk → Option (ℕ × ℕ) → ChunkWalk → Type 0
ChunkGiven s r t =
    MatchOption r (s.cell ≡ s.w * s.h)
    (λ k. (k.0 ≡ s.cell) × Span s.w s.h s.cell k.1 × (t ≡ record s { cell = s.cell + k.1 }))
