-- A walk through the chunks of a floor. Assumes nothing.
use Rattle.std.proofs.Common.{ℕ, ◌+◌, ◌*◌, ◌≡◌, refl, subst, ◌∙◌}
use Rattle.corners.specs.declared.walk.ChunkWalk.{ChunkWalk}
use Rattle.corners.specs.Chunks.{Span}
use Rattle.corners.specs.Walk.{from_first}

-- it goes through the floor of these sides, and P holds of the cells passed
pub record Walked (w h : ℕ) (P : ℕ → Type 0) (s : ChunkWalk) : Type 0 where
  pub wide : s.w ≡ w
  pub high : s.h ≡ h
  pub so : P s.cell

-- at first none is passed
pub walk_begins : {w h : ℕ} (P : ℕ → Type 0) (s : ChunkWalk) → s ≡ from_first w h → P 0 → Walked w h P s
walk_begins P s e p = rw e (record { wide = refl; high = refl; so = p })

module _ {w h : ℕ} {P : ℕ → Type 0} {s : ChunkWalk} (u : Walked w h P s) where
  module _ {c n : ℕ} (e : c ≡ s.cell) (k : Span s.w s.h s.cell n) where
    -- the next chunk is one of the floor
    pub next_span : Span w h c n
    next_span = rw (e, ← u.wide, ← u.high) k

    -- it comes after the cells passed
    pub cells_before : P c
    cells_before = rw e u.so

    -- what holds of its cells too holds when it is passed
    pub walk_on : (Q : ℕ → Type 0) (t : ChunkWalk) → t ≡ record s { cell = s.cell + n } → Q (c + n) → Walked w h Q t
    walk_on Q t a q = rw a (record { wide = u.wide; high = u.high; so = subst (λ m. Q (m + n)) e q })

  -- in the end all cells are passed
  pub walk_ends : s.cell ≡ s.w * s.h → P (w * h)
  walk_ends e = subst P (e ∙ rw (u.wide, u.high)) u.so
