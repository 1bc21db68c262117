-- What marking computes cell by cell. These are values and states of code; proofs/ ties them to the plan's definitions.
use Rattle.std.specs.Prelude.{ℕ, suc, ◌+◌, ◌-◌, ◌*◌, ◌%◌, ◌≤◌, ◌<◌, Bool, cond, ◌&&◌, List, [], ◌∷◌, ◌≢◌, ◌≡◌, eqb, length, get_or}
use Rattle.floor.specs.Board.{Board, Place, dir_at, go, corner}
use Rattle.floor.specs.Words.{board, place_of, cell_of}
use Rattle.masks.specs.Masks.{bit_set}
use Rattle.corners.specs.Chunks.{Chunk as IsChunk, RowBits}
use Rattle.marks.specs.Marks.{ClearedAt, Cleared}
use Rattle.marks.specs.declared.Chunk.{Chunk}
use Rattle.marks.specs.declared.Step.{Step}
use Rattle.marks.specs.declared.Steps.{Steps}

-- entry 4 c + d of the clearances, for the cell at a place
abbrev pub entry_at : ℕ → List ℕ → Place → ℕ → ℕ
entry_at w clear p d = get_or clear (4 * cell_of w p + d) 0

-- ---- a clearance by that of the next place in the direction
-- the place and the next one are free, so that the step is legal
abbrev pub steps_to : Board → Place → ℕ → Bool
steps_to B p d = B p.x p.y && B (go (dir_at d) p).x (go (dir_at d) p).y

-- the next place is a turning point
abbrev pub turns_to : Board → Place → ℕ → Bool
turns_to B p d = corner B (go (dir_at d) p)

-- by two bits: 0 where the step is not legal, 1 where it leads to a turning point, else one more than the next place's
unfoldable pub by_bits : Bool → Bool → ℕ → List ℕ → Place → ℕ → ℕ
by_bits steps turns w clear p d = cond steps (cond turns 1 (suc (entry_at w clear (go (dir_at d) p) d))) 0

-- on a board
abbrev pub by_next : Board → ℕ → List ℕ → Place → ℕ → ℕ
by_next B w clear p d = by_bits (steps_to B p d) (turns_to B p d) w clear p d

-- how far ahead the number of the next cell in direction d lies
abbrev pub ahead_of : ℕ → ℕ → ℕ
ahead_of w d = cond (eqb d 1) 1 (cond (eqb d 2) w 0)

-- or how far back
abbrev pub back_of : ℕ → ℕ → ℕ
back_of w d = cond (eqb d 0) w (cond (eqb d 3) 1 0)

-- the masks are those of the steps in direction d from the cells of a chunk that begins with cell c
pub record AreSteps (w h : ℕ) (words : List ℕ) (d c : ℕ) (s : Steps) : Type 0 where
  pub legal : RowBits w (λ k. steps_to (board w h words) (place_of w k) d) c s.legal
  pub turns : RowBits w (λ k. turns_to (board w h words) (place_of w k) d) c s.turns

-- of which one is told
pub record IsStep (s : Steps) (i : ℕ) (t : Step) : Type 0 where
  pub legal : t.legal ≡ bit_set s.legal i
  pub turns : t.turns ≡ bit_set s.turns i

-- the next place of cell c in direction d is that of a cell, which has its entry in a list
pub record NextIn (w size c d : ℕ) : Type 0 where
  pub number : cell_of w (go (dir_at d) (place_of w c)) + back_of w d ≡ c + ahead_of w d
  pub entry_in : 4 * cell_of w (go (dir_at d) (place_of w c)) + d < size

-- ---- what a pass has done
-- how many of n cells are met before c: for N and W from the first cell on, for E and S from the last
abbrev pub rank : ℕ → ℕ → ℕ → ℕ
rank n d c = get_or (c ∷ (n - suc c) ∷ (n - suc c) ∷ c ∷ []) d 0

-- how many of n cells are met before those of a chunk, the m cells from cell c on
abbrev pub first_met : ℕ → ℕ → ℕ → ℕ → ℕ
first_met n d c m = rank n d (c + rank m d 0)

-- the pass in direction d goes from the first cell on: it is that for N, 0, or W, 3
abbrev pub FromFirst : ℕ → Type 0
FromFirst d = d % 3 ≡ 0

-- a chunk is met after the first r cells
pub record Met (w h d r : ℕ) (k : Chunk) : Type 0 where
  pub chunk : IsChunk w h k.cell k.count
  pub some : 0 < k.count
  pub fits : r + k.count ≤ w * h
  pub first : first_met (w * h) d k.cell k.count ≡ r
  pub whole : FromFirst d → (r + k.count) % w % 64 ≡ 0

-- the cells that are met before the r-th have right entries
pub record Right (w h : ℕ) (words clear : List ℕ) (d r : ℕ) : Type 0 where
  pub each : (c : ℕ) → c < w * h → rank (w * h) d c < r → ClearedAt w h words clear c d

-- the first r entries of direction d, in the order of its pass, are right, and no entry of another has changed
pub record Marking (w h : ℕ) (words : List ℕ) (d r : ℕ) (entry now : List ℕ) : Type 0 where
  pub as_long : length now ≡ length entry
  pub right : Right w h words now d r
  pub others : (c f : ℕ) → c < w * h → f < 4 → f ≢ d → get_or now (4 * c + f) 0 ≡ get_or entry (4 * c + f) 0
  pub beyond : (i : ℕ) → 4 * (w * h) ≤ i → get_or now i 0 ≡ get_or entry i 0

-- every clearance was written, and nothing else
pub record MarkedAll (w h : ℕ) (words entry exit : List ℕ) : Type 0 where
  pub as_long : length exit ≡ length entry
  pub cleared : Cleared w h words exit
  pub beyond : (i : ℕ) → 4 * (w * h) ≤ i → get_or exit i 0 ≡ get_or entry i 0

-- ---- a list whose entries are what the next ones make them
-- an entry is
abbrev pub Agrees : ℕ → ℕ → List ℕ → List ℕ → ℕ → ℕ → Type 0
Agrees w h words clear c d = get_or clear (4 * c + d) 0 ≡ by_next (board w h words) w clear (place_of w c) d

-- those of the n cells from cell c on are, in direction d
abbrev pub ChunkAgrees : ℕ → ℕ → List ℕ → List ℕ → ℕ → ℕ → ℕ → Type 0
ChunkAgrees w h words clear d c n = (i : ℕ) → i < n → Agrees w h words clear (c + i) d

-- those of the first n cells are
abbrev pub WayAgrees : ℕ → ℕ → List ℕ → List ℕ → ℕ → ℕ → Type 0
WayAgrees w h words clear d n = (c : ℕ) → c < n → Agrees w h words clear c d
