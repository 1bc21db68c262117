-- A test by rows whether two places are joined directly, for proofs that compute it (the worked sums).
-- Assumes nothing.
use Rattle.std.specs.Prelude.{Bool, not, ◌&&◌, List, [], ◌∷◌, ℕ, zero, suc, ◌+◌, ltb, replicate}
use Rattle.floor.specs.Board.{Board, Place, Dir, go, step, corner}
use Rattle.ground.specs.Kind.{octile}
use Rattle.ground.specs.Line.{diagonal_way, straight_way}
use Rattle.ground.specs.Rows.{cell}

-- the test f passes at every number from 0 to n
abbrev pub upto : ℕ → (ℕ → Bool) → Bool
upto zero f = f 0
upto (suc n) f = upto n f && f (suc n)

-- the test of a legal walk
abbrev pub legal : Board → Place → List Dir → Bool
legal B p [] = B p.x p.y
legal B p (d ∷ ds) = B p.x p.y && (step B d p && legal B (go d p) ds)

-- a cell of the field is free, and no turning point unless it is one of the two ends
abbrev pub fine : Board → Place → ℕ → ℕ → Bool
fine B p steps all = B p.x p.y && not (ltb 0 steps && (ltb steps all && corner B p))

-- the test of the rows of a field
abbrev pub rows : Board → Place → Dir → Dir → ℕ → ℕ → Bool
rows B s d c n k = legal B s (replicate n d) && upto n (λ i. upto k (λ j. fine B (cell s d c i j) (i + j) (n + k)))

-- the test whether two places are joined directly
unfoldable pub joined : Board → Place → Place → Bool
joined B s t = rows B s (diagonal_way s t) (straight_way s t) (octile s t).diagonal (octile s t).straight
