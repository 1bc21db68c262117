-- The direct line of two places: all its diagonal steps first, then its straight ones.
-- Assumes nothing.
use Rattle.std.specs.Prelude.{cond, List, ◌++◌, ℕ, ltb, replicate}
use Rattle.lengths.specs.Lengths.{gap}
use Rattle.floor.specs.Board.{Place, Dir, N, E, S, W, NE, SE, SW, NW, Offset, less, same, more}
use Rattle.ground.specs.Kind.{octile}

-- the offset that leads from m toward n
abbrev pub toward : ℕ → ℕ → Offset
toward m n = cond (ltb m n) more (cond (ltb n m) less same)

-- The direction with two given offsets. (No direction stands still: there N is of no account.)
abbrev pub compass : Offset → Offset → Dir
compass less less = NW
compass less same = W
compass less more = SW
compass same less = N
compass same same = N
compass same more = S
compass more less = NE
compass more same = E
compass more more = SE

-- the direction of the diagonal steps
abbrev pub diagonal_way : Place → Place → Dir
diagonal_way s t = compass (toward s.x t.x) (toward s.y t.y)

-- the direction of the straight steps, along the axis on which the two places are further apart
abbrev pub straight_way : Place → Place → Dir
straight_way s t =
    cond (ltb (gap s.y t.y) (gap s.x t.x))
    (compass (toward s.x t.x) same)
    (compass same (toward s.y t.y))

-- the direct line
abbrev pub line : Place → Place → List Dir
line s t =
    replicate (octile s t).diagonal (diagonal_way s t) ++ replicate (octile s t).straight (straight_way s t)
