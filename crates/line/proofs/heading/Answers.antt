-- `line::heading` meets its contract: the table's rule at each two offsets. Assumes nothing.
use Prim.Native.Nat.{ℕ, suc, ◌+◌, ◌*◌, ◌<◌}
use mathlib.Core.List.{List, [], ◌∷◌}
use mathlib.Core.Path.{◌≡◌}
use lib.ListN.{get_or}
use borrow.Author.Rules.{rules}
use Rattle.floor.specs.Board.{Offset, dir_at, shift}
use Rattle.ground.specs.Line.{toward, compass}
use Rattle.ground.proofs.Tables.{offset_pair}
use Rattle.line.proofs.heading.Goals as goal

abbrev table : List ℕ
table = 7 ∷ 3 ∷ 6 ∷ 0 ∷ 0 ∷ 2 ∷ 4 ∷ 1 ∷ 5 ∷ []

-- the table's rule at the entry of two offsets
abbrev Rule : Offset → Offset → Type 0
Rule h v = (get_or table (3 * shift h 1 + shift v 1) 0 < 8) × (dir_at (get_or table (3 * shift h 1 + shift v 1) 0) ≡ compass h v)

-- it holds at each two
rule : (h v : Offset) → Rule h v
rule = offset_pair Rule (search rules) (search rules) (search rules) (search rules) (search rules) (search rules) (search rules) (search rules) (search rules)

pub returns : goal.returns
returns c =
    let a = c.args in
    rw (c.side.ensures.0, c.side-2.ensures.0) (rule (toward (suc a.from.x) (suc a.to.x)) (toward (suc a.from.y) (suc a.to.y)))
