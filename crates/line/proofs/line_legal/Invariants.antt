-- `line::line_legal` meets its contract: the loop's invariant: the steps so far are legal and the rest is the direct line from
-- the present cell. Assumes nothing.
use Rattle.std.proofs.Common.{◌≡◌, ◌+◌}
use Rattle.floor.specs.Board.{at}
use Rattle.floor.specs.Words.{board}
use Rattle.floor.specs.Lent.{of, on}
use Rattle.floor.specs.Cells.{Within}
use Rattle.line.specs.Cells.{steps}
use Rattle.line.proofs.Runs.{Rest}
use Rattle.line.proofs.line_legal.Given as goal

abbrev pub invariant-loop : goal.invariant-loop
invariant-loop l =
    on Within l.floor.grid l.here × (l.counter + steps (at l.here.x l.here.y) (at l.to.x l.to.y) ≡ l.end) ×
    Rest (of board l.floor.grid) (at l.fn.from.x l.fn.from.y) (at l.to.x l.to.y) (at l.here.x l.here.y)
