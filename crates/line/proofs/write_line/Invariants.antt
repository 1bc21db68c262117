-- `line::write_line` meets its contract: the loop's invariant: with the rest of the line written the entries will be as they have to be.
-- Assumes nothing.
use Rattle.std.proofs.Common.{◌≡◌, ◌+◌}
use Rattle.floor.specs.Board.{at}
use Rattle.line.specs.Cells.{steps, Cell}
use Rattle.line.proofs.Runs.{filled}
use Rattle.line.proofs.write_line.Given as goal

abbrev pub invariant-loop-entry : goal.invariant-loop-entry
invariant-loop-entry l =
    Cell l.w l.here.x l.here.y × (l.entry-index + steps (at l.here.x l.here.y) (at l.to.x l.to.y) ≡ l.n) ×
    (filled l.w (at l.to.x l.to.y) (at l.here.x l.here.y) l.entry-items l.entry-index l.n
    ≡ filled l.w (at l.to.x l.to.y) (at l.fn.from.x l.fn.from.y) l.initial.entry-items 0 l.n)
