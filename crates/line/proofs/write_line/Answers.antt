-- `line::write_line` meets its contract: the loop's invariant: with the rest of the line written the entries will be as they have to be.
-- Assumes nothing.
use Rattle.std.proofs.Common.{◌<◌, ◌∙◌, arith}
use native.Mathlib.Numerals.{add-one}
use Rattle.floor.specs.Board.{at}
use Rattle.line.specs.Cells.{steps, Cell}
use Rattle.line.proofs.Runs.{nearer_cell, part_long, line_put, code_steps, code_filled}
use Rattle.line.proofs.write_line.Goals as goal
use Rattle.line.proofs.write_line.Goals.{After-step_toward-here}

-- the cell that the step leads to
next_cell : (c : After-step_toward-here) → Cell c.args.w c.step_toward-here.result.x c.step_toward-here.result.y
next_cell c = nearer_cell c.step_toward-here.ensures.0 c.step_toward-here.ensures.1 c.loop-entry.invariant.0 c.requires.1

pub overflow_mul-entry : goal.overflow_mul-entry
overflow_mul-entry c = let n = next_cell (goal.at.overflow_mul-entry c).After-step_toward-here in omega (arith, n.rows)

pub overflow_add-entry : goal.overflow_add-entry
overflow_add-entry c = let n = next_cell (goal.at.overflow_add-entry c).After-step_toward-here in omega (arith, n.rows, n.column)

pub overflow_cast-entry : goal.overflow_cast-entry
overflow_cast-entry c = let n = next_cell (goal.at.overflow_cast-entry c).After-step_toward-here in omega (arith, n.rows, n.column)

pub loop-entry-preserved : goal.loop-entry-preserved
loop-entry-preserved c =
    let p = c.step_toward-here.ensures.0 in
    let q = c.step_toward-here.ensures.1 in
    let l = c.loop-entry in
    let a = c.args in
    let long = part_long a.route.now a.first c.line_steps-n.result (omega arith) in
    let some : 0 < steps (at l.here.x l.here.y) (at a.to.x a.to.y) = omega (arith, long) in (
      next_cell (goal.at.loop-entry-preserved c).After-step_toward-here,
      omega (arith, code_steps p q some),
      rw (add-one l.entry-index) (code_filled p q some a.w l.entry-items l.entry-index c.line_steps-n.result (omega arith) (omega arith) ∙ l.invariant.2),
    )

pub returns : goal.returns
returns c =
    let l = c.loop-entry in
    line_put _ _ _ _ _ _ _ _ _ c.line_steps-n.ensures (omega arith) l.auto.entry-items l.invariant.1 c.loop-entry-test.false l.invariant.2
