-- `line::line_legal` meets its contract: the loop's invariant: the steps so far are legal and the rest is the direct line from
-- the present cell. Assumes nothing.
use Rattle.std.proofs.Common.{◌<◌, arith}
use Rattle.floor.specs.Board.{at}
use Rattle.floor.proofs.Tables.{found, missing}
use Rattle.line.specs.Cells.{steps}
use Rattle.line.proofs.Runs.{nearer_below, rest_none, rest_stops, code_steps, code_rest, code_judged}
use Rattle.line.proofs.line_legal.Goals as goal

pub loop-preserved : goal.loop-preserved
loop-preserved c =
    let p = c.step_toward-here.ensures.0 in
    let q = c.step_toward-here.ensures.1 in
    let l = c.loop in
    let a = c.args in
    let some : 0 < steps (at l.here.x l.here.y) (at a.to.x a.to.y) = omega arith in (
      (nearer_below _ p l.invariant.0.0 c.requires.1.0, nearer_below _ q l.invariant.0.1 c.requires.1.1),
      omega (arith, code_steps p q some),
      code_rest p q some _ _ l.invariant.2
          (code_judged _ (at l.here.x l.here.y) (at a.to.x a.to.y) c.heading.result _ _ c.heading.ensures.1 c.step_at.ensures c.if-not-step_at.false),
    )

pub returns-then-not-step_at : goal.returns-then-not-step_at
returns-then-not-step_at c =
    let l = c.loop in
    let a = c.args in
    let some : 0 < steps (at l.here.x l.here.y) (at a.to.x a.to.y) = omega arith in
    missing (rest_stops _ _ _ _ l.invariant.2 some
    (code_judged _ (at l.here.x l.here.y) (at a.to.x a.to.y) c.heading.result _ _ c.heading.ensures.1 c.step_at.ensures c.if-not-step_at.true))

pub returns : goal.returns
returns c = found (rest_none _ _ _ _ c.loop.invariant.2 (omega arith))
