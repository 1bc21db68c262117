-- `reading::read_four` meets its contract: the laws of one form after another, at two pairs. Assumes nothing.
use native.Mathlib.Omega.{arith}
use Rattle.reading.proofs.Places.{at_then, no_first, no_second}
use Rattle.reading.proofs.Lines.{Paired, pair_once}
use Rattle.reading.proofs.read_four.Goals as goal

pub returns-in_err-start : goal.returns-in_err-start
returns-in_err-start c =
    rw c.from_residual.ensures
    (λ x y u v. no_first (Paired 32) (Paired 10) c.args.text.now c.args.at (λ p. c.in_err-start.ensures p.0 p.1) ((x, y), (u, v)))

pub returns-in_err-goal : goal.returns-in_err-goal
returns-in_err-goal c =
    let s = c.in_ok-start in
    rw c.from_residual-in_err-goal.ensures
    (λ x y u v. no_second (Paired 32) (Paired 10) (pair_once 32 (omega arith)) c.args.text.now c.args.at s.start.next (s.start.first, s.start.second)
    s.ensures (λ p. c.in_err-goal.ensures p.0 p.1) ((x, y), (u, v)))

pub returns : goal.returns
returns c = at_then c.args.text.now c.args.at c.in_ok-start.start.next c.in_ok-goal.goal.next c.in_ok-start.ensures c.in_ok-goal.ensures
