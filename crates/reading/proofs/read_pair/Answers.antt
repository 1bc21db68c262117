-- `reading::read_pair` meets its contract: the laws of one form after another, at two numbers. Assumes nothing.
use native.Mathlib.Omega.{arith}
use Rattle.reading.specs.Lines.{Ended}
use Rattle.reading.proofs.Places.{at_then, no_first, no_second}
use Rattle.reading.proofs.Lines.{number_once}
use Rattle.reading.proofs.read_pair.Goals as goal

pub returns-in_err-first : goal.returns-in_err-first
returns-in_err-first c =
    rw c.from_residual.ensures
    (λ a b. no_first (λ n. Ended n 32) (λ n. Ended n c.args.end) c.args.text.now c.args.at c.in_err-first.ensures (a, b))

pub returns-in_err-second : goal.returns-in_err-second
returns-in_err-second c =
    let f = c.in_ok-first in
    rw c.from_residual-in_err-second.ensures
    (λ a b. no_second (λ n. Ended n 32) (λ n. Ended n c.args.end) (number_once 32 (omega arith)) c.args.text.now c.args.at f.first.next f.first.value
    f.ensures c.in_err-second.ensures (a, b))

pub returns : goal.returns
returns c = at_then c.args.text.now c.args.at c.in_ok-first.first.next c.in_ok-second.second.next c.in_ok-first.ensures c.in_ok-second.ensures
