-- `reading::read_number` meets its contract. The loop's invariant: the digits passed are the decimal of the value, which is at most
-- 999. A number that stood there would go on from them, which its first zero, its size, or what follows rules out. Assumes nothing.
use Prim.Native.Nat.{ℕ, ◌≤◌, ◌<◌}
use mathlib.Core.Path.{◌≡◌}
use native.Mathlib.Omega.{arith}
use Rattle.writing.specs.Numbers.{Digit}
use Rattle.reading.specs.Lines.{At, Ended, Has}
use Rattle.reading.proofs.Lines.{no_digit, goes_on, no_end, number_starts, number_more, number_ends}
use Rattle.reading.proofs.read_number.Goals as goal
use Rattle.reading.proofs.read_number.Goals.{In-Some}

pub returns-in_err-value : goal.returns-in_err-value
returns-in_err-value c =
    rw c.from_residual.ensures (no_digit c.args.text.now c.args.at c.args.end c.requires c.in_err-value.ensures)

pub loop-digit-init : goal.loop-digit-init
loop-digit-init c =
    let e = c.in_ok-value.ensures in
    (number_starts c.args.text.now c.args.at c.in_ok-value.value e.0.inside e.1 e.2, omega arith, omega (arith, e.0.inside))

-- a number that goes on is more than 0 and at most 99 so far
more : (c : In-Some) (n other : ℕ)
    → At (Ended n c.args.end) c.args.text.now c.args.at other
    → (0 < c.loop-digit.value) × (c.loop-digit.value ≤ 99)
more c = goes_on c.args.text.now c.args.at c.args.end c.requires c.loop-digit.next c.loop-digit.value c.loop-digit.invariant.0 c.in-Some.ensures.0

pub returns-then-value-eq0 : goal.returns-then-value-eq0
returns-then-value-eq0 c n other b = omega (arith, more (goal.at.returns-then-value-eq0 c).In-Some n other b)

pub returns-then-value : goal.returns-then-value
returns-then-value c n other b = omega (arith, more (goal.at.returns-then-value c).In-Some n other b)

pub loop-digit-preserved : goal.loop-digit-preserved
loop-digit-preserved c =
    let e = c.in-Some.ensures in (
      number_more c.args.text.now c.args.at c.loop-digit.next c.loop-digit.value c.in-Some.digit c.loop-digit.invariant.0
          (λ (none : c.loop-digit.value ≡ 0). omega arith) e.0.inside e.1 e.2,
      omega arith,
      omega (arith, e.0.inside),
    )

pub returns-then-has : goal.returns-then-has
returns-then-has c =
    number_ends c.args.text.now c.args.at c.args.end c.loop-digit.next c.loop-digit.value c.loop-digit.invariant.0 c.loop-digit.invariant.1
    (c.has.ensures.yes c.if-has.true)

pub returns-else-has : goal.returns-else-has
returns-else-has c =
    no_end c.args.text.now c.args.at c.args.end c.requires c.loop-digit.next c.loop-digit.value c.loop-digit.invariant.0
    c.in_default.ensures (c.has.ensures.no c.if-has.false)
