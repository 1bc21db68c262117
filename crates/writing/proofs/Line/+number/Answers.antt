-- `writing::Line::number` meets its contract: the digits before the last, then the last. Assumes nothing.
use Prim.Native.Nat.{ℕ, ◌+◌, ◌/◌, ◌%◌, ◌≤◌}
use mathlib.Core.List.{[], ◌∷◌}
use mathlib.Core.Path.{◌≡◌, sym, ap, ◌∙◌}
use native.Mathlib.Omega.{arith}
use lib.ListN.{length, length-append}
use Rattle.writing.specs.Numbers.{decimal}
use Rattle.writing.proofs.Decimals.{some_digit, decimal_is}
use Rattle.writing.proofs.Puts.{grown_then, grown_same, decimal_one, decimal_more}
use Rattle.writing.proofs.Line.+number.Goals as goal

-- a number of two digits or more has one digit more than its tenth
longer : (n : ℕ) → 10 ≤ n → length (decimal n) ≡ length (decimal (n / 10)) + 1
longer n l = ap length (sym (decimal_more n l)) ∙ length-append (decimal (n / 10)) ((48 + n % 10) ∷ [])

pub digit-requires : goal.digit-requires
digit-requires t c = (c.if-number-lt10.true, omega (arith, c.requires, some_digit (decimal_is c.args.number)))

pub returns-then-number-lt10 : goal.returns-then-number-lt10
returns-then-number-lt10 t c = grown_same (decimal_one c.args.number c.if-number-lt10.true) c.digit.ensures

pub number-requires : goal.number-requires
number-requires t c = (
  omega (arith, c.decreases, c.if-number-lt10.false),
  omega (arith, c.requires, longer c.args.number c.if-number-lt10.false),
)

pub digit-requires-2 : goal.digit-requires-2
digit-requires-2 t c =
    (omega arith, omega (arith, c.requires, longer c.args.number c.if-number-lt10.false, c.number.ensures.put.ends, c.number.ensures.long))

pub returns : goal.returns
returns t c =
    grown_same
    (decimal_more c.args.number c.if-number-lt10.false)
    (grown_then (omega (arith, c.requires)) c.number.ensures c.digit-2.ensures)
