-- `matching::row_matches` meets its contract: the loop's invariant: what the fields passed show is listed and counted. Assumes nothing.
use Rattle.std.proofs.Common.{◌≡◌, sym, arith}
use borrow.Author.Tests.{eqb-true, eqb-false}
use Rattle.floor.proofs.Tables.{missing}
use Rattle.matching.proofs.Matched.{unlisted_wrong, right_rising, counted_right, right_counted}
use Rattle.matching.proofs.row_matches.Goals as goal

pub returns-then-not-rises : goal.returns-then-not-rises
returns-then-not-rises c = missing (λ right. c.rises.ensures.no c.if-not-rises.true (right_rising _ _ _ _ c.requires.ready.1 _ right))

pub returns-in_default : goal.returns-in_default
returns-in_default c = missing (unlisted_wrong _ _ _ _ c.requires.ready.1 _ c.in_default.ensures)

pub returns : goal.returns
returns c =
    let last : c.loop-field.field ≡ 8 = omega arith in
    let all = rw last at c.loop-field.invariant in
    let rising = c.rises.ensures.yes c.if-not-rises.false in
    record {
      yes = λ z. counted_right _ _ _ _ c.requires.ready.1 _ rising all (sym (eqb-true _ _ z));
      no = λ z right. eqb-false _ _ z (sym (right_counted _ _ _ _ c.requires.ready.1 _ rising all right));
    }
