-- `floor::unused_clear` meets its contract: the rows are looked at up to the first that has a 0 past its cells. Assumes nothing.
use Rattle.std.proofs.Common.{◌-◌, refl, rules}
use borrow.Author.Tests.{tests}
use Rattle.std.proofs.lemmas.Iterator.{cases_from_any, YieldsList-from_range}
use Rattle.floor.specs.Words.{RestClear, row_of}
use Rattle.floor.proofs.Places.{is_row}
use Rattle.floor.proofs.Ranges.{tells_any}
use Rattle.floor.proofs.Rests.{row_clear, row_used}
use Rattle.floor.proofs.unused_clear.Goals as goal

pub returns : goal.returns
returns c =
    let g = c.args.grid.now in
    tells_any 0 g.h (λ y. RestClear g.w (row_of g.w g.words.now y)) (λ y. ¬ (RestClear g.w (row_of g.w g.words.now y)))
    (λ y p q e. row_clear _ _ _ y _ (is_row _ g.h y _ g.sized.counted q) q e)
    (λ n u. row_used _ g.h _ u.row _ (is_row _ g.h u.row _ g.sized.counted u.row_in) (n u.row (search rules) u.row_in) u.bit u.unused u.bit_in u.clear)
    c.any.result
    (cases_from_any _ _ _ (λ y. RestClear g.w (row_of g.w g.words.now y)) (λ y. ¬ (RestClear g.w (row_of g.w g.words.now y))) c.any.ensures.ran
    (YieldsList-from_range 0 g.h (g.h - 0) (search rules) refl)
    (λ x q k. search (rules, tests)) (λ x q k. search (rules, tests)))
