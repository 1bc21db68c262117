-- `floor::rest_clear` meets its contract: the bits past the cells are looked at up to the first that is 0. Assumes nothing.
use Rattle.std.proofs.Common.{◌≡◌, ◌*◌, ◌-◌, true, false, true≢false, length, refl, sym, ◌∙◌, rules}
use borrow.Author.Tests.{tests}
use Rattle.std.proofs.lemmas.Iterator.{cases_from_any, YieldsList-from_range}
use Rattle.floor.specs.Words.{bit_free}
use Rattle.floor.proofs.Ranges.{tells_any}
use Rattle.floor.proofs.rest_clear.Goals as goal

pub returns : goal.returns
returns c =
    let w = c.args.w in
    let row = c.args.row.now in
    tells_any w (64 * length row) (λ x. bit_free row x ≡ true) (λ x. bit_free row x ≡ false)
    (λ x p q e. record { bit = x; unused = p; bit_in = q; clear = e })
    (λ n r. true≢false (sym r.clear ∙ n r.bit r.unused r.bit_in))
    c.any.result
    (cases_from_any _ _ _ (λ x. bit_free row x ≡ true) (λ x. bit_free row x ≡ false) c.any.ensures.ran
    (YieldsList-from_range w (64 * length row) (64 * length row - w) (search rules) refl)
    (λ x q k. search (rules, tests)) (λ x q k. search (rules, tests)))
