-- `reading::is_row` meets its contract: where the newline stands, the bytes before it decide. Assumes nothing.
use mathlib.Core.Path.{◌≡◌, refl, sym, ap, ◌∙◌}
use lib.ListN.{take, drop}
use borrow.Author.Rules.{rules}
use Rattle.std.proofs.lemmas.List.{take_rest}
use Rattle.std.proofs.lemmas.Iterator.{cases_from_all, YieldsList-from_slice}
use Rattle.floor.proofs.Tables.{missing}
use Rattle.reading.specs.Maps.{Letter}
use Rattle.reading.proofs.Letters.{row_ended, row_tells}
use Rattle.reading.proofs.is_row.Goals as goal

pub returns-then-has : goal.returns-then-has
returns-then-has c =
    let a = c.args in
    let e = take_rest a.text.now a.at in
    row_tells a.text.now a.at a.w (rw e at (c.has.ensures.yes c.if-has.true)) (take a.w (drop a.at a.text.now)) refl c.all.result
    (cases_from_all _ _ _ Letter (λ b. ¬ (Letter b)) c.all.ensures.ran (YieldsList-from_slice _ (c.iter.ensures.rest ∙ ap (take a.w) e)) (λ x q k. search rules) (λ x q k. search rules))
