-- `plan::linking::link_field` meets its contract: the loop's invariant: what the rows passed show stands in its place. Assumes nothing.
use Rattle.std.proofs.Common.{◌∙◌, rules}
use Rattle.fields.proofs.Rowed.{rows_begin, row_passed, rows_on}
use Rattle.plan.proofs.Sweeping.{few_shown, none_passed, passed_all, swept_next, swept_crowded}
use Rattle.plan.proofs.linking.link_field.Goals as goal

pub loop-shown-init : goal.loop-shown-init
loop-shown-init c =
    rows_begin _ _ _ c.into_iter-shown-iterator.ensures.into_iter_gives c.rows-shown-items.ensures.same
    (λ o l. record { finding = c.requires.1.0; grown = search rules; sweep = none_passed o l })

pub put_shown-requires-clause-fits : goal.put_shown-requires-clause-fits
put_shown-requires-clause-fits c = few_shown _ _ c.args.floor.now.good.few_cells _ (row_passed c.loop-shown.invariant c.in-Some.ensures.steps).said

pub returns-in_err-end : goal.returns-in_err-end
returns-in_err-end c =
    let i = c.loop-shown.invariant in
    let s = i.so in
    let x = swept_crowded _ _ _ _ _ _ _ _ c.requires.1.1 _ _ _ _ s _ (row_passed i c.in-Some.ensures.steps) _ c.in_err-end.ensures in
    rw c.from_residual.ensures (rw s.grown.as_long at x, c.put_shown.auto.list ∙ s.grown.as_long)

pub loop-shown-preserved : goal.loop-shown-preserved
loop-shown-preserved c =
    let i = c.loop-shown.invariant in
    let n = c.in-Some.ensures.steps in
    rows_on i n _ (swept_next _ _ _ _ _ _ _ _ c.requires.1.1 _ _ _ _ i.so _ (row_passed i n) _ _ c.in_ok-end.ensures)

pub returns : goal.returns
returns c = let s = c.loop-shown.invariant.so in (s.grown, s.finding, passed_all s.sweep c.in-None.ensures.steps)
