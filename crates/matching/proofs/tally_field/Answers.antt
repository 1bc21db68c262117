-- `matching::tally_field` meets its contract: the loop's invariant: what the rows passed show is listed and counted. Assumes nothing.
use Rattle.fields.proofs.Rowed.{rows_begin, row_passed, rows_on}
use Rattle.plan.proofs.Sweeping.{few_shown, none_passed}
use Rattle.matching.proofs.Tallying.{tallying_end, tallying_next, tallying_missing, tallied_room}
use Rattle.matching.proofs.tally_field.Goals as goal

pub loop-shown-init : goal.loop-shown-init
loop-shown-init c =
    rows_begin _ _ _ c.into_iter-shown-iterator.ensures.into_iter_gives c.rows-shown-items.ensures.same
    (λ o l. record { tallied = c.requires.before; sweep = none_passed o l })

pub tally_shown-requires : goal.tally_shown-requires
tally_shown-requires c =
    let i = c.loop-shown.invariant in
    record {
      rising = c.requires.rising;
      small = (
        few_shown _ _ c.args.floor.now.good.few_cells _ (row_passed i c.in-Some.ensures.steps).said,
        tallied_room _ _ _ _ _ c.requires.rising i.so.tallied,
      );
    }

pub returns-in_err-sum : goal.returns-in_err-sum
returns-in_err-sum c =
    let i = c.loop-shown.invariant in
    rw c.from_residual.ensures (tallying_missing _ _ _ _ _ i.so c.requires.ready.1 (row_passed i c.in-Some.ensures.steps) c.in_err-sum.ensures)

pub loop-shown-preserved : goal.loop-shown-preserved
loop-shown-preserved c =
    let i = c.loop-shown.invariant in
    let n = c.in-Some.ensures.steps in
    rows_on i n _ (tallying_next _ _ _ _ _ i.so c.requires.ready.1 (row_passed i n) _ c.in_ok-sum.ensures)

pub returns : goal.returns
returns c = tallying_end _ _ _ _ _ c.loop-shown.invariant.so c.in-None.ensures.steps
