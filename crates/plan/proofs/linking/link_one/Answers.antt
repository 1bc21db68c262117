-- `plan::linking::link_one` meets its contract: the loop's invariant: what the fields swept show stands in its place. Assumes nothing.
use Rattle.plan.proofs.Fielding.{fielded_next, fielded_crowded, fielded_end}
use Rattle.plan.proofs.linking.link_one.Goals as goal

pub returns-in_err-end : goal.returns-in_err-end
returns-in_err-end c =
    rw c.from_residual.ensures
    (fielded_crowded _ _ _ _ _ _ _ _ _ c.loop-field.invariant c.loop-field-test.true c.link_field.new.list c.in_err-end.ensures)

pub loop-field-preserved : goal.loop-field-preserved
loop-field-preserved c = fielded_next _ _ _ _ _ _ _ _ _ c.loop-field.invariant c.loop-field-test.true _ _ c.in_ok-end.ensures

pub returns : goal.returns
returns c = fielded_end _ _ _ _ _ _ _ _ _ c.loop-field.invariant c.loop-field-test.false
