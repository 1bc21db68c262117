-- `query::query` meets its contract: the refusals of floor and plan in their order, and else what is asked. Assumes nothing.
use Rattle.floor.proofs.Numbers.{some_number}
use Rattle.query.proofs.Deciding.{by_plan}
use Rattle.query.proofs.query.Goals as goal

pub returns-in-Err : goal.returns-in-Err
returns-in-Err c = by_plan _ _ _ c.in-Err.ensures.code (some_number _) c.refused.ensures
