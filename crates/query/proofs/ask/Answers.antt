-- `query::ask` meets its contract: the refusals 9 to 11 in their order, and else the answer. Assumes nothing.
use Rattle.floor.proofs.Accepted.{rows_pass}
use Rattle.query.proofs.Early.{own_plan, ready}
use Rattle.floor.proofs.Numbers.{some_number}
use Rattle.query.proofs.Deciding.{by_ends, by_answer}
use Rattle.query.proofs.ask.Goals as goal

pub answer-requires : goal.answer-requires
answer-requires c = ready _ (own_plan _ _ _ _ (rows_pass _ _ _ c.args.floor.now.good) c.requires) c.in-Ok.ensures

pub returns-in-Ok : goal.returns-in-Ok
returns-in-Ok c = by_answer _ _ _ _ (own_plan _ _ _ _ (rows_pass _ _ _ c.args.floor.now.good) c.requires) c.in-Ok.ensures c.answer.ensures

pub returns-in-Err : goal.returns-in-Err
returns-in-Err c =
    by_ends _ _ _ (own_plan _ _ _ _ (rows_pass _ _ _ c.args.floor.now.good) c.requires) c.in-Err.ensures (some_number _) c.refused.ensures
