-- `query::refusing::check_plan` meets its contract: a refused floor's number is the query's. Assumes nothing.
use Rattle.std.proofs.Common.{arith}
use Rattle.std.proofs.lemmas.Grind.{common_steps}
use Rattle.plan.specs.Lent.{lists_of}
use Rattle.query.proofs.Early.{floor_refused}
use Rattle.floor.proofs.Numbers.{some_number}
use Rattle.query.proofs.refusing.check_plan.Goals as goal

pub returns-in_err-floor-clause-code : goal.returns-in_err-floor-clause-code
returns-in_err-floor-clause-code c =
    let j = floor_refused _ _ _ (lists_of c.args.plan.now) _ c.in_err-floor.ensures.code (some_number _) in
    grind (arith, common_steps)
