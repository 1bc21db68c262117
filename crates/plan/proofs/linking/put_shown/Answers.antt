-- `plan::linking::put_shown` meets its contract. Assumes nothing.
use Rattle.plan.proofs.linking.put_shown.Goals as goal

pub returns-in-Some : goal.returns-in-Some
returns-in-Some c = rw c.in-Some.is c.insert.ensures
