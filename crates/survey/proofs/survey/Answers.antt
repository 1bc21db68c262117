-- `survey::survey` meets its contract: a refusal is told by its number. Assumes nothing.
use Rattle.survey.proofs.survey.Goals as goal

pub returns-in-Err : goal.returns-in-Err
returns-in-Err c = rw c.refused.ensures c.in-Err.ensures
