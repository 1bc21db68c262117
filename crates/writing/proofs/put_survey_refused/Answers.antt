-- `writing::put_survey_refused` meets its contract: a line of a text and a number. Assumes nothing.
use Rattle.writing.specs.Answers.{survey_refused}
use Rattle.writing.proofs.put_survey_refused.Goals as goal

pub put_line-requires : goal.put_line-requires
unfolding survey_refused
put_line-requires c = c.requires

pub returns : goal.returns
unfolding survey_refused
returns c = c.put_line.ensures
