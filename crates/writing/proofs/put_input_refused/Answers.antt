-- `writing::put_input_refused` meets its contract: a line of a text and a number. Assumes nothing.
use Rattle.writing.specs.Answers.{input_refused}
use Rattle.writing.proofs.put_input_refused.Goals as goal

pub put_line-requires : goal.put_line-requires
unfolding input_refused
put_line-requires c = c.requires

pub returns : goal.returns
unfolding input_refused
returns c = c.put_line.ensures
