-- `writing::Line::spaced` meets its contract: the text is one space. Assumes nothing.
use Rattle.writing.specs.Answers.{spaced}
use Rattle.writing.proofs.Line.spaced.Goals as goal

pub named-requires : goal.named-requires
unfolding spaced
named-requires c = c.requires

pub returns : goal.returns
unfolding spaced
returns c = c.named.ensures
