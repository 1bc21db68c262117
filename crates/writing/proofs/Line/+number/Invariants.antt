-- `writing::Line::number` ends: the measure is the number. Assumes nothing.
use Rattle.writing.proofs.Line.+number.Given as goal

abbrev pub decreases-number : goal.decreases-number
decreases-number l = l.number
