-- `writing::put_route` meets its contract. The loop's invariant: the cells passed have been written. Assumes nothing.
use lib.ListN.{take}
use Rattle.writing.specs.Growing.{Grown}
use Rattle.writing.specs.Answers.{cell_bytes}
use Rattle.writing.proofs.put_route.Given as goal

abbrev pub invariant-loop-cell : goal.invariant-loop-cell
invariant-loop-cell l = Grown l.initial.line l.line (cell_bytes (take l.cell-index l.route))
