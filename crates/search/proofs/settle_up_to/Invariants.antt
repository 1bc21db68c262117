-- `search::settle_up_to` meets its contract: `Running` holds between the turns. Assumes nothing.
use Rattle.places.specs.Roads.{on}
use Rattle.search.proofs.Running.{Running}
use Rattle.search.proofs.settle_up_to.Given as goal

abbrev pub invariant-loop : goal.invariant-loop
invariant-loop l = on Running l.roads l.initial.work l.initial.tree l.budget l.work l.tree l.counter
