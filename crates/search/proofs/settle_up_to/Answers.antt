-- `search::settle_up_to` meets its contract: `Running` holds between the turns. Assumes nothing.
use native.Mathlib.Omega.{arith}
use mathlib.Core.Path.{◌∙◌}
use borrow.Author.Tests.{lt-ltb, le-ltb}
use Rattle.places.proofs.Cells.{none_of, some_of}
use Rattle.search.proofs.Running.{running_first, running_ready, running_near, running_step, run_found, run_lost, run_used}
use Rattle.search.proofs.settle_up_to.Goals as goal

pub loop-init : goal.loop-init
loop-init c = running_first c.requires.ready _ c.requires.right c.requires.begun

pub settle-requires-clause-near : goal.settle-requires-clause-near
settle-requires-clause-near c = running_near c.requires.ready c.loop.invariant c.requires.bounded

pub returns-then-get-gt0 : goal.returns-then-get-gt0
returns-then-get-gt0 c = (_, run_found c.requires.ready c.loop.invariant (lt-ltb 0 _ (rw c.get.ensures at c.if-get-gt0.true)))

pub returns-then-is_none : goal.returns-then-is_none
returns-then-is_none c =
    let none = c.settle.ensures.none (none_of _ c.if-is_none.ensures) in
    (c.loop.counter, rw none.0 (run_lost c.requires.ready c.loop.invariant none.1))

pub loop-preserved : goal.loop-preserved
loop-preserved c =
    running_step c.requires.ready c.loop.invariant (le-ltb 0 _ (rw c.get.ensures at c.if-get-gt0.false)) (omega arith) (some_of _ c.if-is_none.ensures).1 c.settle.ensures

pub returns : goal.returns
returns c = (_, run_used c.requires.ready c.loop.invariant (omega arith))
