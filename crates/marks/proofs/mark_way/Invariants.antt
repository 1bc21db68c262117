-- `marks::mark_way` meets its contract: the loop's invariant: the direction is marked for the cells met. Assumes nothing.
use Prim.Native.Nat.{◌-◌, ◌*◌, ◌%◌, ◌≤◌}
use mathlib.Core.Path.{◌≡◌}
use Rattle.floor.specs.Lent.{on}
use Rattle.marks.specs.Marking.{FromFirst, Marking}
use Rattle.marks.proofs.mark_way.Given as goal

abbrev pub invariant-loop-met : goal.invariant-loop-met
invariant-loop-met l =
    let g = l.floor.grid in
    record {
      few : l.met ≤ g.w * g.h;
      whole : FromFirst l.dir → l.met % g.w % 64 ≡ 0;
      marked : on Marking g l.dir l.met l.initial.clear l.clear;
    }

abbrev pub decreases-loop-met : goal.decreases-loop-met
decreases-loop-met l = l.floor.grid.w * l.floor.grid.h - l.met
