-- `ends::flags::flag_listed`: the loop's invariant: the corners passed have their flags.
use Rattle.std.proofs.Common.{ℕ, ◌+◌, ◌<◌, length, get_or}
use Rattle.plan.specs.Rising.{In}
use Rattle.places.specs.Places.{index_of}
use Rattle.ends.specs.Flags.{Flag, Flagging}
use Rattle.ends.proofs.flags.flag_listed.Given as goal

abbrev pub invariant-loop-cell : goal.invariant-loop-cell
invariant-loop-cell l =
    record {
      flagging : Flagging (λ t. In t l.found) l.corners (length l.corners + 2) l.column l.initial.work l.work;
      passed : (j : ℕ) → j < l.cell-index → Flag (length l.corners + 2) l.column l.work (index_of l.corners (get_or l.found j 0));
    }
