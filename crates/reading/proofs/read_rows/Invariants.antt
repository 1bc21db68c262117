-- `reading::read_rows` meets its contract. The loop's invariant: the rows passed fit, and stand in the words. Assumes nothing.
use Prim.Native.Nat.{◌≤◌}
use mathlib.Core.Path.{◌≡◌}
use lib.ListN.{length}
use Rattle.reading.specs.Maps.{row_place, Filled}
use Rattle.reading.proofs.read_rows.Given as goal

abbrev pub invariant-loop-row : goal.invariant-loop-row
invariant-loop-row l = (l.at ≡ row_place l.from l.w l.row) × (l.at ≤ length l.text) × Filled l.text l.from l.w l.row l.initial.floor l.floor
