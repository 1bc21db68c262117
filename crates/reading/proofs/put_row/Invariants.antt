-- `reading::put_row` meets its contract. The loop's invariant: the words passed have the row's columns. Assumes nothing.
use Prim.Native.Nat.{ℕ, ◌*◌, ◌<◌}
use mathlib.Core.Path.{◌≡◌}
use lib.ListN.{length}
use Rattle.floor.specs.Words.{bit_free}
use Rattle.reading.specs.Maps.{free_letter}
use Rattle.reading.proofs.put_row.Given as goal

abbrev pub invariant-loop-i : goal.invariant-loop-i
invariant-loop-i l = (x : ℕ) → x < 64 * l.i → bit_free l.row x ≡ free_letter (length l.letters) l.letters x
