-- `reading::read_number` meets its contract. The loop's invariant: the digits passed are the decimal of the value, which is at most
-- 999. A number that stood there would go on from them, which its first zero, its size, or what follows rules out. Assumes nothing.
use Prim.Native.Nat.{◌-◌, ◌≤◌}
use lib.ListN.{length}
use Rattle.writing.specs.Numbers.{Decimal}
use Rattle.reading.specs.Lines.{At}
use Rattle.reading.proofs.read_number.Given as goal

abbrev pub invariant-loop-digit : goal.invariant-loop-digit
invariant-loop-digit l = At (Decimal l.value) l.text l.at l.next × (l.value ≤ 999) × (l.next ≤ length l.text)

abbrev pub decreases-loop-digit : goal.decreases-loop-digit
decreases-loop-digit l = length l.text - l.next
