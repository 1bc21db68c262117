-- `reading::word_of` meets its contract. The loop's invariant: the word has the bits from k on, and fits them. Assumes nothing.
use Prim.Native.Nat.{ℕ, ◌+◌, ◌-◌, ◌^◌, ◌<◌}
use mathlib.Core.Path.{◌≡◌}
use lib.ListN.{length}
use Rattle.floor.specs.Words.{bit_clear}
use Rattle.reading.specs.Maps.{free_letter}
use Rattle.reading.proofs.word_of.Given as goal

abbrev pub invariant-loop-k : goal.invariant-loop-k
invariant-loop-k l =
    (l.word < 2 ^ (64 - l.k))
    × ((i : ℕ) → i < 64 - l.k → bit_clear l.word i ≡ free_letter (length l.letters) l.letters (l.first + (l.k + i)))
