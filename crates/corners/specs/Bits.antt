-- The bits of a mask that are 1, as they are given one after another.
use Rattle.std.specs.Prelude.{ℕ, ◌+◌, ◌≤◌, ◌<◌, false, Option, MatchOption, ◌≡◌}
use Rattle.masks.specs.Masks.{bit_set}
use Rattle.corners.specs.Chunks.{NextBit}
use Rattle.corners.specs.declared.bits.SetBits.{SetBits}

-- the first n bits are still to be given
abbrev pub begun : ℕ → ℕ → SetBits
begun mask n = record { mask = mask; from = 0; end = n }

-- what is given next: none where each bit from `from` on is 0, below `end`; otherwise the first that is 1, and those after it are left
abbrev pub Given : SetBits → Option ℕ → SetBits → Type 0
Given s r t =
    MatchOption r ((k : ℕ) → s.from ≤ k → k < s.end → bit_set s.mask k ≡ false)
    (λ i. NextBit s.mask s.from i × (i < s.end) × (t ≡ record s { from = i + 1 }))
