-- `reading::word_of` meets its contract. The loop's invariant: the word has the bits from k on, and fits them. Assumes nothing.
use Prim.Native.Nat.{ℕ, suc, ◌+◌, ◌-◌, ◌*◌, ◌^◌, ◌<◌, ◌≤◌}
use mathlib.Core.Bool.{Bool}
use mathlib.Core.Path.{◌≡◌, ap, ◌∙◌}
use native.Mathlib.Nat.{pow-suc}
use native.Mathlib.Omega.{arith}
use lib.ListN.{length}
use Rattle.reading.specs.Maps.{free_letter}
use Rattle.reading.proofs.Bits.{bits_more}
use Rattle.reading.proofs.word_of.Goals as goal

pub loop-k-preserved : goal.loop-k-preserved
loop-k-preserved c =
    let a = c.args in
    let k = c.loop-k.k in
    let f : ℕ → Bool = λ x. free_letter (length a.letters.now) a.letters.now (a.first + x) in
    let b = c.bit_of.ensures in
    let inv = c.loop-k.invariant in
    let e : 64 - (k - 1) ≡ suc (64 - k) = omega arith in
    let p : 2 ^ (64 - (k - 1)) ≡ 2 ^ (64 - k) * 2 = ap (λ j. 2 ^ j) e ∙ pow-suc 2 (64 - k) in (
      omega (arith, inv.0),
      λ i m. bits_more f c.loop-k.word c.bit_of.result (k - 1) (64 - k) b.0 b.1 (λ j n. inv.1 j n ∙ ap f (omega arith)) i (omega arith),
    )
