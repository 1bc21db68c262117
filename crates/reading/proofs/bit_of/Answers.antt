-- `reading::bit_of` meets its contract: the test is that of a free letter. Assumes nothing.
use Prim.Native.Nat.{◌<◌}
use mathlib.Core.Bool.{Bool, true, false, not}
use mathlib.Core.Path.{◌≡◌, refl, sym, ap, ◌∙◌}
use native.Mathlib.Omega.{arith}
use lib.Dec.{eqb}
use mir.Val.{bool_byte}
use Rattle.reading.proofs.Letters.{past_letters, in_letters}
use Rattle.reading.proofs.bit_of.Goals as goal

-- the number of a test that fails is 0 exactly where the test does not
bit : (b : Bool) → (bool_byte (not b) < 2) × (eqb (bool_byte (not b)) 0 ≡ b)
bit true = (omega arith, refl)
bit false = (omega arith, refl)

pub returns-in-Some : goal.returns-in-Some
returns-in-Some c =
    let at = c.in-Some.ensures.lookup.3 in
    let b = bit (eqb c.in-Some.letter.now 46) in
    rw c.from.ensures (b.0, b.1 ∙ ap (λ x. eqb x 46) (at.1 0) ∙ in_letters c.args.letters.now c.args.x at.0)

pub returns-in-None : goal.returns-in-None
returns-in-None c = (omega arith, past_letters _ _ _ c.in-None.ensures.lookup.3)
