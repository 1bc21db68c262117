-- `places::flagged` meets its contract. Assumes nothing.
use Rattle.std.specs.Prelude.{◌≡◌, Bool, true, false, cond, Some, None}
use Rattle.std.proofs.Common.{refl}
use Rattle.std.specs.Bool.{then_some}
use Rattle.places.specs.Chart.{flagged}
use Rattle.places.proofs.flagged.Goals as goal

then_cond : {A : Type 0} (b : Bool) (x : A) → then_some b x ≡ cond b (Some x) None
then_cond true x = refl
then_cond false x = refl

pub returns : goal.returns
unfolding flagged
returns c = let e = c.then_some.ensures in rw (e, then_cond, c.get.ensures)
