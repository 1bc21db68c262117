-- `chain::lesser` meets its contract. Assumes nothing.
use mathlib.Core.Path.{refl, sym, ◌∙◌}
use mathlib.Core.Logic.{inl, inr}
use native.Mathlib.Nat.{le_refl}
use native.Mathlib.Omega.{arith}
use Rattle.places.proofs.Cells.{some_one}
use Rattle.chain.proofs.lesser.Goals as goal

pub returns-in_default : goal.returns-in_default
returns-in_default c = record { one_of = inr refl; first = λ x h. absurd (c.in_default.not-Some x h); second = le_refl _ }

pub returns-then-q-p : goal.returns-then-q-p
returns-then-q-p c = record {
  one_of = inr refl;
  first = λ x h. rw (← some_one (sym c.in-Some.is ∙ h)) (let p = c.cell_of-p.ensures in let q = c.cell_of-q.ensures in omega arith);
  second = le_refl _;
}

pub returns-else-q-p : goal.returns-else-q-p
returns-else-q-p c = record {
  one_of = inl c.in-Some.is;
  first = λ x h. rw (some_one (sym c.in-Some.is ∙ h)) (le_refl _);
  second = let p = c.cell_of-p.ensures in let q = c.cell_of-q.ensures in omega arith;
}
