-- What stands in a list, and in a part of it, by the places of its entries. Assumes nothing.
use Prim.Native.Nat.{ℕ, suc, ◌+◌, ◌-◌, ◌≤◌, ◌<◌}
use mathlib.Core.List.{List, [], ◌∷◌}
use mathlib.Core.Logic.{inl, inr}
use mathlib.Core.Path.{◌≡◌, sym, ◌∙◌, ap, subst}
use native.Mathlib.Omega.{arith}
use lib.ListN.{length, get_or}
use Rattle.corners.specs.Lists.{part}
use Rattle.plan.specs.Rising.{In}
use Rattle.plan.proofs.Risings.{at_in}
use Rattle.plan.proofs.Insertions.{part_length, part_at}

-- what stands in the list is an entry
pub in_at : (t : ℕ) (xs : List ℕ) → In t xs → (i : ℕ) × (i < length xs) × (get_or xs i 0 ≡ t)
in_at t [] i = absurd i
in_at t (x ∷ xs) (inl e) = (0, omega arith, sym e)
in_at t (x ∷ xs) (inr i) = let (j, l, e) = in_at t xs i in (suc j, omega arith, e)

module _ (list : List ℕ) (from to : ℕ) (l : from ≤ to) (m : to ≤ length list) where
  -- each entry of its places stands in the part
  pub part_in : (j : ℕ) → from ≤ j → j < to → In (get_or list j 0) (part list from to)
  part_in j a b =
      let back : from + (j - from) ≡ j = omega arith in
      subst (λ (t : ℕ). In t (part list from to)) (part_at list from to l m (j - from) (omega arith) ∙ ap (λ (n : ℕ). get_or list n 0) back)
      (at_in (part list from to) (j - from) (rw (part_length list from to l m) (omega arith)))

  -- what stands in the part is an entry of its places
  pub in_part : (t : ℕ) → In t (part list from to) → (j : ℕ) × (from ≤ j) × (j < to) × (get_or list j 0 ≡ t)
  in_part t i =
      let (j, b, e) = in_at t (part list from to) i in
      let c : j < to - from = rw (part_length list from to l m) at b in
      (from + j, omega arith, omega arith, sym (part_at list from to l m j c) ∙ e)
