-- What a binary search tells of an ascending list. Assumes nothing.
use Rattle.std.proofs.Common.{◌≡◌, ℕ, ◌≤◌, ◌<◌, Bool, List, length, get_or, Result, Ok, Err, ⊎_elim, subst, arith}
use Rattle.std.specs.List.Sorted.{IsBinarySearchResult}
use Rattle.std.specs.Ordering.{nat_cmp}
use Rattle.std.specs.Result.{is_ok}
use Rattle.std.proofs.lemmas.List.Sorted.{searched}
use Rattle.lengths.specs.Laws.{le_or_lt}
use Rattle.floor.specs.Refusals.{Tells}
use Rattle.floor.proofs.Tables.{found, missing}
use Rattle.plan.specs.Rising.{In, Rising}
use Rattle.plan.specs.Inserting.{Placed}
use Rattle.plan.proofs.Risings.{at_in, rising_later}
use Rattle.plan.proofs.Parts.{in_at}

-- no entry of an ascending list is above a later one
rising_le : (xs : List ℕ) → Rising xs → (i j : ℕ) → i ≤ j → j < length xs → get_or xs i 0 ≤ get_or xs j 0
rising_le xs r i j l m =
    ⊎_elim (λ (q : j ≤ i). let e : i ≡ j = omega arith in rw e (omega arith)) (λ (q : i < j). let h = rising_later xs r i j q m in omega arith) (le_or_lt j i)

module _ (xs : List ℕ) (t : ℕ) (rising : Rising xs) where
  -- the place where t stands, or the one where it belongs
  pub told : (r : Result ℕ ℕ) → IsBinarySearchResult (λ y. nat_cmp y t) xs r → Placed xs t r
  told r p = searched xs t r p (rising_le xs rising)

  -- t stands in the list exactly where it is found
  pub told_in : (r : Result ℕ ℕ) (b : Bool) → IsBinarySearchResult (λ y. nat_cmp y t) xs r → b ≡ is_ok r → Tells (In t xs) b
  told_in (Ok i) b p e =
      let h = told (Ok i) p in
      rw e (found (subst (λ (u : ℕ). In u xs) h.1 (at_in xs i h.0)))
  told_in (Err i) b p e =
      let h = told (Err i) p in
      rw e (missing (λ a.
      let (j, l, f) = in_at t xs a in
      ⊎_elim (λ (q : i ≤ j). omega (arith, h.2 j q l)) (λ (q : j < i). omega (arith, h.1 j q)) (le_or_lt i j)))
