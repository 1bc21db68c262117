-- What the library's tests of order tell. Assumes nothing.
use Rattle.std.proofs.Common.{◌≡◌, ℕ, suc, ◌+◌, ◌≤◌, ◌<◌, Bool, true, false, List, length, get_or, sym, arith}
use Rattle.std.specs.List.{IsAllAdjacentAnswer}
use Rattle.std.specs.Ordering.{is_some_and, is_le, nat_cmp}
use Rattle.std.specs.Prelude.{ltb, Some}
use Rattle.std.proofs.lemmas.List.Sorted.{non_decreasing_from_is_sorted}
use borrow.Author.Tests.{ltb-true, ltb-false}
use native.Mathlib.Numerals.{add-one}
use Rattle.floor.specs.Refusals.{Tells}
use Rattle.floor.proofs.Tables.{found, missing}
use Rattle.plan.specs.Rising.{Rising}
use Rattle.plan.proofs.Risings.{steps_rising, rising_later}

-- a list ascends where each entry is below the next
pub rising_told : (xs : List ℕ) (r : Bool) → IsAllAdjacentAnswer (λ x y b. b ≡ ltb x y) xs r → Tells (Rising xs) r
rising_told xs true p = found (steps_rising xs (λ i l. ltb-true _ _ (sym (rw add-one at (p i 0 (omega arith))))))
rising_told xs false (k, l, p) = missing (λ rising. omega (arith, rising_later xs rising k (k + 1) (omega arith) l, ltb-false _ _ (sym (p 0))))

-- no entry is above the next
pub steps_told : (xs : List ℕ) (r : Bool) → IsAllAdjacentAnswer (λ x y b. is_some_and is_le (Some (nat_cmp x y)) ≡ b) xs r →
    Tells ((k : ℕ) → suc k < length xs → get_or xs k 0 ≤ get_or xs (suc k) 0) r
steps_told xs true p = let q = non_decreasing_from_is_sorted xs true p in found (λ k l. q k (suc k) 0 (omega arith) l)
steps_told xs false p =
    let (k, l, q) = non_decreasing_from_is_sorted xs false p in
    missing (λ f. let z = f k (omega arith) in omega (arith, rw add-one at (q 0)))
