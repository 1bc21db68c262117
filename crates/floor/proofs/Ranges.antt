-- What a test of the numbers from a up to b tells, where it stops at the first that passes. Assumes nothing.
use Rattle.std.proofs.Common.{◌≡◌, ℕ, ◌+◌, ◌-◌, ◌<◌, ◌≤◌, Bool, true, false, length, subst, ◌∙◌, arith}
use Rattle.std.specs.Bool.{MatchBool}
use Rattle.std.specs.List.{range_with_len, AllWithin, HoldsAt}
use Rattle.std.proofs.lemmas.List.FromFn.{length-range_with_len, get_or-range_with_len}
use Rattle.floor.specs.Refusals.{Tells}
use Rattle.floor.proofs.Tables.{found, missing}

module _ (a b : ℕ) {P : Type 0} (Yes No : ℕ → Type 0)
    (here : (x : ℕ) → a ≤ x → x < b → Yes x → P) (nowhere : ((x : ℕ) → a ≤ x → x < b → No x) → ¬ P) where
  -- one that passes tells that P holds, and where none does it fails
  pub tells_any : (r : Bool) →
      let all = range_with_len a (b - a) in
      MatchBool r ((k : ℕ) × (k < length all) × HoldsAt Yes all k) (AllWithin No all 0 (length all)) → Tells P r
  tells_any true m =
      let l : m.0 < b - a = rw length-range_with_len at m.1 in
      let y : Yes (a + m.0) = subst Yes (get_or-range_with_len a (b - a) m.0 0 l) (m.2 0) in
      found (here (a + m.0) (omega arith) (omega arith) y)
  tells_any false m = missing (nowhere (λ x p q.
      let l : x - a < b - a = omega arith in
      let e : a + (x - a) ≡ x = omega arith in
      subst No (get_or-range_with_len a (b - a) (x - a) 0 l ∙ e) (m (x - a) 0 (omega arith) (rw length-range_with_len l))))
