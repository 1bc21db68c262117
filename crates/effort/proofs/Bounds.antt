-- There is one effort of a trip, and it is at most two more than the number of turning points.
-- Assumes nothing.
use Prim.Native.Nat.{ℕ, zero, suc, ◌+◌, ◌*◌, ◌≤◌}
use mathlib.Core.Path.{◌≡◌, subst}
use mathlib.Core.Bool.{true}
use mathlib.Core.List.{List}
use mathlib.Core.Logic.{◌⊎◌, inl, inr, ⊎_elim}
use native.Mathlib.Decide.{ℕ_discrete}
use native.Mathlib.Omega.{arith}
use Rattle.lengths.specs.Lengths.{Len}
use Rattle.floor.specs.Board.{corner}
use Rattle.floor.specs.Words.{board, place_of}
use Rattle.ground.proofs.Walks.{shortest_unique}
use Rattle.settling.specs.Counts.{Counts, empty, with, without, below}
use Rattle.settling.proofs.Tally.{counts_unique, counts_fewer}
use Rattle.effort.specs.Effort.{PlaceCell, NoFarther, EffortFound, EffortLost}

-- a count of the numbers below n that are a or have a property, next to a count k of those that have it
record OneMore (Q : ℕ → Type 0) (a n k : ℕ) : Type 0 where
  count : ℕ
  counted : Counts (λ x. Q x ⊎ (x ≡ a)) (below n) count
  at_most : count ≤ k + 1
  not_yet : n ≤ a → count ≤ k

-- one number more that counts adds at most one
one_more : {Q : ℕ → Type 0} (a n : ℕ) {k : ℕ} → Counts Q (below n) k → OneMore Q a n k
one_more a zero empty = record { count = 0; counted = empty; at_most = omega arith; not_yet = λ l. omega arith }
one_more {Q} a (suc n) (with {n = k} q c) =
    let r = one_more a n c in
    record {
      count = suc r.count;
      counted = with (inl q) r.counted;
      at_most = omega (arith, r.at_most);
      not_yet = λ l. omega (arith, r.not_yet (omega arith));
    }
one_more {Q} a (suc n) {k} (without q c) = by (ℕ_discrete n a) (one_more a n c)
  where
    by : Dec (n ≡ a) → OneMore Q a n k → OneMore Q a (suc n) k
    by (yes e) r =
        record {
          count = suc r.count;
          counted = with (inr e) r.counted;
          at_most = omega (arith, r.not_yet (omega arith));
          not_yet = λ l. absurd (omega arith);
        }
    by (no e) r =
        record { count = r.count; counted = without (⊎_elim q e) r.counted; at_most = r.at_most; not_yet = λ l. r.not_yet (omega arith) }

-- two numbers more add at most two
pub two_more :
    {P Q : ℕ → Type 0} (a b n : ℕ) {m k : ℕ} → ((x : ℕ) → P x → Q x ⊎ ((x ≡ a) ⊎ (x ≡ b))) →
    Counts P (below n) m →
    Counts Q (below n) k →
    m ≤ k + 2
two_more {P} {Q} a b n {m} {k} each p q =
    let r = one_more a n q in
    let s = one_more b n r.counted in
    let l : m ≤ s.count = counts_fewer (λ x i. ⊎_elim (λ j. inl (inl j)) (⊎_elim (λ j. inl (inr j)) inr) (each x i)) p s.counted in
    omega (arith, r.at_most, s.at_most)

module _ (w h : ℕ) (words : List ℕ) (start goal : ℕ) where
  -- Where a walk leads to the goal there is one effort.
  pub found_unique : {d e : ℕ} → EffortFound w h words start goal d → EffortFound w h words start goal e → d ≡ e
  found_unique {d} {e} p q =
      counts_unique
      (subst (λ (l : Len). Counts (λ c. PlaceCell w h words start goal c × NoFarther w h words start goal l c) (below (w * h)) d)
      (shortest_unique p.shortest q.shortest) p.counted)
      q.counted

  -- Where none does there is one.
  pub lost_unique : {d e : ℕ} → EffortLost w h words start goal d → EffortLost w h words start goal e → d ≡ e
  lost_unique p q = counts_unique p.counted q.counted

  -- The two exclude each other.
  pub found_not_lost : {d e : ℕ} → EffortFound w h words start goal d → EffortLost w h words start goal e → ⊥
  found_not_lost p q = let (ds, a, e) = p.shortest.some in q.none ds a

  module _ {k : ℕ} (turning : Counts (λ c. corner (board w h words) (place_of w c) ≡ true) (below (w * h)) k) where
    -- An effort is at most two more than the number of turning points: where a walk leads to the goal
    pub found_bound : {e : ℕ} → EffortFound w h words start goal e → e ≤ k + 2
    found_bound p = two_more start goal (w * h) (λ c i. i.0.one_of) p.counted turning

    -- and where none does
    pub lost_bound : {e : ℕ} → EffortLost w h words start goal e → e ≤ k + 2
    lost_bound p = two_more start goal (w * h) (λ c i. i.0.one_of) p.counted turning
