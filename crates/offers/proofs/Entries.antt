-- What offers make of entries.
-- Assumes nothing.
use mathlib.Core.Path.{◌≡◌, refl, sym, ◌∙◌}
use mathlib.Core.Logic.{◌⊎◌, inl, inr, ⊎_elim}
use mathlib.Core.List.{List}
use Prim.Native.Nat.{ℕ, ◌+◌, ◌≤◌, ◌<◌}
use native.Mathlib.Omega.{arith}
use native.Mathlib.Nat.{le_refl, le_trans}
use native.Mathlib.Decide.{ℕ_discrete, dec_lt}
use borrow.Author.Tests.{lt-ltb, le-ltb}
use lib.ListN.{length, get_or, set}
use lib.Seq.{get_or-set_same, get_or-set_other}
use Rattle.std.specs.Prelude.{Some, None}
use Rattle.places.specs.Chart.{Chart, link_at, net}
use Rattle.places.proofs.Cells.{some_one, none_some}
use Rattle.offers.specs.Offers.{lowered, Offered}

-- What an offer makes of an entry: there is one, it is at most the offer and at most what it was, and is one of the two.
pub record Lowered (old new r : ℕ) : Type 0 where
  pub some : 0 < r
  pub offer : r ≤ new
  pub kept : 0 < old → r ≤ old
  pub one : (r ≡ old) ⊎ (r ≡ new)

-- The lower of two entries is such a one.
pub lowered_is : (old new : ℕ) → 0 < new → Lowered old new (lowered old new)
lowered_is old new pos = go (dec_lt 0 old) (dec_lt new old)
  where
    go : Dec (0 < old) → Dec (new < old) → Lowered old new (lowered old new)
    go (yes l) (yes m) = rw (lt-ltb 0 old l) (record { some = omega arith; offer = omega arith; kept = λ h. omega arith; one = inr (omega arith) })
    go (yes l) (no m) = rw (lt-ltb 0 old l) (record { some = omega arith; offer = omega arith; kept = λ h. omega arith; one = inl (omega arith) })
    go (no l) m = rw (le-ltb 0 old (omega arith)) (record { some = pos; offer = le_refl new; kept = λ h. absurd (omega arith); one = inr refl })

module _ (𝓒 : Chart) (u d : ℕ) (D : List ℕ) where
  -- Nothing has been offered.
  pub offered_none : Offered 𝓒 u d 0 D D
  offered_none = record { from = λ v. inl refl; kept = λ v h. (h, le_refl _); offered = λ j v h. absurd (omega arith) }

  module _ (D' : List ℕ) (k : ℕ) (o : Offered 𝓒 u d k D D') where
    -- A link that leads nowhere offers nothing.
    pub offered_skip : link_at 𝓒 u k ≡ None → Offered 𝓒 u d (k + 1) D D'
    offered_skip z = record {
      from = λ v. ⊎_elim inl (λ t. inr (t.0, omega arith, t.2, t.3)) (o.from v);
      kept = o.kept;
      offered = λ j v h q. go j v h q (ℕ_discrete j k);
    }
      where
        go : (j v : ℕ) → j < k + 1 → link_at 𝓒 u j ≡ Some v → Dec (j ≡ k) → (0 < get_or D' v 0) × (get_or D' v 0 ≤ d + (net 𝓒).weight u v)
        go j v h q (yes e) = absurd (none_some (sym z ∙ rw e at q))
        go j v h q (no n) = o.offered j v (omega arith) q

    -- A link that leads to x offers x the way by u.
    module _ (x : ℕ) (leads : link_at 𝓒 u k ≡ Some x) (inside : x < length D') (pos : 0 < d) where
      -- the entries after the offer
      abbrev D'' : List ℕ
      D'' = set D' x (lowered (get_or D' x 0) (d + (net 𝓒).weight u x))

      -- At x the entry is lowered.
      here : Lowered (get_or D' x 0) (d + (net 𝓒).weight u x) (get_or D'' x 0)
      here = rw (get_or-set_same D' x (lowered (get_or D' x 0) (d + (net 𝓒).weight u x)) 0 inside) (lowered_is (get_or D' x 0) (d + (net 𝓒).weight u x) (omega arith))

      -- Elsewhere it stays.
      elsewhere : (v : ℕ) → (v ≡ x → ⊥) → get_or D'' v 0 ≡ get_or D' v 0
      elsewhere v n = get_or-set_other D' x v _ 0 n

      -- No entry is lost or grows.
      less : (v : ℕ) → 0 < get_or D' v 0 → (0 < get_or D'' v 0) × (get_or D'' v 0 ≤ get_or D' v 0)
      less v h = go (ℕ_discrete v x)
        where
          go : Dec (v ≡ x) → (0 < get_or D'' v 0) × (get_or D'' v 0 ≤ get_or D' v 0)
          go (yes e) = rw e (here.some, here.kept (rw e at h))
          go (no n) = rw (elsewhere v n) (h, le_refl _)

      -- An entry stays or is the offer.
      changed : (v : ℕ) → (get_or D'' v 0 ≡ get_or D' v 0) ⊎ ((link_at 𝓒 u k ≡ Some v) × (get_or D'' v 0 ≡ d + (net 𝓒).weight u v))
      changed v = go (ℕ_discrete v x)
        where
          go : Dec (v ≡ x) → (get_or D'' v 0 ≡ get_or D' v 0) ⊎ ((link_at 𝓒 u k ≡ Some v) × (get_or D'' v 0 ≡ d + (net 𝓒).weight u v))
          go (yes e) = rw e (⊎_elim inl (λ q. inr (leads, q)) here.one)
          go (no n) = inl (elsewhere v n)

      -- One link more has been followed.
      pub offered_more : Offered 𝓒 u d (k + 1) D (set D' x (lowered (get_or D' x 0) (d + (net 𝓒).weight u x)))
      offered_more = record {
        from = λ v.
            ⊎_elim
            (λ s. ⊎_elim (λ t. inl (s ∙ t)) (λ t. inr (t.0, omega arith, t.2, s ∙ t.3)) (o.from v))
            (λ s. inr (k, omega arith, s.0, s.1))
            (changed v);
        kept = λ v h. let a = o.kept v h in let b = less v a.0 in (b.0, le_trans b.1 a.1);
        offered = λ j v h q. go j v h q (ℕ_discrete j k);
      }
        where
          go : (j v : ℕ) → j < k + 1 → link_at 𝓒 u j ≡ Some v → Dec (j ≡ k) → (0 < get_or D'' v 0) × (get_or D'' v 0 ≤ d + (net 𝓒).weight u v)
          go j v h q (yes e) =
              let r : link_at 𝓒 u k ≡ Some v = rw e at q in
              let z : v ≡ x = some_one (sym r ∙ leads) in
              rw z (here.some, here.offer)
          go j v h q (no n) = let a = o.offered j v (omega arith) q in let b = less v a.0 in (b.0, le_trans b.1 a.1)
