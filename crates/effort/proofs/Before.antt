-- The place before another on a shortest walk: there is one, and it is nearer.
-- Assumes nothing.
use Prim.Native.Nat.{ℕ, ◌+◌, ◌<◌}
use mathlib.Core.Path.{◌≡◌, sym, ◌∙◌, ap, subst}
use mathlib.Core.List.{List, ◌++◌}
use mathlib.Core.Logic.{⊎_elim, ◌≢◌}
use native.Mathlib.Nat.{le_of_eq}
use native.Mathlib.Omega.{arith}
use Rattle.lengths.specs.Lengths.{Len, ◌⊕◌, ◌≺◌, ◌≼◌}
use Rattle.lengths.specs.Laws.{le_or_lt, weight, ≼_antisym}
use Rattle.floor.specs.Words.{board, place_of}
use Rattle.ground.specs.Kind.{walkers, octile}
use Rattle.ground.specs.Walk.{len}
use Rattle.ground.proofs.Walks.{walk_append}
use Rattle.settling.proofs.Back.{Before, shortest_before}
use Rattle.effort.specs.Effort.{PlaceCell, Far}
use Rattle.effort.specs.Net.{apart, Startable, Joined, net_of, Precedes}
use Rattle.effort.proofs.Weights.{weight_sum, ≼_by_weight, ≺_by_weight}
use Rattle.effort.proofs.Bridge.{links_positive, far_small, far_shortest, shortest_far}

module _ (w h : ℕ) (words : List ℕ) (start goal : ℕ) (trip : Startable w h words start goal) where
  -- no shortest length to v is more than that to u and what u and v are apart
  pub no_further :
      {u v : ℕ} {l m : Len} → Joined w h words start goal u v → Far w h words start u m → Far w h words start v l →
      l ≼ (m ⊕ octile (place_of w u) (place_of w v))
  no_further {u} {v} {l} {m} j f k =
      let (us, a, e) = f.some in
      let (vs, b, q) = j.direct.reached in
      let both = walk_append walkers (board w h words) (place_of w start) (place_of w u) (place_of w v) us vs a b in
      let same : len (us ++ vs) ≡ m ⊕ octile (place_of w u) (place_of w v) =
      both.1 ∙ ap (λ (x : Len). x ⊕ len vs) e ∙ ap (λ (x : Len). m ⊕ x) q in
      subst (λ (x : Len). l ≼ x) same (k.least (us ++ vs) both.0)

  -- A place other than the start has one before it.
  pub place_before :
      {v : ℕ} {l : Len} → PlaceCell w h words start goal v → v ≢ start → Far w h words start v l →
      (u : ℕ) × (m : Len) × Precedes w h words start goal v l u m
  place_before {v} {l} p other f =
      ⊎_elim (λ s. absurd (other s.0)) found
      (shortest_before (net_of w h words start goal) (far_shortest w h words start goal trip p f))
    where
      found :
          (u : ℕ) × (d : ℕ) × Before (net_of w h words start goal) v (weight l) u d →
          (u : ℕ) × (m : Len) × Precedes w h words start goal v l u m
      found (u, d, b) =
          let (m, k, e) = shortest_far w h words start goal trip b.shortest in
          let weighs : weight (m ⊕ octile (place_of w u) (place_of w v)) ≡ weight l =
          weight_sum m (octile (place_of w u) (place_of w v)) ∙ ap (λ (x : ℕ). x + apart w u v) e ∙ b.sum in (
            u,
            m,
            record {
              joined = b.link;
              far = k;
              sum = ≼_antisym (≼_by_weight (far_small w h words start goal trip v f) (le_of_eq weighs)) (no_further b.link k f);
            },
          )

  module _ {v : ℕ} {l : Len} (f : Far w h words start v l) {u : ℕ} {m : Len} (b : Precedes w h words start goal v l u m) where
    -- It is nearer.
    pub before_nearer : m ≺ l
    before_nearer = ≺_by_weight (far_small w h words start goal trip v f) less
      where
        some : 0 < apart w u v
        some = ⊎_elim (λ z. absurd (links_positive w h words start goal u v b.joined z)) (λ k. k) (le_or_lt (apart w u v) 0)

        weighs : weight m + apart w u v ≡ weight l
        weighs = sym (weight_sum m (octile (place_of w u) (place_of w v))) ∙ ap weight b.sum

        plain : (x y z : ℕ) → 0 < y → x + y ≡ z → x < z
        plain x y z k e = omega arith

        less : weight m < weight l
        less = plain (weight m) (apart w u v) (weight l) some weighs
