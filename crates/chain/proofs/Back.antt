-- The way back over a charted trip: what is linked to a place, and with the link adds up to the place's length, is what precedes it on the
-- floor; and where the place is no further than a settled one, it is settled. Assumes nothing.
use Prim.Native.Nat.{ℕ, ◌+◌, ◌≤◌, ◌<◌}
use mathlib.Core.Bool.{Bool, true, false}
use mathlib.Core.List.{List}
use mathlib.Core.Logic.{⊎_elim, ◌↔◌, ◌≢◌}
use mathlib.Core.Option.{some}
use mathlib.Core.Path.{◌≡◌, refl, sym, ◌∙◌, ap, subst}
use native.Mathlib.Nat.{le_of_eq, le_antisymm}
use native.Mathlib.Omega.{arith}
use Rattle.std.specs.Prelude.{Some}
use Rattle.lengths.specs.Lengths.{Len, ◌⊕◌}
use Rattle.lengths.specs.Laws.{weight, le_or_lt, ≼_antisym}
use Rattle.floor.specs.Words.{place_of}
use Rattle.ground.specs.Kind.{octile}
use Rattle.plan.specs.Plan.{Lists}
use Rattle.settling.specs.Chains.{Shortest, wholes}
use Rattle.settling.specs.Order.{NoLater}
use Rattle.settling.specs.Labels.{Labels, SettledAt, Sound}
use Rattle.settling.proofs.Back.{shortest_unique}
use Rattle.settling.proofs.Search.{settled_shortest, none_before}
use Rattle.settling.proofs.Instances.{nearest_no_later}
use Rattle.effort.specs.Effort.{Far}
use Rattle.effort.specs.Net.{Precedes, apart as weighs}
use Rattle.effort.proofs.Weights.{weight_sum, ≼_by_weight}
use Rattle.effort.proofs.Bridge.{far_small}
use Rattle.effort.proofs.Before.{no_further, place_before}
use Rattle.places.specs.Places.{apart}
use Rattle.places.specs.Chart.{Chart, link_at, link_count, cell, net, order}
use Rattle.chain.specs.Route.{Before}
use Rattle.chain.specs.Charted.{Charted, Used}
use Rattle.places.proofs.Links.{positive, consistent}
use Rattle.chain.proofs.Fairness.{fair}
use Rattle.chain.proofs.Places.{trip, cell_place, from_used, from_cell, place_index, used_same}
use Rattle.chain.proofs.Links.{joined_turned, link_there, link_back, link_turned}
use Rattle.chain.proofs.Chains.{weight_same, shortest_there, shortest_walk, walk_shortest}

module _ {w h : ℕ} {words : List ℕ} {p : Lists} {start goal : ℕ} {𝓒 : Chart} (ch : Charted w h words p start goal 𝓒) where
  -- What is linked to v, has a shortest length, and with the link adds up to v's, is what precedes v on the floor.
  pub precedes_iff :
      (u v d e : ℕ) (l : Len) → Used 𝓒 u → Used 𝓒 v → Far w h words start (cell 𝓒 v) l → weight l ≡ d →
      (((j : ℕ) × (j < link_count 𝓒 v) × (link_at 𝓒 v j ≡ Some u)) × Shortest (net 𝓒) u e × (e + apart 𝓒.trip.w (cell 𝓒 u) (cell 𝓒 v) ≡ d))
      ↔ ((m : Len) × (weight m ≡ e) × Precedes w h words start goal (cell 𝓒 v) l (cell 𝓒 u) m)
  precedes_iff u v d e l a b f q = (there, back)
    where
      there :
          ((j : ℕ) × (j < link_count 𝓒 v) × (link_at 𝓒 v j ≡ Some u)) × Shortest (net 𝓒) u e × (e + apart 𝓒.trip.w (cell 𝓒 u) (cell 𝓒 v) ≡ d) →
          (m : Len) × (weight m ≡ e) × Precedes w h words start goal (cell 𝓒 v) l (cell 𝓒 u) m
      there (k, s, t) =
          let j = joined_turned (link_there ch v u k).1 in
          let (m, g, r) = shortest_walk ch s in
          let same : weight (m ⊕ octile (place_of w (cell 𝓒 u)) (place_of w (cell 𝓒 v))) ≡ weight l =
          weight_sum m (octile (place_of w (cell 𝓒 u)) (place_of w (cell 𝓒 v)))
          ∙ ap (λ (x : ℕ). x + weighs w (cell 𝓒 u) (cell 𝓒 v)) r
          ∙ ap (λ (x : ℕ). e + x) (sym (weight_same ch u v))
          ∙ t
          ∙ sym q in (
            m,
            r,
            record {
              joined = j;
              far = g;
              sum =
                  ≼_antisym (≼_by_weight (far_small w h words start goal (trip ch) (cell 𝓒 v) f) (le_of_eq same))
                  (no_further w h words start goal (trip ch) j g f);
            },
          )

      back :
          (m : Len) × (weight m ≡ e) × Precedes w h words start goal (cell 𝓒 v) l (cell 𝓒 u) m →
          ((j : ℕ) × (j < link_count 𝓒 v) × (link_at 𝓒 v j ≡ Some u)) × Shortest (net 𝓒) u e × (e + apart 𝓒.trip.w (cell 𝓒 u) (cell 𝓒 v) ≡ d)
      back (m, r, t) = (
        link_back ch v u b a (joined_turned t.joined),
        subst (λ (x : ℕ). Shortest (net 𝓒) u x) r (walk_shortest ch a t.far),
        ap (λ (x : ℕ). e + x) (weight_same ch u v)
            ∙ ap (λ (x : ℕ). x + weighs w (cell 𝓒 u) (cell 𝓒 v)) (sym r)
            ∙ sym (weight_sum m (octile (place_of w (cell 𝓒 u)) (place_of w (cell 𝓒 v))))
            ∙ ap weight t.sum
            ∙ q,
      )

  -- What precedes a place has an index.
  pub precedes_index :
      (v : ℕ) {c : ℕ} {l m : Len} → Precedes w h words start goal (cell 𝓒 v) l c m →
      (u : ℕ) × Used 𝓒 u × (cell 𝓒 u ≡ c) × Precedes w h words start goal (cell 𝓒 v) l (cell 𝓒 u) m
  precedes_index v {c} {l} {m} t =
      let (u, a, e) = place_index ch c t.joined.from in
      (u, a, e, subst (λ (x : ℕ). Precedes w h words start goal (cell 𝓒 v) l x m) (sym e) t)

  -- an index other than the start's has another cell
  pub not_start : {v : ℕ} → Used 𝓒 v → v ≢ 𝓒.trip.from → cell 𝓒 v ≢ start
  not_start {v} b other e = other (used_same ch v 𝓒.trip.from b (from_used ch) (e ∙ sym (from_cell ch)))

  -- Some place precedes each other than the start.
  pub some_precedes :
      {v : ℕ} {l : Len} → Used 𝓒 v → v ≢ 𝓒.trip.from → Far w h words start (cell 𝓒 v) l →
      (u : ℕ) × Used 𝓒 u × ((m : Len) × Precedes w h words start goal (cell 𝓒 v) l (cell 𝓒 u) m)
  some_precedes {v} b other f =
      let (c, m, t) = place_before w h words start goal (trip ch) (cell_place ch v) (not_start b other) f in
      let (u, a, e, r) = precedes_index v t in
      (u, a, (m, r))

  -- What is linked and adds up is nearer.
  pub adds_nearer : (u v d e : ℕ) → (net 𝓒).Link v u → Used 𝓒 v → e + (net 𝓒).weight u v ≡ d → e < d
  adds_nearer u v d e k b q =
      ⊎_elim (λ z. absurd (positive 𝓒 (fair ch) u v (link_turned ch v u b k) z)) (λ (z : 0 < (net 𝓒).weight u v). plain ((net 𝓒).weight u v) q z)
      (le_or_lt ((net 𝓒).weight u v) 0)
    where
      plain : (x : ℕ) → e + x ≡ d → 0 < x → e < d
      plain x r z = omega arith

  module _ {𝓢 : Labels wholes} (ok : Sound (net 𝓒) (order 𝓒) 𝓢) where
    -- A settled label is a shortest length
    pub settled_length : {v d : ℕ} → SettledAt 𝓢 v d → Shortest (net 𝓒) v d
    settled_length = settled_shortest (net 𝓒) (order 𝓒) (consistent 𝓒 (fair ch)) 𝓢 ok

    -- of a place
    pub settled_used : {v d : ℕ} → SettledAt 𝓢 v d → Used 𝓒 v
    settled_used s = (shortest_there ch (settled_length s)).0

    -- and the weight of its shortest walks.
    pub settled_walk : {v d : ℕ} → SettledAt 𝓢 v d → (l : Len) × Far w h words start (cell 𝓒 v) l × (weight l ≡ d)
    settled_walk s = shortest_walk ch (settled_length s)

    -- a settled place is settled at its shortest length
    pub settled_at_lem : {v d : ℕ} → 𝓢.settled v ≡ true → Shortest (net 𝓒) v d → SettledAt 𝓢 v d
    settled_at_lem {v} {d} t s =
        let (x, e) = ok.has_label v t in
        (t, e ∙ ap some (shortest_unique (net 𝓒) (settled_length (t, e)) s))

    -- What ranks no later than a settled place is settled.
    pub in_reach_settled : {t g u e : ℕ} → SettledAt 𝓢 t g → Shortest (net 𝓒) u e → NoLater (order 𝓒) e u g t → SettledAt 𝓢 u e
    in_reach_settled {t} {g} {u} {e} at-t s l = settled_at_lem (by (𝓢.settled u) refl) s
      where
        by : (b : Bool) → 𝓢.settled u ≡ b → 𝓢.settled u ≡ true
        by true q = q
        by false q =
            let k = (nearest_no_later wholes (cell 𝓒) g e t u).0 (none_before (net 𝓒) (order 𝓒) (consistent 𝓒 (fair ch)) 𝓢 ok at-t q s.chain) in
            let m = (nearest_no_later wholes (cell 𝓒) e g u t).0 l in
            let same : u ≡ t =
            used_same ch u t (shortest_there ch s).0 (settled_used at-t) (le_antisymm (m.1 k.0) (k.1 m.0)) in
            ap 𝓢.settled same ∙ at-t.0

    -- What is nearer than a settled place is settled.
    pub nearer_settled : {t g u e : ℕ} → SettledAt 𝓢 t g → Shortest (net 𝓒) u e → e < g → SettledAt 𝓢 u e
    nearer_settled {t} {g} {u} {e} at-t s l =
        in_reach_settled at-t s ((nearest_no_later wholes (cell 𝓒) e g u t).1 (omega arith, λ k. absurd (omega arith)))

    -- The walk back, by labels alone. Below, v is settled at d, and some place is settled at no less.
    module _ {t g v d : ℕ} (at-t : SettledAt 𝓢 t g) (at_v : SettledAt 𝓢 v d) (no_further : d ≤ g) where
      -- what precedes v is linked to it, settled, and adds up
      pub precedes_labelled :
          {c : ℕ} {l m : Len} → Far w h words start (cell 𝓒 v) l → Precedes w h words start goal (cell 𝓒 v) l c m →
          (u : ℕ) × (cell 𝓒 u ≡ c) × (net 𝓒).Link v u × SettledAt 𝓢 u (weight m) × (weight m + (net 𝓒).weight u v ≡ d)
      precedes_labelled {c} {l} {m} f b =
          let (u, a, e, b') = precedes_index v b in
          let q : weight l ≡ d = shortest_unique (net 𝓒) (walk_shortest ch (settled_used at_v) f) (settled_length at_v) in
          let (k, s, r) = (precedes_iff u v d (weight m) l a (settled_used at_v) f q).1 (m, refl, b') in
          let less = adds_nearer u v d (weight m) k (settled_used at_v) r in
          (u, e, k, nearer_settled at-t s (omega arith), r)

      -- there is such a place, unless v is the start
      pub some_labelled : v ≢ 𝓒.trip.from → (u : ℕ) × (e : ℕ) × (net 𝓒).Link v u × SettledAt 𝓢 u e × (e + (net 𝓒).weight u v ≡ d)
      some_labelled other =
          let (l, f, q) = settled_walk at_v in
          let (x, a, (m, b)) = some_precedes (settled_used at_v) other f in
          let (u, e, k, s, r) = precedes_labelled f b in
          (u, weight m, k, s, r)

      -- and of all such places the one with the least cell number is the one before v on the route
      pub before_labelled :
          (u e : ℕ) → (net 𝓒).Link v u → SettledAt 𝓢 u e → e + (net 𝓒).weight u v ≡ d →
          ((x y : ℕ) → (net 𝓒).Link v x → SettledAt 𝓢 x y → y + (net 𝓒).weight x v ≡ d → cell 𝓒 u ≤ cell 𝓒 x) →
          Before w h words start goal (cell 𝓒 v) (cell 𝓒 u)
      before_labelled u e k s r least =
          let (l, f, q) = settled_walk at_v in
          let (m, z, b) = (precedes_iff u v d e l (settled_used s) (settled_used at_v) f q).0 (k, settled_length s, r) in
          record {
            far = l;
            shortest = f;
            nearer = m;
            precedes = b;
            least =
                λ c n b'.
                let (x, i, k', s', r') = precedes_labelled f b' in
                subst (λ (y : ℕ). cell 𝓒 u ≤ y) i (least x (weight n) k' s' r');
          }
