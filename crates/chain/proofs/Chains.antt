-- The chains of a charted trip are those of its places' cells, so shortest lengths are the same, and fit. Assumes nothing.
use Prim.Native.Nat.{ℕ, ◌+◌}
use mathlib.Core.List.{List}
use mathlib.Core.Path.{◌≡◌, sym, ◌∙◌, ap, ap₂, subst, subst₂}
use native.Mathlib.Omega.{arith}
use Rattle.lengths.specs.Lengths.{Len}
use Rattle.lengths.specs.Laws.{weight}
use Rattle.plan.specs.Plan.{Lists}
use Rattle.settling.specs.Chains.{Chain, here, step, Reachable, Shortest}
use Rattle.effort.specs.Effort.{Far}
use Rattle.effort.specs.Net.{Joined, net_of, apart as weighs}
use Rattle.effort.proofs.Bridge.{far_few, far_shortest, shortest_far}
use Rattle.places.specs.Places.{apart}
use Rattle.places.specs.Chart.{Chart, cell, net}
use Rattle.search.specs.Search.{Bounded}
use Rattle.chain.specs.Charted.{Charted, Used}
use Rattle.chain.proofs.Places.{apart_same, trip, cell_place, from_used, from_cell, place_index, used_same}
use Rattle.chain.proofs.Links.{link_there, link_back}

module _ {w h : ℕ} {words : List ℕ} {p : Lists} {start goal : ℕ} {𝓒 : Chart} (ch : Charted w h words p start goal 𝓒) where
  -- A link is as long by index as by cell.
  pub weight_same : (u v : ℕ) → (net 𝓒).weight u v ≡ weighs w (cell 𝓒 u) (cell 𝓒 v)
  weight_same u v = ap (λ (x : ℕ). apart x (cell 𝓒 u) (cell 𝓒 v)) ch.width ∙ apart_same w (cell 𝓒 u) (cell 𝓒 v)

  -- A chain by index is one by cell.
  pub chain_there : {v d : ℕ} → Chain (net 𝓒) v d → Used 𝓒 v × Chain (net_of w h words start goal) (cell 𝓒 v) d
  chain_there here = (from_used ch, subst (λ (c : ℕ). Chain (net_of w h words start goal) c 0) (sym (from_cell ch)) here)
  chain_there (step {u = u} {v = v} {d = d} c l) =
      let (a, k) = chain_there c in
      let (b, j) = link_there ch u v l in
      (b, subst (λ (x : ℕ). Chain (net_of w h words start goal) (cell 𝓒 v) (d + x)) (sym (weight_same u v)) (step k j))

  -- A chain by cell is one by index.
  pub chain_back : {c d : ℕ} → Chain (net_of w h words start goal) c d → (v : ℕ) × Used 𝓒 v × (cell 𝓒 v ≡ c) × Chain (net 𝓒) v d
  chain_back here = (𝓒.trip.from, from_used ch, from_cell ch, here)
  chain_back (step {u = a} {v = b} {d = d} c l) =
      let (u, used, e, k) = chain_back c in
      let (v, used', e') = place_index ch b l.to in
      let j : Joined w h words start goal (cell 𝓒 u) (cell 𝓒 v) =
      subst₂ (λ (x y : ℕ). Joined w h words start goal x y) (sym e) (sym e') l in (
        v,
        used',
        e',
        subst (λ (x : ℕ). Chain (net 𝓒) v (d + x)) (weight_same u v ∙ ap₂ (weighs w) e e') (step k (link_back ch u v used used' j)),
      )

  -- the same for a given index
  pub chain_at : {v d : ℕ} → Used 𝓒 v → Chain (net_of w h words start goal) (cell 𝓒 v) d → Chain (net 𝓒) v d
  chain_at {v} {d} a c =
      let (u, b, e, k) = chain_back c in
      subst (λ (x : ℕ). Chain (net 𝓒) x d) (used_same ch u v b a e) k

  -- What can be reached by index can by cell.
  pub reachable_there : {v : ℕ} → Reachable (net 𝓒) v → Used 𝓒 v × Reachable (net_of w h words start goal) (cell 𝓒 v)
  reachable_there (d, c) = let (a, k) = chain_there c in (a, (d, k))

  -- And what can be reached by cell can by index.
  pub reachable_at : {v : ℕ} → Used 𝓒 v → Reachable (net_of w h words start goal) (cell 𝓒 v) → Reachable (net 𝓒) v
  reachable_at a (d, c) = (d, chain_at a c)

  -- A shortest length by index is one by cell.
  pub shortest_there : {v d : ℕ} → Shortest (net 𝓒) v d → Used 𝓒 v × Shortest (net_of w h words start goal) (cell 𝓒 v) d
  shortest_there {v} {d} s =
      let (a, k) = chain_there s.chain in
      (a, record { chain = k; best = λ e c. s.best e (chain_at a c) })

  -- And one by cell is one by index.
  pub shortest_at : {v d : ℕ} → Used 𝓒 v → Shortest (net_of w h words start goal) (cell 𝓒 v) d → Shortest (net 𝓒) v d
  shortest_at a s = record { chain = chain_at a s.chain; best = λ e c. s.best e (chain_there c).1 }

  -- A shortest chain weighs what the shortest walk to its place's cell does.
  pub shortest_walk : {v d : ℕ} → Shortest (net 𝓒) v d → (l : Len) × Far w h words start (cell 𝓒 v) l × (weight l ≡ d)
  shortest_walk s = shortest_far w h words start goal (trip ch) (shortest_there s).1

  -- and the other way round
  pub walk_shortest : {v : ℕ} {l : Len} → Used 𝓒 v → Far w h words start (cell 𝓒 v) l → Shortest (net 𝓒) v (weight l)
  walk_shortest {v} a f = shortest_at a (far_shortest w h words start goal (trip ch) (cell_place ch v) f)

  -- Every shortest chain is so short that its length fits.
  pub bounded : Bounded 𝓒
  bounded v d s =
      let (l, f, e) = shortest_walk s in
      let few = far_few w h words start goal (trip ch) (cell 𝓒 v) f in
      omega arith
