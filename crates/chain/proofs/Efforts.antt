-- What a search of a charted trip has counted is the trip's effort. Assumes nothing.
use Prim.Native.Nat.{ℕ, ◌+◌, ◌*◌, ◌≤◌, ◌<◌}
use mathlib.Core.Bool.{true, false}
use mathlib.Core.List.{List}
use mathlib.Core.Logic.{◌⊎◌, ◌↔◌}
use mathlib.Core.Option.{some}
use mathlib.Core.Path.{◌≡◌, sym, ◌∙◌, ap, subst}
use Rattle.lengths.specs.Laws.{weight}
use Rattle.plan.specs.Plan.{Lists}
use Rattle.settling.specs.Chains.{Reachable, Shortest, wholes}
use Rattle.settling.specs.Order.{NoLater}
use Rattle.settling.specs.Counts.{Counts, below}
use Rattle.settling.specs.Effort.{InReach}
use Rattle.settling.specs.Labels.{Labels}
use Rattle.settling.proofs.Instances.{nearest_no_later}
use Rattle.settling.proofs.Tally.{counts_same}
use Rattle.effort.specs.Effort.{PlaceCell, EffortFound, EffortLost}
use Rattle.effort.specs.Net.{by_cell, net_of}
use Rattle.effort.proofs.Bridge.{chain_place, shortest_far, reachable_iff, reachable_far, goal_place}
use Rattle.effort.proofs.Search.{in_reach_iff}
use Rattle.places.specs.Chart.{Chart, cell, net, order}
use Rattle.search.specs.Search.{Outcome}
use Rattle.chain.specs.Charted.{Charted, Used}
use Rattle.chain.proofs.Counting.{counts_onto}
use Rattle.chain.proofs.Places.{trip, cell_place, to_used, to_cell, place_index, used_same, used_within}
use Rattle.chain.proofs.Chains.{shortest_there, shortest_at, reachable_there, reachable_at}

module _ {w h : ℕ} {words : List ℕ} {p : Lists} {start goal : ℕ} {𝓒 : Chart} (ch : Charted w h words p start goal 𝓒) where
  -- A property of places that is said alike by index and by cell counts alike.
  pub counts_there :
      (P Q : ℕ → Type 0) {m : ℕ} → ((v : ℕ) → P v → Used 𝓒 v × Q (cell 𝓒 v)) → ((v : ℕ) → Used 𝓒 v → Q (cell 𝓒 v) → P v) →
      ((c : ℕ) → Q c → PlaceCell w h words start goal c) → Counts P (below (𝓒.trip.k + 2)) m → Counts Q (below (w * h)) m
  counts_there P Q there back places =
      counts_onto Q (cell 𝓒) (𝓒.trip.k + 2) (w * h)
      (λ i j l k a b e. used_same ch i j (there i a).0 (there j b).0 e)
      (λ i l a. ((cell_place ch i).inside, (there i a).1))
      (λ c l q.
      let (v, used, e) = place_index ch c (places c q) in
      (v, used_within ch used, back v used (subst Q (sym e) q), e))

  -- To rank no later is the same by index and by cell.
  pub rank_same : (d e u v : ℕ) → NoLater (order 𝓒) d u e v ↔ NoLater by_cell d (cell 𝓒 u) e (cell 𝓒 v)
  rank_same d e u v = (
    λ l. (nearest_no_later wholes (λ c. c) d e (cell 𝓒 u) (cell 𝓒 v)).1 ((nearest_no_later wholes (cell 𝓒) d e u v).0 l),
    λ l. (nearest_no_later wholes (cell 𝓒) d e u v).1 ((nearest_no_later wholes (λ c. c) d e (cell 𝓒 u) (cell 𝓒 v)).0 l),
  )

  -- The places in reach of the goal are as many by index as by cell.
  reach_counts :
      (g m : ℕ) → Counts (InReach (net 𝓒) (order 𝓒) 𝓒.trip.to g) (below (𝓒.trip.k + 2)) m →
      Counts (InReach (net_of w h words start goal) by_cell goal g) (below (w * h)) m
  reach_counts g m =
      counts_there (InReach (net 𝓒) (order 𝓒) 𝓒.trip.to g) (InReach (net_of w h words start goal) by_cell goal g)
      (λ v (d, s, l).
      let (a, t) = shortest_there ch s in
      (a, (d, t, subst (λ (x : ℕ). NoLater by_cell d (cell 𝓒 v) g x) (to_cell ch) ((rank_same d g v 𝓒.trip.to).0 l))))
      (λ v a (d, s, l).
      (d, shortest_at ch a s, (rank_same d g v 𝓒.trip.to).1 (subst (λ (x : ℕ). NoLater by_cell d (cell 𝓒 v) g x) (sym (to_cell ch)) l)))
      (λ c (d, s, l). chain_place w h words start goal (trip ch) s.chain)

  -- What was counted in reach of the goal is the effort, and the goal's label is the weight of its distance.
  pub effort_at_goal :
      (g r : ℕ) → Shortest (net 𝓒) 𝓒.trip.to g → Counts (InReach (net 𝓒) (order 𝓒) 𝓒.trip.to g) (below (𝓒.trip.k + 2)) r →
      (e : EffortFound w h words start goal r) × (weight e.far ≡ g)
  effort_at_goal g r s c =
      let t : Shortest (net_of w h words start goal) goal g =
      subst (λ (x : ℕ). Shortest (net_of w h words start goal) x g) (to_cell ch) (shortest_there ch s).1 in
      let (far, f, q) = shortest_far w h words start goal (trip ch) t in
      let count : Counts (InReach (net_of w h words start goal) by_cell goal (weight far)) (below (w * h)) r =
      subst (λ (x : ℕ). Counts (InReach (net_of w h words start goal) by_cell goal x) (below (w * h)) r) (sym q) (reach_counts g r c) in
      (record { far = far; shortest = f; counted = counts_same (in_reach_iff w h words start goal (trip ch) far f) count }, q)

  -- Where the goal cannot be reached, what was counted as reached is the effort.
  pub effort_without :
      (r : ℕ) → (Reachable (net 𝓒) 𝓒.trip.to → ⊥) → Counts (Reachable (net 𝓒)) (below (𝓒.trip.k + 2)) r → EffortLost w h words start goal r
  effort_without r lost c = record {
    none =
        λ ds a.
        lost
        (reachable_at ch (to_used ch)
        (subst (Reachable (net_of w h words start goal)) (sym (to_cell ch))
        ((reachable_iff w h words start goal (trip ch) goal).1 (goal_place w h words start goal (trip ch), (ds, a)))));
    counted =
        counts_same (reachable_far w h words start goal (trip ch))
        (counts_there (Reachable (net 𝓒)) (Reachable (net_of w h words start goal)) (λ v. reachable_there ch) (λ v. reachable_at ch)
        (λ c k. chain_place w h words start goal (trip ch) k.1) c);
  }

  -- The same of what a run of the search ends with.
  module _ {budget r : ℕ} {𝓢 : Labels wholes} (out : Outcome 𝓒 (𝓒.trip.k + 2) 𝓒.trip.to budget r 𝓢) where
    -- the goal is settled
    pub outcome_found : 𝓢.settled 𝓒.trip.to ≡ true → (e : EffortFound w h words start goal r) × (𝓢.label 𝓒.trip.to ≡ some (weight e.far))
    outcome_found t =
        let (g, a, s, c) = out.found t in
        let (e, q) = effort_at_goal g r s c in
        (e, a.1 ∙ ap some (sym q))

    -- it is not, and the budget was enough
    pub outcome_lost : 𝓢.settled 𝓒.trip.to ≡ false → (r < budget) ⊎ (𝓒.trip.k + 2 ≤ budget) → EffortLost w h words start goal r
    outcome_lost f enough = let (n, c) = out.lost f enough in effort_without r n c
