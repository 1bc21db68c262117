-- Chains of a trip's net and walks on the floor: the shortest chain to a place weighs what the shortest walk to it weighs.
-- Assumes nothing.
use Prim.Native.Nat.{ℕ, ◌+◌, ◌*◌, ◌<◌, ◌≤◌}
use mathlib.Core.Path.{◌≡◌, refl, sym, ◌∙◌, ap, ap₂, subst}
use mathlib.Core.Bool.{true}
use mathlib.Core.List.{List, [], ◌++◌}
use mathlib.Core.Logic.{inl, inr, ⊎_elim, ◌≢◌, ◌↔◌}
use native.Mathlib.Nat.{zero-add, add_assoc}
use native.Mathlib.Omega.{arith}
use Rattle.lengths.specs.Lengths.{Len, 𝟎, ◌≼◌, gap}
use Rattle.lengths.specs.Laws.{weight, ≼_antisym, 𝟎_least}
use Rattle.lengths.specs.Octile.{octile_none, gap_none}
use Rattle.floor.specs.Board.{Place, Dir, Free, corner}
use Rattle.floor.specs.Words.{Floor, board, place_of, cell_of}
use Rattle.ground.specs.Kind.{walkers, octile}
use Rattle.ground.specs.Walk.{Walk, len}
use Rattle.ground.specs.Link.{Direct, Chain as GroundChain, last, join}
use Rattle.ground.proofs.Cells.{corner_free}
use Rattle.ground.proofs.Numbers.{same_cell, within, free_cell, place_of_free}
use Rattle.ground.proofs.Walks.{place_eq, walk_append}
use Rattle.ground.proofs.Choose.{place_discrete}
use Rattle.ground.proofs.Chains.{shortest_chain}
use Rattle.ground.proofs.Walkers.{walker_ways}
use Rattle.ground.proofs.Bounded.{few_steps, shortest_or_none}
use Rattle.settling.specs.Chains.{Chain, here, step, Reachable, Shortest}
use Rattle.settling.proofs.Back.{shortest_unique}
use Rattle.effort.specs.Effort.{PlaceCell, Far}
use Rattle.effort.specs.Net.{apart, Startable, Joined, net_of}
use Rattle.effort.proofs.Weights.{weight_sum, weighs-≼, ≼_by_weight}

-- two different cells are apart
apart_positive : (w u v : ℕ) → u ≢ v → apart w u v ≤ 0 → ⊥
apart_positive w u v two h =
    let p = place_of w u in
    let q = place_of w v in
    let z = octile_none (gap p.x q.x) (gap p.y q.y) h in
    two (same_cell w u v (place_eq (gap_none p.x q.x z.0) (gap_none p.y q.y z.1)))

-- a floor that no row refuses, with two cells of it of which the first is free, makes a trip
pub trip_of :
    {w h : ℕ} {words : List ℕ} {start goal : ℕ} → Floor w h words → start < w * h → goal < w * h → Free (board w h words) (place_of w start) →
    Startable w h words start goal
trip_of f s g free = record { few_cells = f.few_cells; start_inside = s; goal_inside = g; start_free = free }

module _ (w h : ℕ) (words : List ℕ) (start goal : ℕ) where
  -- links have length
  pub links_positive : (u v : ℕ) → Joined w h words start goal u v → apart w u v ≤ 0 → ⊥
  links_positive u v l = apart_positive w u v l.two

  -- two places of the board that are joined lead a chain of the net on
  link_on :
      (s t : Place) → s ≢ t → Direct walkers (board w h words) s t → (u v d : ℕ) → PlaceCell w h words start goal u →
      PlaceCell w h words start goal v →
      place_of w u ≡ s →
      place_of w v ≡ t →
      Chain (net_of w h words start goal) u d →
      Chain (net_of w h words start goal) v (d + weight (octile s t))
  link_on s t n k u v d pu pv eu ev c =
      subst (λ (l : ℕ). Chain (net_of w h words start goal) v (d + l)) (ap₂ (λ (p q : Place). weight (octile p q)) eu ev)
      (step c
      (record {
        from = pu;
        to = pv;
        two = λ e. n (sym eu ∙ ap (place_of w) e ∙ ev);
        direct =
            subst (λ (p : Place). Direct walkers (board w h words) p (place_of w v)) (sym eu)
            (subst (λ (q : Place). Direct walkers (board w h words) s q) (sym ev) k);
      }))

  -- and so does a chain of the board: its turning points are cells
  chain_on :
      {s t : Place} {l : Len} → GroundChain walkers (board w h words) s t l → (u v d : ℕ) → PlaceCell w h words start goal u →
      PlaceCell w h words start goal v →
      place_of w u ≡ s →
      place_of w v ≡ t →
      Chain (net_of w h words start goal) u d →
      Chain (net_of w h words start goal) v (d + weight l)
  chain_on (last {s = s} {t = t} n k) u v d pu pv eu ev c = link_on s t n k u v d pu pv eu ev c
  chain_on (join {s = s} {p = p} {t = t} {l = l} n k turns r) u v d pu pv eu ev c =
      let free = corner_free (board w h words) p turns in
      let x : ℕ = cell_of w p in
      let ex : place_of w x ≡ p = place_of_free (within w h words) p free in
      let px : PlaceCell w h words start goal x =
      record { inside = free_cell (within w h words) p free; one_of = inl (subst (λ (q : Place). corner (board w h words) q ≡ true) (sym ex) turns) } in
      subst (λ (y : ℕ). Chain (net_of w h words start goal) v y)
      (add_assoc d (weight (octile s p)) (weight l) ∙ ap (λ (y : ℕ). d + y) (sym (weight_sum (octile s p) l)))
      (chain_on r x v (d + weight (octile s p)) px pv ex ev (link_on s p n k u x d pu px eu ex c))

module _ (w h : ℕ) (words : List ℕ) (start goal : ℕ) (trip : Startable w h words start goal) where
  -- the start is a place
  pub start_place : PlaceCell w h words start goal start
  start_place = record { inside = trip.start_inside; one_of = inr (inl refl) }

  -- and so is the goal
  pub goal_place : PlaceCell w h words start goal goal
  goal_place = record { inside = trip.goal_inside; one_of = inr (inr refl) }

  -- a chain ends at a place
  pub chain_place : {v d : ℕ} → Chain (net_of w h words start goal) v d → PlaceCell w h words start goal v
  chain_place here = start_place
  chain_place (step c l) = l.to

  -- Every chain has a walk of its weight.
  pub chain_walk :
      {v d : ℕ} → Chain (net_of w h words start goal) v d →
      (ds : List Dir) × Walk walkers (board w h words) (place_of w start) (place_of w v) ds × (weight (len ds) ≡ d)
  chain_walk here = ([], (trip.start_free, refl), refl)
  chain_walk (step {u = u} {v = v} {d = d} c l) =
      let (us, a, e) = chain_walk c in
      let (vs, b, f) = l.direct.reached in
      let both = walk_append walkers (board w h words) (place_of w start) (place_of w u) (place_of w v) us vs a b in
      (us ++ vs, both.0, ap weight both.1 ∙ weight_sum (len us) (len vs) ∙ ap₂ (λ (x y : ℕ). x + y) e (ap weight f))

  -- a shortest length has fewer than 16,384 steps
  pub far_few : (v : ℕ) {l : Len} → Far w h words start v l → l.straight + l.diagonal < 16384
  far_few v f = omega (arith, few_steps (within w h words) walkers f, trip.few_cells)

  -- so few that its weight tells it
  pub far_small : (v : ℕ) {l : Len} → Far w h words start v l → l.diagonal < 80782
  far_small v f = omega (arith, far_few v f)

  -- the start is at no distance
  pub start_far : Far w h words start start 𝟎
  start_far = record { some = ([], (trip.start_free, refl), refl); least = λ ds v. 𝟎_least (len ds) }

  -- a place at a shortest length has a chain of its weight
  far_chain :
      {v : ℕ} {l : Len} → PlaceCell w h words start goal v → Far w h words start v l → Chain (net_of w h words start goal) v (weight l)
  far_chain {v} {l} p f = by (place_discrete (place_of w start) (place_of w v))
    where
      by : Dec (place_of w start ≡ place_of w v) → Chain (net_of w h words start goal) v (weight l)
      by (yes e) =
          let same : start ≡ v = same_cell w start v e in
          let none : 𝟎 ≡ l = ≼_antisym (𝟎_least l) (f.least [] (trip.start_free, e)) in
          subst (λ (x : ℕ). Chain (net_of w h words start goal) x (weight l)) same
          (subst (λ (m : Len). Chain (net_of w h words start goal) start (weight m)) none here)
      by (no n) =
          subst (λ (y : ℕ). Chain (net_of w h words start goal) v y) (zero-add (weight l))
          (chain_on w h words start goal (shortest_chain walker_ways (within w h words).padded (place_of w start) (place_of w v) l n f) start v 0 start_place
          p refl refl here)

  -- The shortest walk to a place gives the shortest chain.
  pub far_shortest :
      {v : ℕ} {l : Len} → PlaceCell w h words start goal v → Far w h words start v l → Shortest (net_of w h words start goal) v (weight l)
  far_shortest {v} {l} p f = record {
    chain = far_chain p f;
    best = λ e c. let (ds, a, q) = chain_walk c in subst (λ (y : ℕ). weight l ≤ y) q (weighs-≼ (far_small v f) (f.least ds a));
  }

  -- Where a walk leads to a cell there is a shortest length.
  pub walk_far :
      (v : ℕ) (ds : List Dir) → Walk walkers (board w h words) (place_of w start) (place_of w v) ds → (l : Len) × Far w h words start v l
  walk_far v ds a = ⊎_elim (λ f. f) (λ none. absurd (none ds a)) (shortest_or_none (within w h words) walkers (place_of w start) (place_of w v))

  -- Every walk to a place has a chain that weighs no more.
  pub walk_chain :
      {v : ℕ} (ds : List Dir) → PlaceCell w h words start goal v → Walk walkers (board w h words) (place_of w start) (place_of w v) ds →
      (d : ℕ) × Chain (net_of w h words start goal) v d × (d ≤ weight (len ds))
  walk_chain {v} ds p a =
      let (l, f) = walk_far v ds a in
      (weight l, far_chain p f, weighs-≼ (far_small v f) (f.least ds a))

  -- The shortest chain gives the shortest walk.
  pub shortest_far :
      {v d : ℕ} → Shortest (net_of w h words start goal) v d → (l : Len) × Far w h words start v l × (weight l ≡ d)
  shortest_far {v} {d} s =
      let (ds, a, q) = chain_walk s.chain in
      let (l, f) = walk_far v ds a in
      (l, f, shortest_unique (net_of w h words start goal) (far_shortest (chain_place s.chain) f) s)

  -- Shortest lengths are ordered as their weights are.
  pub far_order : (u v : ℕ) {l m : Len} → Far w h words start u l → Far w h words start v m → l ≼ m ↔ weight l ≤ weight m
  far_order u v f k = (weighs-≼ (far_small u f), ≼_by_weight (far_small v k))

  -- A cell can be reached in the net exactly where it is a place and a walk leads to it.
  pub reachable_iff :
      (v : ℕ) →
      Reachable (net_of w h words start goal) v
      ↔ (PlaceCell w h words start goal v × ((ds : List Dir) × Walk walkers (board w h words) (place_of w start) (place_of w v) ds))
  reachable_iff v = (
    λ r. let (ds, a, e) = chain_walk r.1 in (chain_place r.1, (ds, a)),
    λ (p, (ds, a)). let (d, c, k) = walk_chain ds p a in (d, c),
  )

  -- and exactly where it is a place at a shortest length
  pub reachable_far :
      (v : ℕ) → Reachable (net_of w h words start goal) v ↔ (PlaceCell w h words start goal v × ((l : Len) × Far w h words start v l))
  reachable_far v = (
    λ r. let (ds, a, e) = chain_walk r.1 in (chain_place r.1, walk_far v ds a),
    λ (p, (l, f)). (weight l, far_chain p f),
  )
