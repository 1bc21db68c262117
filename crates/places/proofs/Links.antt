-- Where the links of a fair chart lead.
-- Assumes nothing.
use mathlib.Core.Path.{◌≡◌, refl, sym, ◌∙◌}
use mathlib.Core.List.{List}
use Prim.Native.Nat.{ℕ, ◌+◌, ◌≤◌, ◌<◌}
use native.Mathlib.Omega.{arith}
use native.Mathlib.Decide.{ℕ_discrete, dec_lt}
use borrow.Author.Tests.{eq-eqb, ne_eqb, lt-ltb, le-ltb}
use lib.ListN.{length, get_or}
use Rattle.std.specs.Prelude.{Some, None}
use Rattle.settling.specs.Chains.{Chain, here, step, Reachable}
use Rattle.settling.specs.Order.{Consistent}
use Rattle.settling.proofs.Instances.{nearest_consistent}
use Rattle.places.specs.Places.{index_of, TwoCells}
use Rattle.places.specs.Chart.{Chart, flagged, arcs_of, count_of, arcs, corner_link, link_at, link_count, cell, Fair, net, order}
use Rattle.places.proofs.Cells.{some_one, none_some, index_at, ascending_once, cell_corner, cell_start, cell_goal, apart_none}

-- A flag that leads somewhere is set, and leads to its place.
pub flag_some : (L : List ℕ) (i p v : ℕ) → flagged L i p ≡ Some v → (0 < get_or L i 0) × (p ≡ v)
unfolding flagged
flag_some L i p v h = go (dec_lt 0 (get_or L i 0))
  where
    go : Dec (0 < get_or L i 0) → (0 < get_or L i 0) × (p ≡ v)
    go (yes l) = (l, some_one (rw (lt-ltb 0 (get_or L i 0) l) at h))
    go (no l) = absurd (none_some (rw (le-ltb 0 (get_or L i 0) (omega arith)) at h))

module _ (𝓒 : Chart) where
  -- The links of a corner begin with its neighbours.
  pub corner_arc : (u j : ℕ) → j < arcs 𝓒 u → corner_link 𝓒 u j ≡ Some (index_of 𝓒.corners (get_or 𝓒.neighbours (get_or 𝓒.starts u 0 + j) 0))
  unfolding corner_link
  corner_arc u j h = rw (lt-ltb j (arcs 𝓒 u) h)

  -- After the neighbours of a corner comes the start.
  pub corner_start : (u j : ℕ) → j ≡ arcs 𝓒 u → corner_link 𝓒 u j ≡ flagged 𝓒.by_start u 𝓒.trip.k
  unfolding corner_link
  corner_start u j q = rw (le-ltb j (arcs 𝓒 u) (omega arith), eq-eqb j (arcs 𝓒 u) q)

  -- Then comes the goal.
  pub corner_goal : (u j : ℕ) → arcs 𝓒 u < j → corner_link 𝓒 u j ≡ flagged 𝓒.by_goal u (𝓒.trip.k + 1)
  unfolding corner_link
  corner_goal u j h = rw (le-ltb j (arcs 𝓒 u) (omega arith), ne_eqb j (arcs 𝓒 u) (λ q. omega arith))

  -- The links of a corner.
  pub link_corner : (u j : ℕ) → u < 𝓒.trip.k → link_at 𝓒 u j ≡ corner_link 𝓒 u j
  unfolding link_at
  link_corner u j h = rw (lt-ltb u 𝓒.trip.k h)

  -- The links of the start.
  pub link_start : (u j : ℕ) → u ≡ 𝓒.trip.k → link_at 𝓒 u j ≡ flagged 𝓒.by_start j j
  unfolding link_at
  link_start u j q = rw (le-ltb u 𝓒.trip.k (omega arith), eq-eqb u 𝓒.trip.k q)

  -- The links of the goal.
  pub link_goal : (u j : ℕ) → 𝓒.trip.k < u → link_at 𝓒 u j ≡ flagged 𝓒.by_goal j j
  unfolding link_at
  link_goal u j h = rw (le-ltb u 𝓒.trip.k (omega arith), ne_eqb u 𝓒.trip.k (λ q. omega arith))

  -- How many there are of a corner to look at.
  pub count_corner : (u : ℕ) → u < 𝓒.trip.k → link_count 𝓒 u ≡ arcs 𝓒 u + 2
  unfolding count_of
  count_corner u h = rw (lt-ltb u 𝓒.trip.k h)

  -- How many there are of start and goal.
  pub count_end : (u : ℕ) → 𝓒.trip.k ≤ u → link_count 𝓒 u ≡ 𝓒.trip.k
  unfolding count_of
  count_end u h = rw (le-ltb u 𝓒.trip.k h)

  -- The ways in which a link leads from u to v.
  pub data Leads (u v : ℕ) : Type 0 where
    arc : u < 𝓒.trip.k → v < 𝓒.trip.k → (get_or 𝓒.corners u 0 ≡ get_or 𝓒.corners v 0 → ⊥) → Leads u v
    to_start : u < 𝓒.trip.k → v ≡ 𝓒.trip.k → 0 < get_or 𝓒.by_start u 0 → Leads u v
    to_goal : u < 𝓒.trip.k → v ≡ 𝓒.trip.k + 1 → 0 < get_or 𝓒.by_goal u 0 → Leads u v
    from_start : u ≡ 𝓒.trip.k → v < 𝓒.trip.k → 0 < get_or 𝓒.by_start v 0 → Leads u v
    from_goal : 𝓒.trip.k < u → v < 𝓒.trip.k → 0 < get_or 𝓒.by_goal v 0 → Leads u v

  module _ (fair : Fair 𝓒) where
    -- the place of a link in the list of neighbours
    pub arc_inside : (u j : ℕ) → u < 𝓒.trip.k → j < arcs 𝓒 u → (get_or 𝓒.starts u 0 + j < get_or 𝓒.starts (u + 1) 0) × (get_or 𝓒.starts (u + 1) 0 ≤ length 𝓒.neighbours)
    unfolding arcs_of
    arc_inside u j h l = (omega arith, fair.within (u + 1) (omega arith))

    -- A link of a corner leads to a corner, to the start or to the goal.
    corner_leads : (u v j : ℕ) → u < 𝓒.trip.k → corner_link 𝓒 u j ≡ Some v → Leads u v
    corner_leads u v j h q = go (dec_lt j (arcs 𝓒 u)) (ℕ_discrete j (arcs 𝓒 u))
      where
        go : Dec (j < arcs 𝓒 u) → Dec (j ≡ arcs 𝓒 u) → Leads u v
        go (yes l) e =
            let a = arc_inside u j h l in
            let c = get_or 𝓒.neighbours (get_or 𝓒.starts u 0 + j) 0 in
            let w : index_of 𝓒.corners c ≡ v = some_one (sym (corner_arc u j l) ∙ q) in
            let low : index_of 𝓒.corners c < 𝓒.trip.k = fair.known (get_or 𝓒.starts u 0 + j) (omega arith) in
            let at : get_or 𝓒.corners v 0 ≡ c = rw w at (index_at 𝓒.corners c (rw fair.corners low)) in
            arc h (rw w at low) (λ same. fair.other u (get_or 𝓒.starts u 0 + j) h (omega arith) a.0 (sym at ∙ sym same))
        go (no l) (yes e) = let f = flag_some 𝓒.by_start u 𝓒.trip.k v (sym (corner_start u j e) ∙ q) in to_start h (sym f.1) f.0
        go (no l) (no e) =
            let f = flag_some 𝓒.by_goal u (𝓒.trip.k + 1) v (sym (corner_goal u j (omega arith)) ∙ q) in
            to_goal h (sym f.1) f.0

    -- Each link is one of these.
    pub leads : (u v j : ℕ) → j < link_count 𝓒 u → link_at 𝓒 u j ≡ Some v → Leads u v
    leads u v j l q = go (dec_lt u 𝓒.trip.k) (ℕ_discrete u 𝓒.trip.k)
      where
        go : Dec (u < 𝓒.trip.k) → Dec (u ≡ 𝓒.trip.k) → Leads u v
        go (yes h) e = corner_leads u v j h (sym (link_corner u j h) ∙ q)
        go (no h) (yes e) =
            let f = flag_some 𝓒.by_start j j v (sym (link_start u j e) ∙ q) in
            from_start e (omega (arith, f.1, count_end u (omega arith))) (rw f.1 at f.0)
        go (no h) (no e) =
            let f = flag_some 𝓒.by_goal j j v (sym (link_goal u j (omega arith)) ∙ q) in
            from_goal (omega arith) (omega (arith, f.1, count_end u (omega arith))) (rw f.1 at f.0)

    -- A place is in use: a corner, or the start's or the goal's own.
    pub record Used (v : ℕ) : Type 0 where
      pub inside : v < 𝓒.trip.k + 2
      pub start : v ≡ 𝓒.trip.k → 𝓒.trip.from ≡ 𝓒.trip.k
      pub goal : v ≡ 𝓒.trip.k + 1 → 𝓒.trip.to ≡ 𝓒.trip.k + 1

    -- Every corner is in use.
    used_corner : (v : ℕ) → v < 𝓒.trip.k → Used v
    used_corner v h = record { inside = omega arith; start = λ q. absurd (omega arith); goal = λ q. absurd (omega arith) }

    -- A link leads to a place in use.
    pub leads_used : (u v : ℕ) → Leads u v → Used v
    leads_used u v (arc h l d) = used_corner v l
    leads_used u v (to_start h q f) = record { inside = omega arith; start = λ e. fair.start_flags u h f; goal = λ e. absurd (omega arith) }
    leads_used u v (to_goal h q f) = record { inside = omega arith; start = λ e. absurd (omega arith); goal = λ e. fair.goal_flags u h f }
    leads_used u v (from_start h l f) = used_corner v l
    leads_used u v (from_goal h l f) = used_corner v l

    -- So what can be reached is in use.
    pub chain_used : {v d : ℕ} → Chain (net 𝓒) v d → Used v
    chain_used here = record { inside = omega (arith, fair.from); start = λ q. q; goal = λ q. absurd (omega (arith, fair.from)) }
    chain_used (step {u = u} {v = v} c l) = leads_used u v (leads u v l.0 l.1 l.2)

    -- What a link leads to is one of the places.
    pub link_fits : (u v j : ℕ) → j < link_count 𝓒 u → link_at 𝓒 u j ≡ Some v → v < 𝓒.trip.k + 2
    link_fits u v j h q = (leads_used u v (leads u v j h q)).inside

    -- Two places in use that have one cell are one place.
    pub one_cell : (x y : ℕ) → Used x → Used y → cell 𝓒 x ≡ cell 𝓒 y → x ≡ y
    one_cell x y a b q = go (dec_lt x k) (dec_lt y k) (ℕ_discrete x k) (ℕ_discrete y k)
      where
        k : ℕ
        k = 𝓒.trip.k

        C : List ℕ
        C = 𝓒.corners

        -- a corner and one of the two ends
        apart : (x y : ℕ) → Used y → x < k → k ≤ y → cell 𝓒 x ≡ cell 𝓒 y → Dec (y ≡ k) → ⊥
        apart x y b l m q (yes e) = fair.start_new (b.start e) x l (sym (cell_corner C 𝓒.trip x l) ∙ q ∙ cell_start C 𝓒.trip y e)
        apart x y b l m q (no e) =
            let g : y ≡ k + 1 = omega (arith, b.inside) in
            fair.goal_new (b.goal g) x l (sym (cell_corner C 𝓒.trip x l) ∙ q ∙ cell_goal C 𝓒.trip y (omega arith))

        go : Dec (x < k) → Dec (y < k) → Dec (x ≡ k) → Dec (y ≡ k) → x ≡ y
        go (yes l) (yes m) d e =
            ascending_once C fair.ascending x y (rw fair.corners l) (rw fair.corners m)
            (sym (cell_corner C 𝓒.trip x l) ∙ q ∙ cell_corner C 𝓒.trip y m)
        go (yes l) (no m) d e = absurd (apart x y b l (omega arith) q e)
        go (no l) (yes m) d e = absurd (apart y x a m (omega arith) (sym q) d)
        go (no l) (no m) (yes d) (yes e) = d ∙ sym e
        go (no l) (no m) (yes d) (no e) =
            absurd (fair.differ (sym (cell_start C 𝓒.trip x d) ∙ q ∙ cell_goal C 𝓒.trip y (omega arith)))
        go (no l) (no m) (no d) (yes e) =
            absurd (fair.differ (sym (cell_start C 𝓒.trip y e) ∙ sym q ∙ cell_goal C 𝓒.trip x (omega arith)))
        go (no l) (no m) (no d) (no e) = omega (arith, a.inside, b.inside)

    -- No two places that can be reached tie.
    pub distinct : (x y : ℕ) → Reachable (net 𝓒) x → Reachable (net 𝓒) y → (order 𝓒).tie x ≡ (order 𝓒).tie y → x ≡ y
    distinct x y a b = one_cell x y (chain_used a.1) (chain_used b.1)

    -- A link leads to another cell.
    leads_apart : (u v : ℕ) → Leads u v → cell 𝓒 u ≡ cell 𝓒 v → ⊥
    leads_apart u v (arc h l d) q = d (sym (cell_corner 𝓒.corners 𝓒.trip u h) ∙ q ∙ cell_corner 𝓒.corners 𝓒.trip v l)
    leads_apart u v (to_start h e f) q =
        fair.start_new (fair.start_flags u h f) u h
        (sym (cell_corner 𝓒.corners 𝓒.trip u h) ∙ q ∙ cell_start 𝓒.corners 𝓒.trip v e)
    leads_apart u v (to_goal h e f) q =
        fair.goal_new (fair.goal_flags u h f) u h
        (sym (cell_corner 𝓒.corners 𝓒.trip u h) ∙ q ∙ cell_goal 𝓒.corners 𝓒.trip v (omega arith))
    leads_apart u v (from_start e l f) q =
        fair.start_new (fair.start_flags v l f) v l
        (sym (cell_corner 𝓒.corners 𝓒.trip v l) ∙ sym q ∙ cell_start 𝓒.corners 𝓒.trip u e)
    leads_apart u v (from_goal e l f) q =
        fair.goal_new (fair.goal_flags v l f) v l
        (sym (cell_corner 𝓒.corners 𝓒.trip v l) ∙ sym q ∙ cell_goal 𝓒.corners 𝓒.trip u e)

    -- So links have length.
    pub positive : (u v : ℕ) → (net 𝓒).Link u v → (net 𝓒).weight u v ≤ 0 → ⊥
    positive u v l h = leads_apart u v (leads u v l.0 l.1 l.2) (apart_none _ _ _ h)

    -- And no link leads to an earlier rank.
    pub consistent : Consistent (order 𝓒) (net 𝓒)
    consistent = nearest_consistent (net 𝓒) (cell 𝓒) positive

    -- The cells of two places lie on a floor no wider and no higher than 255.
    pub two_cells : (u v : ℕ) → u < 𝓒.trip.k + 2 → v < 𝓒.trip.k + 2 → TwoCells 𝓒.trip.w (cell 𝓒 u) (cell 𝓒 v)
    two_cells u v h l = record { some = fair.some_width; wide = fair.width; first = fair.cells u h; second = fair.cells v l }
