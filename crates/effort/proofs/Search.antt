-- What a search over a trip's net has settled is what the trip is billed for.
-- Assumes nothing.
use Prim.Native.Nat.{ℕ, ◌≤◌}
use mathlib.Core.Path.{◌≡◌, sym, ap, subst}
use mathlib.Core.List.{List}
use mathlib.Core.Logic.{◌⊎◌, inl, inr, ⊎_elim, ◌↔◌}
use native.Mathlib.Nat.{le_of_eq}
use Rattle.lengths.specs.Lengths.{Len, ◌≺◌}
use Rattle.lengths.specs.Laws.{weight, ≼_split, ≺→≼, ≺→not-≽}
use Rattle.settling.specs.Chains.{wholes}
use Rattle.settling.specs.Order.{NoLater}
use Rattle.settling.specs.Effort.{InReach}
use Rattle.settling.proofs.Instances.{nearest_no_later}
use Rattle.effort.specs.Effort.{PlaceCell, Far, NoFarther}
use Rattle.effort.specs.Net.{by_cell, Startable, net_of}
use Rattle.effort.proofs.Bridge.{chain_place, far_order, far_shortest, shortest_far}

module _ (w h : ℕ) (words : List ℕ) (start goal : ℕ) (trip : Startable w h words start goal) where
  -- To rank no later by weights is to rank no later by lengths.
  pub ranks_iff :
      (v : ℕ) (l far : Len) → Far w h words start v l → Far w h words start goal far →
      NoLater by_cell (weight l) v (weight far) goal ↔ ((l ≺ far) ⊎ ((l ≡ far) × (v ≤ goal)))
  ranks_iff v l far f k = (
    λ r.
        let p = (nearest_no_later wholes (λ c. c) (weight l) (weight far) v goal).0 r in
        ⊎_elim (λ e. inr (e, p.1 (le_of_eq (ap weight (sym e))))) inl (≼_split ((far_order w h words start goal trip v goal f k).1 p.0)),
    λ c. (nearest_no_later wholes (λ x. x) (weight l) (weight far) v goal).1 (by c),
  )
    where
      by : (l ≺ far) ⊎ ((l ≡ far) × (v ≤ goal)) → (weight l ≤ weight far) × (weight far ≤ weight l → v ≤ goal)
      by (inl less) = (
        (far_order w h words start goal trip v goal f k).0 (≺→≼ less),
        λ m. absurd (≺→not-≽ less ((far_order w h words start goal trip goal v k f).1 m)),
      )
      by (inr (e, c)) = (le_of_eq (ap weight e), λ m. c)

  -- What is in reach of the goal in the net is a place that ranks no later than the goal on the floor.
  pub in_reach_iff :
      (far : Len) → Far w h words start goal far → (v : ℕ) →
      InReach (net_of w h words start goal) by_cell goal (weight far) v ↔ (PlaceCell w h words start goal v × NoFarther w h words start goal far v)
  in_reach_iff far k v = (
    λ (d, s, r).
        let (l, f, e) = shortest_far w h words start goal trip s in
        let r' : NoLater by_cell (weight l) v (weight far) goal = subst (λ (x : ℕ). NoLater by_cell x v (weight far) goal) (sym e) r in
        (chain_place w h words start goal trip s.chain, record { far = l; shortest = f; ranks = (ranks_iff v l far f k).0 r' }),
    λ (p, n). (
      weight n.far,
      far_shortest w h words start goal trip p n.shortest,
      (ranks_iff v n.far far n.shortest k).1 n.ranks,
    ),
  )
