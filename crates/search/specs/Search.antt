-- The search over a work space: labels, a step, and how it ends.
-- Assumes nothing.
use Rattle.std.specs.Prelude.{◌≡◌, ◌⊎◌, ◌↔◌, cond, true, false, List, Option, Some, None, ℕ, ◌+◌, ◌-◌, ◌≤◌, ◌<◌, ltb, length, get_or, set}
use Rattle.std.proofs.Math.Option.{Option as Maybe, some, none}
use Rattle.settling.specs.Chains.{Chain, Reachable, Shortest, wholes}
use Rattle.settling.specs.Order.{NoLater}
use Rattle.settling.specs.Labels.{Labels, SettledAt, WaitingAt, Step, Sound}
use Rattle.settling.specs.Counts.{Counts, below}
use Rattle.settling.specs.Effort.{InReach}
use Rattle.places.specs.declared.Trip.{Trip}
use Rattle.places.specs.Columns.{column_of, Label, Settled, Left}
use Rattle.places.specs.Chart.{Chart, chart, net, order}
use Rattle.offers.specs.Tree.{Right}
use Rattle.offers.specs.Offers.{limit}

-- A label is stored as one more than it is, and 0 stands for none.
abbrev pub read : ℕ → Maybe ℕ
read x = cond (ltb 0 x) (some (x - 1)) none

-- The labels that two columns hold.
abbrev pub labels : List ℕ → List ℕ → Labels wholes
labels D F = record { label = λ v. read (get_or D v 0); settled = λ v. ltb 0 (get_or F v 0) }

-- The labels of a work space whose columns have n entries.
abbrev pub labels_of : ℕ → List ℕ → Labels wholes
labels_of n W = labels (column_of n W Label) (column_of n W Settled)

-- u waits at d, and none that waits ranks before it.
pub record Foremost (𝓒 : Chart) (𝓢 : Labels wholes) (u d : ℕ) : Type 0 where
  pub waits : WaitingAt 𝓢 u d
  pub first : (v e : ℕ) → WaitingAt 𝓢 v e → NoLater (order 𝓒) d u e v

-- The foremost place's label leaves room for one link more.
pub record Near (𝓒 : Chart) (𝓢 : Labels wholes) : Type 0 where
  pub near : (u d : ℕ) → Foremost 𝓒 𝓢 u d → d ≤ limit

-- r is the place that waits foremost, or none where none waits.
pub record First (𝓒 : Chart) (W : List ℕ) (r : Option ℕ) : Type 0 where
  pub inside : (u : ℕ) → r ≡ Some u → u < 𝓒.trip.k + 2
  pub none : r ≡ None → (v e : ℕ) → WaitingAt (labels_of (𝓒.trip.k + 2) W) v e → ⊥
  pub some : (u : ℕ) → r ≡ Some u → Foremost 𝓒 (labels_of (𝓒.trip.k + 2) W) u (get_or (column_of (𝓒.trip.k + 2) W Label) u 0 - 1)

-- Place u is settled, and the tree is right again, whatever the corners that it was right for.
pub record Marked (t : Trip) (W T : List ℕ) (u : ℕ) (W' T' : List ℕ) : Type 0 where
  pub label : column_of (t.k + 2) W' Label ≡ column_of (t.k + 2) W Label
  pub settled : column_of (t.k + 2) W' Settled ≡ set (column_of (t.k + 2) W Settled) u 1
  pub left : Left (t.k + 2) W W'
  pub right : (C : List ℕ) → Right C t W T → Right C t W' T'
  pub tree : length T' ≡ length T

-- One place has been settled, and r is it; or none waits, and r is none.
pub record Settling (C S E : List ℕ) (t : Trip) (W T : List ℕ) (r : Option ℕ) (W' T' : List ℕ) : Type 0 where
  pub inside : (u : ℕ) → r ≡ Some u → u < t.k + 2
  pub none : r ≡ None → (W' ≡ W) × ((v e : ℕ) → WaitingAt (labels_of (t.k + 2) W) v e → ⊥)
  pub some :
      (u : ℕ) → r ≡ Some u → (d : ℕ) × Step (net (chart C S E t W)) (order (chart C S E t W)) (labels_of (t.k + 2) W) (labels_of (t.k + 2) W') u d
  pub left : Left (t.k + 2) W W'
  pub right : Right C t W' T'
  pub tree : length T' ≡ length T

-- Nothing is labelled and nothing is settled.
pub record Blank (n : ℕ) (W : List ℕ) : Type 0 where
  pub label : (v : ℕ) → get_or (column_of n W Label) v 0 ≡ 0
  pub settled : (v : ℕ) → get_or (column_of n W Settled) v 0 ≡ 0

-- No shortest chain is so long that a label would not fit.
abbrev pub Bounded : Chart → Type 0
Bounded 𝓒 = (v d : ℕ) → Shortest (net 𝓒) v d → d ≤ limit

-- How a run that may settle `budget` places of n ends, with r settled: labels 𝓢, and goal.
pub record Outcome (𝓒 : Chart) (n goal budget r : ℕ) (𝓢 : Labels wholes) : Type 0 where
  pub sound : Sound (net 𝓒) (order 𝓒) 𝓢
  pub counted : Counts (λ v. 𝓢.settled v ≡ true) (below n) r
  pub within : r ≤ budget
  -- a settled label is shortest, and no place left ranks, by any chain, before a settled one
  pub shortest : (v d : ℕ) → SettledAt 𝓢 v d → Shortest (net 𝓒) v d
  pub none_before : (u v d e : ℕ) → SettledAt 𝓢 u d → 𝓢.settled v ≡ false → Chain (net 𝓒) v e → NoLater (order 𝓒) d u e v
  -- the goal is settled: the effort is the number of places that rank no later
  pub found :
      𝓢.settled goal ≡ true → (g : ℕ) × SettledAt 𝓢 goal g × Shortest (net 𝓒) goal g × Counts (InReach (net 𝓒) (order 𝓒) goal g) (below n) r
  -- then the settled places are just those that rank no later than the goal
  pub reached : (g : ℕ) → SettledAt 𝓢 goal g → (v : ℕ) → (𝓢.settled v ≡ true) ↔ InReach (net 𝓒) (order 𝓒) goal g v
  -- it is not, and the budget is not used up, or is enough for all places: no chain leads to it, and the effort is the number of places that can be reached
  pub lost :
      𝓢.settled goal ≡ false → (r < budget) ⊎ (n ≤ budget) → (Reachable (net 𝓒) goal → ⊥) × Counts (Reachable (net 𝓒)) (below n) r

-- What a run leaves.
pub record Run (C S E : List ℕ) (t : Trip) (W : List ℕ) (budget r : ℕ) (W' : List ℕ) : Type 0 where
  pub outcome : Outcome (chart C S E t W) (t.k + 2) t.to budget r (labels_of (t.k + 2) W')
  pub left : Left (t.k + 2) W W'
