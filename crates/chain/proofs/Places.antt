-- The places of a charted trip by index and by cell: one index for each place. Assumes nothing.
use Prim.Native.Nat.{ℕ, ◌+◌, ◌*◌, ◌/◌, ◌%◌, ◌≤◌, ◌<◌}
use mathlib.Core.Bool.{true, false}
use mathlib.Core.List.{List}
use mathlib.Core.Logic.{◌⊎◌, inl, inr, ⊎_elim, ◌≢◌}
use mathlib.Core.Path.{◌≡◌, refl, sym, ◌∙◌, ap, ap₂, subst}
use native.Mathlib.Omega.{arith}
use lib.ListN.{length, get_or}
use borrow.Author.Tests.{lt-ltb, le-ltb, eq-eqb, ne_eqb}
use Rattle.lengths.specs.Lengths.{octile_of}
use Rattle.lengths.specs.Laws.{weight, le_or_lt}
use Rattle.lengths.specs.Octile.{gap_suc}
use Rattle.ground.proofs.Logic.{true_or_false, not_both}
use Rattle.plan.specs.Plan.{Lists}
use Rattle.corners.specs.Corners.{corner_cell}
use Rattle.effort.specs.Effort.{PlaceCell}
use Rattle.effort.specs.Net.{Startable, apart as weighs}
use Rattle.effort.proofs.Bridge.{trip_of, start_place, goal_place}
use Rattle.places.specs.Places.{index_of, cell_at, apart}
use Rattle.places.specs.Chart.{Chart, cell}
use Rattle.places.proofs.Cells.{index_at, ascending_once}
use Rattle.chain.specs.Charted.{Charted, Used}
use Rattle.chain.proofs.Corners.{corners_ascend, corner_at, corner_index}

-- The two crates say alike how far two cells are apart.
pub apart_same : (w a b : ℕ) → apart w a b ≡ weighs w a b
unfolding apart
apart_same w a b = ap₂ (λ (x y : ℕ). weight (octile_of x y)) (gap_suc (a % w) (b % w)) (gap_suc (a / w) (b / w))

-- a number is below another, or it, or beyond it
pub stands : (i k : ℕ) → (i < k) ⊎ ((i ≡ k) ⊎ (k < i))
stands i k = ⊎_elim (λ (l : k ≤ i). ⊎_elim (λ (m : i ≤ k). inr (inl (omega arith))) (λ m. inr (inr m)) (le_or_lt i k)) inl (le_or_lt k i)

module _ {w h : ℕ} {words : List ℕ} {p : Lists} {start goal : ℕ} {𝓒 : Chart} (ch : Charted w h words p start goal 𝓒) where
  -- what a trip is asked for
  pub trip : Startable w h words start goal
  trip = trip_of ch.floor ch.start_inside ch.goal_inside ch.start_free

  -- the cell of a corner's index
  pub cell_corner : (i : ℕ) → i < 𝓒.trip.k → cell 𝓒 i ≡ get_or p.corners i 0
  unfolding cell_at
  cell_corner i l = rw (lt-ltb i 𝓒.trip.k l, ch.corners)

  -- the cell of the start's own place
  pub cell_start : cell 𝓒 𝓒.trip.k ≡ start
  unfolding cell_at
  cell_start = rw (le-ltb 𝓒.trip.k 𝓒.trip.k (omega arith), eq-eqb 𝓒.trip.k 𝓒.trip.k refl, ch.start_cell)

  -- the cell of every index beyond it, where the goal's own place comes first
  pub cell_beyond : (i : ℕ) → 𝓒.trip.k < i → cell 𝓒 i ≡ goal
  unfolding cell_at
  cell_beyond i l = rw (le-ltb i 𝓒.trip.k (omega arith), ne_eqb i 𝓒.trip.k (λ e. omega arith), ch.goal_cell)

  -- the cell of the goal's own place
  pub cell_goal : cell 𝓒 (𝓒.trip.k + 1) ≡ goal
  cell_goal = cell_beyond (𝓒.trip.k + 1) (omega arith)

  -- a corner's index is within the list
  pub corner_within : {i : ℕ} → i < 𝓒.trip.k → i < length p.corners
  corner_within l = let e = ch.count in omega arith

  -- and its cell is a turning point
  pub corner_turns : (i : ℕ) → i < 𝓒.trip.k → corner_cell w h words (cell 𝓒 i) ≡ true
  corner_turns i l =
      subst (λ (c : ℕ). corner_cell w h words c ≡ true) (sym (cell_corner i l)) (corner_at ch.fits.own i (corner_within l)).1

  -- so it is a place
  corner_place : (i : ℕ) → i < 𝓒.trip.k → PlaceCell w h words start goal (cell 𝓒 i)
  corner_place i l = record {
    inside = subst (λ (c : ℕ). c < w * h) (sym (cell_corner i l)) (corner_at ch.fits.own i (corner_within l)).0;
    one_of = inl (corner_turns i l);
  }

  -- Every index stands for a place.
  pub cell_place : (i : ℕ) → PlaceCell w h words start goal (cell 𝓒 i)
  cell_place i =
      ⊎_elim (corner_place i)
      (⊎_elim
      (λ (e : i ≡ 𝓒.trip.k). subst (PlaceCell w h words start goal) (sym (ap (cell 𝓒) e ∙ cell_start)) (start_place w h words start goal trip))
      (λ (l : 𝓒.trip.k < i). subst (PlaceCell w h words start goal) (sym (cell_beyond i l)) (goal_place w h words start goal trip)))
      (stands i 𝓒.trip.k)

  -- a turning point's index is that of a corner, and has its cell
  pub turn_index : (c : ℕ) → c < w * h → corner_cell w h words c ≡ true →
      (index_of p.corners c < 𝓒.trip.k) × (cell 𝓒 (index_of p.corners c) ≡ c)
  turn_index c l t =
      let m = corner_index ch.fits.own c l t in
      let n : index_of p.corners c < 𝓒.trip.k = let e = ch.count in omega arith in
      (n, cell_corner (index_of p.corners c) n ∙ index_at p.corners c m)

  -- where the start is a corner it stands at that corner's index
  pub from_known : corner_cell w h words start ≡ true → (𝓒.trip.from < 𝓒.trip.k) × (cell 𝓒 𝓒.trip.from ≡ start)
  from_known t =
      subst (λ (i : ℕ). (i < 𝓒.trip.k) × (cell 𝓒 i ≡ start)) (sym (ch.from_corner t)) (turn_index start ch.start_inside t)

  -- and so the goal
  pub to_known : corner_cell w h words goal ≡ true → (𝓒.trip.to < 𝓒.trip.k) × (cell 𝓒 𝓒.trip.to ≡ goal)
  to_known t =
      subst (λ (i : ℕ). (i < 𝓒.trip.k) × (cell 𝓒 i ≡ goal)) (sym (ch.to_corner t)) (turn_index goal ch.goal_inside t)

  -- a start with a place of its own is no corner
  pub start_own : 𝓒.trip.from ≡ 𝓒.trip.k → corner_cell w h words start ≡ false
  start_own e =
      ⊎_elim (λ t. absurd (let l = (from_known t).0 in omega arith)) (λ f. f) (true_or_false (corner_cell w h words start))

  -- nor is such a goal
  pub goal_own : 𝓒.trip.to ≡ 𝓒.trip.k + 1 → corner_cell w h words goal ≡ false
  goal_own e =
      ⊎_elim (λ t. absurd (let l = (to_known t).0 in omega arith)) (λ f. f) (true_or_false (corner_cell w h words goal))

  -- The start's index is a place's
  pub from_used : Used 𝓒 𝓒.trip.from
  from_used =
      ⊎_elim (λ t. inl (from_known t).0) (λ f. inr (inl (ch.from_other f, ch.from_other f))) (true_or_false (corner_cell w h words start))

  -- and has the start's cell.
  pub from_cell : cell 𝓒 𝓒.trip.from ≡ start
  from_cell =
      ⊎_elim (λ t. (from_known t).1) (λ f. ap (cell 𝓒) (ch.from_other f) ∙ cell_start) (true_or_false (corner_cell w h words start))

  -- The goal's index is a place's
  pub to_used : Used 𝓒 𝓒.trip.to
  to_used =
      ⊎_elim (λ t. inl (to_known t).0) (λ f. inr (inr (ch.to_other f, ch.to_other f))) (true_or_false (corner_cell w h words goal))

  -- and has the goal's cell.
  pub to_cell : cell 𝓒 𝓒.trip.to ≡ goal
  to_cell =
      ⊎_elim (λ t. (to_known t).1) (λ f. ap (cell 𝓒) (ch.to_other f) ∙ cell_goal) (true_or_false (corner_cell w h words goal))

  -- Every place has an index.
  pub place_index : (c : ℕ) → PlaceCell w h words start goal c → (v : ℕ) × Used 𝓒 v × (cell 𝓒 v ≡ c)
  place_index c q = by q.one_of
    where
      by : (corner_cell w h words c ≡ true) ⊎ ((c ≡ start) ⊎ (c ≡ goal)) → (v : ℕ) × Used 𝓒 v × (cell 𝓒 v ≡ c)
      by (inl t) = let (l, e) = turn_index c q.inside t in (index_of p.corners c, inl l, e)
      by (inr (inl e)) = (𝓒.trip.from, from_used, from_cell ∙ sym e)
      by (inr (inr e)) = (𝓒.trip.to, to_used, to_cell ∙ sym e)

  -- the cells of corners tell them
  corners_same : (u v : ℕ) → u < 𝓒.trip.k → v < 𝓒.trip.k → cell 𝓒 u ≡ cell 𝓒 v → u ≡ v
  corners_same u v l m e =
      ascending_once p.corners (corners_ascend ch.fits.own) u v (corner_within l) (corner_within m)
      (sym (cell_corner u l) ∙ e ∙ cell_corner v m)

  -- no corner has the cell of a start with a place of its own
  pub corner_no_start : (u : ℕ) → u < 𝓒.trip.k → corner_cell w h words start ≡ false → cell 𝓒 u ≢ start
  corner_no_start u l f e = not_both (corner_turns u l) (subst (λ (c : ℕ). corner_cell w h words c ≡ false) (sym e) f)

  -- nor of such a goal
  pub corner_no_goal : (u : ℕ) → u < 𝓒.trip.k → corner_cell w h words goal ≡ false → cell 𝓒 u ≢ goal
  corner_no_goal u l f e = not_both (corner_turns u l) (subst (λ (c : ℕ). corner_cell w h words c ≡ false) (sym e) f)

  -- A place has one index.
  pub used_same : (u v : ℕ) → Used 𝓒 u → Used 𝓒 v → cell 𝓒 u ≡ cell 𝓒 v → u ≡ v
  used_same u v (inl l) (inl m) e = corners_same u v l m e
  used_same u v (inl l) (inr (inl (i, f))) e = absurd (corner_no_start u l (start_own f) (e ∙ ap (cell 𝓒) i ∙ cell_start))
  used_same u v (inl l) (inr (inr (i, f))) e = absurd (corner_no_goal u l (goal_own f) (e ∙ ap (cell 𝓒) i ∙ cell_goal))
  used_same u v (inr (inl (i, f))) (inl m) e = absurd (corner_no_start v m (start_own f) (sym e ∙ ap (cell 𝓒) i ∙ cell_start))
  used_same u v (inr (inl (i, f))) (inr (inl (j, g))) e = i ∙ sym j
  used_same u v (inr (inl (i, f))) (inr (inr (j, g))) e =
      absurd (ch.differ (sym cell_start ∙ ap (cell 𝓒) (sym i) ∙ e ∙ ap (cell 𝓒) j ∙ cell_goal))
  used_same u v (inr (inr (i, f))) (inl m) e = absurd (corner_no_goal v m (goal_own f) (sym e ∙ ap (cell 𝓒) i ∙ cell_goal))
  used_same u v (inr (inr (i, f))) (inr (inl (j, g))) e =
      absurd (ch.differ (sym cell_start ∙ ap (cell 𝓒) (sym j) ∙ sym e ∙ ap (cell 𝓒) i ∙ cell_goal))
  used_same u v (inr (inr (i, f))) (inr (inr (j, g))) e = i ∙ sym j

  -- and it is one of the first k + 2
  pub used_within : {v : ℕ} → Used 𝓒 v → v < 𝓒.trip.k + 2
  used_within (inl l) = omega arith
  used_within (inr (inl (i, f))) = omega arith
  used_within (inr (inr (i, f))) = omega arith
