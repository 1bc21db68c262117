-- The links of a charted trip, by index, are those of Definition 2 between its places. Assumes nothing.
use Prim.Native.Nat.{ℕ, suc, ◌+◌, ◌-◌, ◌<◌}
use mathlib.Core.List.{List}
use mathlib.Core.Logic.{◌⊎◌, inl, inr, ⊎_elim, ◌≢◌}
use mathlib.Core.Path.{◌≡◌, refl, sym, ◌∙◌, ap, subst, subst₂}
use native.Mathlib.Numerals.{add-one}
use native.Mathlib.Omega.{arith}
use lib.ListN.{length, get_or}
use borrow.Author.Tests.{lt-ltb}
use Rattle.std.specs.Prelude.{Some}
use Rattle.floor.specs.Words.{place_of}
use Rattle.ground.specs.Kind.{walkers}
use Rattle.ground.proofs.Lines.{direct_line}
use Rattle.ground.proofs.Reverse.{direct_back}
use Rattle.ground.proofs.Walkers.{walker_ways}
use Rattle.plan.specs.Plan.{Lists, LinkedCells}
use Rattle.plan.proofs.Risings.{at_in}
use Rattle.effort.specs.Net.{Joined}
use Rattle.ground.proofs.Numbers.{same_cell, within}
use Rattle.places.specs.Places.{index_of}
use Rattle.places.specs.Chart.{Chart, flagged, arcs_of, arcs, corner_link, cell, net}
use Rattle.places.proofs.Cells.{some_one, index_at, index_of_entry}
use Rattle.places.proofs.Links.{flag_some, corner_arc, corner_start, corner_goal, link_corner, link_start, link_goal, count_end, count_corner}
use Rattle.chain.specs.Charted.{DirectCells, Charted, Used}
use Rattle.chain.proofs.Entries.{in_index}
use Rattle.chain.proofs.Corners.{corners_ascend, neighbour_linked, linked_neighbour}
use Rattle.chain.proofs.Places.{stands, cell_corner, cell_start, cell_beyond, cell_goal, corner_within, corner_turns, cell_place, start_own, goal_own, corner_no_start, corner_no_goal}

-- a flag that is set leads to its place
set_flagged : (L : List ℕ) (i place : ℕ) → 0 < get_or L i 0 → flagged L i place ≡ Some place
unfolding flagged
set_flagged L i place l = rw (lt-ltb 0 (get_or L i 0) l)

-- joined directly is the same both ways
pub direct_turned : (w h : ℕ) (words : List ℕ) (s t : ℕ) → DirectCells w h words s t → DirectCells w h words t s
direct_turned w h words s t = direct_back walker_ways (within w h words).padded (place_of w s) (place_of w t)

-- and so are links of a trip
pub joined_turned : {w h : ℕ} {words : List ℕ} {start goal : ℕ} {a b : ℕ} → Joined w h words start goal a b → Joined w h words start goal b a
joined_turned {w} {h} {words} {a = a} {b = b} j =
    record { from = j.to; to = j.from; two = λ e. j.two (sym e); direct = direct_turned w h words a b j.direct }

-- what a chart links
module _ (𝓒 : Chart) where
  -- what a corner u is linked to: its neighbours, and by a flag start and goal
  abbrev CornerLinks : ℕ → ℕ → Type 0
  CornerLinks u v =
      ((j : ℕ) × (j < arcs 𝓒 u) × (index_of 𝓒.corners (get_or 𝓒.neighbours (get_or 𝓒.starts u 0 + j) 0) ≡ v))
      ⊎ (((v ≡ 𝓒.trip.k) × (0 < get_or 𝓒.by_start u 0)) ⊎ ((v ≡ 𝓒.trip.k + 1) × (0 < get_or 𝓒.by_goal u 0)))

  -- a link of a corner is one of these
  corner_links : (u v : ℕ) → u < 𝓒.trip.k → (net 𝓒).Link u v → CornerLinks u v
  corner_links u v l (j, m, e) =
      ⊎_elim (λ (a : j < arcs 𝓒 u). inl (j, a, some_one (sym (corner_arc 𝓒 u j a) ∙ f)))
      (⊎_elim
      (λ (a : j ≡ arcs 𝓒 u). let q = flag_some 𝓒.by_start u 𝓒.trip.k v (sym (corner_start 𝓒 u j a) ∙ f) in inr (inl (sym q.1, q.0)))
      (λ (a : arcs 𝓒 u < j). let q = flag_some 𝓒.by_goal u (𝓒.trip.k + 1) v (sym (corner_goal 𝓒 u j a) ∙ f) in inr (inr (sym q.1, q.0))))
      (stands j (arcs 𝓒 u))
    where
      f : corner_link 𝓒 u j ≡ Some v
      f = sym (link_corner 𝓒 u j l) ∙ e

  -- and each of these is a link
  links_corner : (u v : ℕ) → u < 𝓒.trip.k → CornerLinks u v → (net 𝓒).Link u v
  links_corner u v l (inl (j, a, e)) =
      (j, (let c = count_corner 𝓒 u l in omega arith), link_corner 𝓒 u j l ∙ corner_arc 𝓒 u j a ∙ ap (λ (x : ℕ). Some x) e)
  links_corner u v l (inr (inl (e, f))) = (
    arcs 𝓒 u,
    (let c = count_corner 𝓒 u l in omega arith),
    link_corner 𝓒 u (arcs 𝓒 u) l
        ∙ corner_start 𝓒 u (arcs 𝓒 u) refl
        ∙ set_flagged 𝓒.by_start u 𝓒.trip.k f
        ∙ ap (λ (x : ℕ). Some x) (sym e),
  )
  links_corner u v l (inr (inr (e, f))) = (
    arcs 𝓒 u + 1,
    (let c = count_corner 𝓒 u l in omega arith),
    link_corner 𝓒 u (arcs 𝓒 u + 1) l
        ∙ corner_goal 𝓒 u (arcs 𝓒 u + 1) (omega arith)
        ∙ set_flagged 𝓒.by_goal u (𝓒.trip.k + 1) f
        ∙ ap (λ (x : ℕ). Some x) (sym e),
  )

  -- a link of the start's own place leads to a corner with its flag
  start_links : (v : ℕ) → (net 𝓒).Link 𝓒.trip.k v → (v < 𝓒.trip.k) × (0 < get_or 𝓒.by_start v 0)
  start_links v (j, m, e) =
      let q = flag_some 𝓒.by_start j j v (sym (link_start 𝓒 𝓒.trip.k j refl) ∙ e) in
      subst (λ (x : ℕ). (x < 𝓒.trip.k) × (0 < get_or 𝓒.by_start x 0)) q.1
      ((let c = count_end 𝓒 𝓒.trip.k (omega arith) in omega arith), q.0)

  -- and each such corner is linked
  links_start : (v : ℕ) → v < 𝓒.trip.k → 0 < get_or 𝓒.by_start v 0 → (net 𝓒).Link 𝓒.trip.k v
  links_start v l f = (
    v,
    (let c = count_end 𝓒 𝓒.trip.k (omega arith) in omega arith),
    link_start 𝓒 𝓒.trip.k v refl ∙ set_flagged 𝓒.by_start v v f,
  )

  -- a link of the goal's own place leads to a corner with its flag
  goal_links : (u v : ℕ) → 𝓒.trip.k < u → (net 𝓒).Link u v → (v < 𝓒.trip.k) × (0 < get_or 𝓒.by_goal v 0)
  goal_links u v l (j, m, e) =
      let q = flag_some 𝓒.by_goal j j v (sym (link_goal 𝓒 u j l) ∙ e) in
      subst (λ (x : ℕ). (x < 𝓒.trip.k) × (0 < get_or 𝓒.by_goal x 0)) q.1 ((let c = count_end 𝓒 u (omega arith) in omega arith), q.0)

  -- and each such corner is linked
  links_goal : (u v : ℕ) → 𝓒.trip.k < u → v < 𝓒.trip.k → 0 < get_or 𝓒.by_goal v 0 → (net 𝓒).Link u v
  links_goal u v l m f = (v, (let c = count_end 𝓒 u (omega arith) in omega arith), link_goal 𝓒 u v l ∙ set_flagged 𝓒.by_goal v v f)

module _ {w h : ℕ} {words : List ℕ} {p : Lists} {start goal : ℕ} {𝓒 : Chart} (ch : Charted w h words p start goal 𝓒) where
  -- how many neighbours a corner has
  arcs_are : (u : ℕ) → arcs 𝓒 u ≡ get_or p.starts (suc u) 0 - get_or p.starts u 0
  unfolding arcs_of
  arcs_are u = rw (ch.starts, add-one)

  -- a listed neighbour is a corner that is linked
  neighbour_there :
      (u v : ℕ) → u < 𝓒.trip.k → (j : ℕ) → j < arcs 𝓒 u →
      index_of 𝓒.corners (get_or 𝓒.neighbours (get_or 𝓒.starts u 0 + j) 0) ≡ v →
      (v < 𝓒.trip.k) × LinkedCells walkers w h words (cell 𝓒 u) (cell 𝓒 v)
  neighbour_there u v l j m e =
      let t : ℕ = get_or p.neighbours (get_or p.starts u 0 + j) 0 in
      let e' : index_of p.corners t ≡ v = rw (ch.corners, ch.neighbours, ch.starts) at e in
      let a = arcs_are u in
      let (i, k) = neighbour_linked ch.fits.own u (get_or p.starts u 0 + j) (corner_within ch l) (omega arith) (omega arith) in
      let n : index_of p.corners t < length p.corners = in_index p.corners t i in
      let inside : v < 𝓒.trip.k = let c = ch.count in omega arith in
      let there : cell 𝓒 v ≡ t = cell_corner ch v inside ∙ ap (λ (x : ℕ). get_or p.corners x 0) (sym e') ∙ index_at p.corners t n in
      (inside, subst₂ (λ (x y : ℕ). LinkedCells walkers w h words x y) (sym (cell_corner ch u l)) (sym there) k)

  -- the chart lists the neighbours of the plan
  listed :
      (u j v : ℕ) → index_of p.corners (get_or p.neighbours (get_or p.starts u 0 + j) 0) ≡ v →
      index_of 𝓒.corners (get_or 𝓒.neighbours (get_or 𝓒.starts u 0 + j) 0) ≡ v
  listed u j v e = rw (ch.corners, ch.neighbours, ch.starts) e

  -- and such a corner is listed
  there_neighbour :
      (u v : ℕ) → u < 𝓒.trip.k → v < 𝓒.trip.k → LinkedCells walkers w h words (cell 𝓒 u) (cell 𝓒 v) →
      (j : ℕ) × (j < arcs 𝓒 u) × (index_of 𝓒.corners (get_or 𝓒.neighbours (get_or 𝓒.starts u 0 + j) 0) ≡ v)
  there_neighbour u v l m k =
      let (j, a, e) =
      linked_neighbour ch.fits.own u (get_or p.corners v 0) (corner_within ch l) (at_in p.corners v (corner_within ch m))
      (subst₂ (λ (x y : ℕ). LinkedCells walkers w h words x y) (cell_corner ch u l) (cell_corner ch v m) k) in
      let b = arcs_are u in (
        j,
        omega arith,
        listed u j v
            (ap (index_of p.corners) e ∙ index_of_entry p.corners (corners_ascend ch.fits.own) v (corner_within ch m)),
      )

  -- two different places that are direct are joined
  joins : (u v : ℕ) → cell 𝓒 u ≢ cell 𝓒 v → DirectCells w h words (cell 𝓒 u) (cell 𝓒 v) → Joined w h words start goal (cell 𝓒 u) (cell 𝓒 v)
  joins u v n d = record { from = cell_place ch u; to = cell_place ch v; two = n; direct = d }

  -- a flag of the start joins it and a corner
  start_joined : (u v : ℕ) → u < 𝓒.trip.k → cell 𝓒 v ≡ start → 0 < get_or 𝓒.by_start u 0 → Joined w h words start goal (cell 𝓒 u) (cell 𝓒 v)
  start_joined u v l e f =
      let (other, d) = (ch.start_flags u l).0 f in
      joins u v (λ q. corner_no_start ch u l other (q ∙ e))
      (direct_turned w h words (cell 𝓒 v) (cell 𝓒 u) (rw (e, cell_corner ch u l) d))

  -- and one of the goal
  goal_joined : (u v : ℕ) → u < 𝓒.trip.k → cell 𝓒 v ≡ goal → 0 < get_or 𝓒.by_goal u 0 → Joined w h words start goal (cell 𝓒 u) (cell 𝓒 v)
  goal_joined u v l e f =
      let (other, d) = (ch.goal_flags u l).0 f in
      joins u v (λ q. corner_no_goal ch u l other (q ∙ e))
      (direct_turned w h words (cell 𝓒 v) (cell 𝓒 u) (rw (e, cell_corner ch u l) d))

  -- what is joined to a start with a place of its own has its flag
  joined_start :
      (u v : ℕ) → u < 𝓒.trip.k → cell 𝓒 v ≡ start → 𝓒.trip.from ≡ 𝓒.trip.k → DirectCells w h words (cell 𝓒 v) (cell 𝓒 u) →
      0 < get_or 𝓒.by_start u 0
  joined_start u v l e own d = (ch.start_flags u l).1 (start_own ch own, rw (e, cell_corner ch u l) at d)

  -- and so for the goal
  joined_goal :
      (u v : ℕ) → u < 𝓒.trip.k → cell 𝓒 v ≡ goal → 𝓒.trip.to ≡ 𝓒.trip.k + 1 → DirectCells w h words (cell 𝓒 v) (cell 𝓒 u) →
      0 < get_or 𝓒.by_goal u 0
  joined_goal u v l e own d = (ch.goal_flags u l).1 (goal_own ch own, rw (e, cell_corner ch u l) at d)

  -- start and goal are not direct
  pub never_direct : ¬ (DirectCells w h words start goal)
  never_direct d = ch.barred (direct_line (within w h words).padded (place_of w start) (place_of w goal) d).0.0

  -- A link of the chart leads to a place, and joins the two.
  pub link_there : (u v : ℕ) → (net 𝓒).Link u v → Used 𝓒 v × Joined w h words start goal (cell 𝓒 u) (cell 𝓒 v)
  link_there u v k = by (stands u 𝓒.trip.k)
    where
      from_corner : u < 𝓒.trip.k → CornerLinks 𝓒 u v → Used 𝓒 v × Joined w h words start goal (cell 𝓒 u) (cell 𝓒 v)
      from_corner l (inl (j, a, e)) =
          let (m, i) = neighbour_there u v l j a e in
          (inl m, joins u v (λ q. i.two (ap (place_of w) q)) i.direct)
      from_corner l (inr (inl (e, f))) =
          let own = ch.from_other ((ch.start_flags u l).0 f).0 in
          (inr (inl (e, own)), start_joined u v l (ap (cell 𝓒) e ∙ cell_start ch) f)
      from_corner l (inr (inr (e, f))) =
          let own = ch.to_other ((ch.goal_flags u l).0 f).0 in
          (inr (inr (e, own)), goal_joined u v l (ap (cell 𝓒) e ∙ cell_goal ch) f)

      by : (u < 𝓒.trip.k) ⊎ ((u ≡ 𝓒.trip.k) ⊎ (𝓒.trip.k < u)) → Used 𝓒 v × Joined w h words start goal (cell 𝓒 u) (cell 𝓒 v)
      by (inl l) = from_corner l (corner_links 𝓒 u v l k)
      by (inr (inl e)) =
          let (m, f) = start_links 𝓒 v (subst (λ (x : ℕ). (net 𝓒).Link x v) e k) in
          (inl m, joined_turned (start_joined v u m (ap (cell 𝓒) e ∙ cell_start ch) f))
      by (inr (inr l)) =
          let (m, f) = goal_links 𝓒 u v l k in
          (inl m, joined_turned (goal_joined v u m (cell_beyond ch u l) f))

  -- Two places that are joined are linked in the chart.
  pub link_back : (u v : ℕ) → Used 𝓒 u → Used 𝓒 v → Joined w h words start goal (cell 𝓒 u) (cell 𝓒 v) → (net 𝓒).Link u v
  link_back u v (inl l) (inl m) k =
      links_corner 𝓒 u v l (inl (there_neighbour u v l m (record {
        from = corner_turns ch u l;
        to = corner_turns ch v m;
        two = λ q. k.two (same_cell w (cell 𝓒 u) (cell 𝓒 v) q);
        direct = k.direct;
      })))
  link_back u v (inl l) (inr (inl (e, own))) k =
      links_corner 𝓒 u v l (inr (inl (e, joined_start u v l (ap (cell 𝓒) e ∙ cell_start ch) own (joined_turned k).direct)))
  link_back u v (inl l) (inr (inr (e, own))) k =
      links_corner 𝓒 u v l (inr (inr (e, joined_goal u v l (ap (cell 𝓒) e ∙ cell_goal ch) own (joined_turned k).direct)))
  link_back u v (inr (inl (e, own))) (inl m) k =
      subst (λ (x : ℕ). (net 𝓒).Link x v) (sym e) (links_start 𝓒 v m (joined_start v u m (ap (cell 𝓒) e ∙ cell_start ch) own k.direct))
  link_back u v (inr (inl (e, own))) (inr (inl (i, o))) k = absurd (k.two (ap (cell 𝓒) (e ∙ sym i)))
  link_back u v (inr (inl (e, own))) (inr (inr (i, o))) k =
      absurd (never_direct (subst₂ (λ (x y : ℕ). DirectCells w h words x y) (ap (cell 𝓒) e ∙ cell_start ch) (ap (cell 𝓒) i ∙ cell_goal ch) k.direct))
  link_back u v (inr (inr (e, own))) (inl m) k =
      links_goal 𝓒 u v (omega arith) m (joined_goal v u m (ap (cell 𝓒) e ∙ cell_goal ch) own k.direct)
  link_back u v (inr (inr (e, own))) (inr (inl (i, o))) k =
      absurd
      (never_direct
      (subst₂ (λ (x y : ℕ). DirectCells w h words x y) (ap (cell 𝓒) i ∙ cell_start ch) (ap (cell 𝓒) e ∙ cell_goal ch) (joined_turned k).direct))
  link_back u v (inr (inr (e, own))) (inr (inr (i, o))) k = absurd (k.two (ap (cell 𝓒) (e ∙ sym i)))

  -- Links lead both ways.
  pub link_turned : (u v : ℕ) → Used 𝓒 u → (net 𝓒).Link u v → (net 𝓒).Link v u
  link_turned u v a k = let (b, j) = link_there u v k in link_back v u b a (joined_turned j)
