-- A charted trip is what a search asks for. Assumes nothing.
use Prim.Native.Nat.{ℕ, suc, ◌+◌, ◌*◌, ◌≤◌, ◌<◌}
use mathlib.Core.List.{List}
use mathlib.Core.Logic.{⊎_elim}
use mathlib.Core.Path.{◌≡◌, sym, ◌∙◌, ap, subst}
use native.Mathlib.Nat.{mul-le-mul_left}
use native.Mathlib.Numerals.{add-one}
use native.Mathlib.Omega.{arith}
use lib.ListN.{length, get_or}
use Rattle.floor.specs.Words.{place_of}
use Rattle.ground.specs.Kind.{walkers}
use Rattle.ground.proofs.Logic.{true_or_false}
use Rattle.plan.specs.Plan.{Lists}
use Rattle.corners.specs.Corners.{corner_cell}
use Rattle.plan.proofs.Links.{start_in}
use Rattle.places.specs.Places.{index_of, Ascending}
use Rattle.places.specs.Chart.{Chart, Fair, cell}
use Rattle.chain.specs.Charted.{Charted}
use Rattle.chain.proofs.Entries.{in_index}
use Rattle.chain.proofs.Corners.{corners_ascend, neighbour_linked, neighbour_corner}
use Rattle.chain.proofs.Places.{cell_corner, cell_place, corner_within, from_known, to_known, corner_no_start, corner_no_goal, start_own, goal_own}

module _ {w h : ℕ} {words : List ℕ} {p : Lists} {start goal : ℕ} {𝓒 : Chart} (ch : Charted w h words p start goal 𝓒) where
  -- the cells stand on a floor of at most 255 rows
  few_rows : (i : ℕ) → cell 𝓒 i < 255 * 𝓒.trip.w
  few_rows i =
      let a = (cell_place ch i).inside in
      let b = mul-le-mul_left w ch.floor.sized.high in
      let c = ch.width in
      omega arith

  -- and it has at most 16,384 cells
  few_cells : (i : ℕ) → cell 𝓒 i < 16384
  few_cells i =
      let a = (cell_place ch i).inside in
      let b = ch.floor.few_cells in
      omega arith

  -- a neighbour stands at an index of a corner
  known : (j : ℕ) → j < length 𝓒.neighbours → index_of 𝓒.corners (get_or 𝓒.neighbours j 0) < 𝓒.trip.k
  known j l =
      let m : j < length p.neighbours = omega (arith, ap length ch.neighbours) in
      let n = in_index p.corners (get_or p.neighbours j 0) (neighbour_corner ch.fits.own j m) in
      rw (ch.corners, ch.neighbours) (let e = ch.count in omega arith)

  -- and is another one
  other :
      (u j : ℕ) → u < 𝓒.trip.k → get_or 𝓒.starts u 0 ≤ j → j < get_or 𝓒.starts (u + 1) 0 → get_or 𝓒.neighbours j 0 ≡ get_or 𝓒.corners u 0 → ⊥
  other u j l a b e =
      let a' : get_or p.starts u 0 ≤ j = rw ch.starts at a in
      let b' : j < get_or p.starts (suc u) 0 = rw (ch.starts, add-one) at b in
      let e' : get_or p.neighbours j 0 ≡ get_or p.corners u 0 = rw (ch.neighbours, ch.corners) at e in
      (neighbour_linked ch.fits.own u j (corner_within ch l) a' b').1.two (sym (ap (place_of w) e'))

  -- The chart is fair.
  pub fair : Fair 𝓒
  fair = record {
    corners = ap length ch.corners ∙ sym ch.count;
    few = let a = ch.fits.few_corners in let b = ch.count in omega arith;
    ascending = subst Ascending (sym ch.corners) (corners_ascend ch.fits.own);
    rows =
        record {
          starts = ap length ch.starts ∙ ch.fits.own.links.one_more ∙ (let b = ch.count in omega arith);
          rising = λ u l. rw (ch.starts, add-one) (ch.fits.own.links.rising u (corner_within ch l));
        };
    within = λ u l.
        rw (ch.starts, ch.neighbours) (start_in walkers w h words p.corners ch.fits.own.links u (let e = ch.count in omega arith));
    known = known;
    other = other;
    some_width = let a = ch.floor.some_width in let c = ch.width in omega arith;
    width = let a = ch.floor.sized.wide in let c = ch.width in omega arith;
    cells = λ i l. few_rows i;
    small = λ i l. few_cells i;
    from = ⊎_elim (λ t. let l = (from_known ch t).0 in omega arith) (λ f. let e = ch.from_other f in omega arith) (true_or_false (corner_cell w h words start));
    to = ⊎_elim (λ t. let l = (to_known ch t).0 in omega arith) (λ f. let e = ch.to_other f in omega arith) (true_or_false (corner_cell w h words goal));
    start_new = λ e i l q. corner_no_start ch i l (start_own ch e) (cell_corner ch i l ∙ sym (ap (λ (C : List ℕ). get_or C i 0) ch.corners) ∙ q ∙ ch.start_cell);
    goal_new = λ e i l q. corner_no_goal ch i l (goal_own ch e) (cell_corner ch i l ∙ sym (ap (λ (C : List ℕ). get_or C i 0) ch.corners) ∙ q ∙ ch.goal_cell);
    start_flags = λ i l m. ch.from_other ((ch.start_flags i l).0 m).0;
    goal_flags = λ i l m. ch.to_other ((ch.goal_flags i l).0 m).0;
    differ = λ e. ch.differ (sym ch.start_cell ∙ e ∙ ch.goal_cell);
  }
