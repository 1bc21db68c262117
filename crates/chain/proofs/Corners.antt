-- A plan's turning points by index, and its rows of neighbours. Assumes nothing.
use Prim.Native.Nat.{ℕ, suc, ◌+◌, ◌-◌, ◌*◌, ◌≤◌, ◌<◌}
use mathlib.Core.Bool.{true, false}
use mathlib.Core.List.{List}
use mathlib.Core.Logic.{⊎_elim}
use mathlib.Core.Path.{◌≡◌, sym, ◌∙◌, ap, subst}
use native.Mathlib.Omega.{arith}
use lib.ListN.{length, get_or}
use Rattle.ground.specs.Kind.{walkers}
use Rattle.ground.proofs.Logic.{true_or_false}
use Rattle.plan.specs.Rising.{In, Rising}
use Rattle.plan.specs.Plan.{Lists, PlanOf, LinkedCells}
use Rattle.corners.specs.Corners.{corner_cell}
use Rattle.plan.proofs.Pickings.{picked_in, in_picked, select_in, in_select, select_rising}
use Rattle.plan.proofs.Risings.{at_in, rising_later}
use Rattle.plan.proofs.Parts.{part_in, in_part}
use Rattle.plan.proofs.Links.{start_in}
use Rattle.places.specs.Places.{index_of, Ascending}
use Rattle.places.proofs.Cells.{index_at}
use Rattle.chain.proofs.Entries.{in_index, between}

module _ {w h : ℕ} {words : List ℕ} {p : Lists} (own : PlanOf w h words p) where
  -- the turning points ascend
  pub corners_ascend : Ascending p.corners
  corners_ascend =
      rising_later p.corners (subst Rising (sym own.marks.ascending) (select_rising (corner_cell w h words) (w * h)))

  -- what stands among them is a cell of the floor, and a turning point
  pub in_corner : (c : ℕ) → In c p.corners → (c < w * h) × (corner_cell w h words c ≡ true)
  in_corner c i = select_in (corner_cell w h words) (w * h) c (subst (In c) own.marks.ascending i)

  -- each entry is one
  pub corner_at : (i : ℕ) → i < length p.corners → (get_or p.corners i 0 < w * h) × (corner_cell w h words (get_or p.corners i 0) ≡ true)
  corner_at i l = in_corner (get_or p.corners i 0) (at_in p.corners i l)

  -- a turning point stands among them
  pub corner_in : (c : ℕ) → c < w * h → corner_cell w h words c ≡ true → In c p.corners
  corner_in c l t = subst (In c) (sym own.marks.ascending) (in_select (corner_cell w h words) (w * h) c l t)

  -- so it has an index
  pub corner_index : (c : ℕ) → c < w * h → corner_cell w h words c ≡ true → index_of p.corners c < length p.corners
  corner_index c l t = in_index p.corners c (corner_in c l t)

  -- what has an index is a turning point
  pub index_corner : (c : ℕ) → index_of p.corners c < length p.corners → corner_cell w h words c ≡ true
  index_corner c l =
      subst (λ (x : ℕ). corner_cell w h words x ≡ true) (index_at p.corners c l) (corner_at (index_of p.corners c) l).1

  -- what has none is not
  pub index_none : (c : ℕ) → c < w * h → length p.corners ≤ index_of p.corners c → corner_cell w h words c ≡ false
  index_none c l n =
      ⊎_elim (λ t. absurd (let m = corner_index c l t in omega arith)) (λ f. f) (true_or_false (corner_cell w h words c))

  -- a row of neighbours lies within the list
  pub row_ends : (u : ℕ) → u < length p.corners → get_or p.starts (suc u) 0 ≤ length p.neighbours
  row_ends u l = start_in walkers w h words p.corners own.links (suc u) l

  -- a neighbour is a turning point that is linked
  pub neighbour_linked :
      (u j : ℕ) → u < length p.corners → get_or p.starts u 0 ≤ j → j < get_or p.starts (suc u) 0 →
      In (get_or p.neighbours j 0) p.corners × LinkedCells walkers w h words (get_or p.corners u 0) (get_or p.neighbours j 0)
  neighbour_linked u j l a b =
      picked_in (own.links.row u l) (get_or p.neighbours j 0)
      (part_in p.neighbours (get_or p.starts u 0) (get_or p.starts (suc u) 0) (own.links.rising u l) (row_ends u l) j a b)

  -- what is linked is a neighbour
  pub linked_neighbour :
      (u t : ℕ) → u < length p.corners → In t p.corners → LinkedCells walkers w h words (get_or p.corners u 0) t →
      (j : ℕ) × (get_or p.starts u 0 + j < get_or p.starts (suc u) 0) × (get_or p.neighbours (get_or p.starts u 0 + j) 0 ≡ t)
  linked_neighbour u t l i k =
      let from : ℕ = get_or p.starts u 0 in
      let (j, a, b, e) = in_part p.neighbours from (get_or p.starts (suc u) 0) (own.links.rising u l) (row_ends u l) t (in_picked (own.links.row u l) t i k) in
      let back : from + (j - from) ≡ j = omega arith in
      (j - from, omega arith, ap (λ (n : ℕ). get_or p.neighbours n 0) back ∙ e)

  -- every neighbour stands in some row
  pub neighbour_corner : (j : ℕ) → j < length p.neighbours → In (get_or p.neighbours j 0) p.corners
  neighbour_corner j l =
      let e = own.links.last in
      let (u, a, b, c) = between (λ (i : ℕ). get_or p.starts i 0) (length p.corners) j own.links.first (omega arith) in
      (neighbour_linked u j a b c).0
