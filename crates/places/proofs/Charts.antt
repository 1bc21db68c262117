-- A chart that is ready: what keeps it so, and the neighbours of a corner by the table.
-- Assumes nothing.
use mathlib.Core.Path.{◌≡◌, sym, ◌∙◌}
use mathlib.Core.List.{List, []}
use Prim.Native.Nat.{ℕ, ◌+◌, ◌-◌, ◌≤◌, ◌<◌}
use native.Mathlib.Omega.{arith}
use lib.ListN.{length, get_or, take, drop, length-take, length-drop}
use lib.Seq.{get_or-take, get_or-drop}
use Rattle.std.specs.Prelude.{Some}
use Rattle.places.specs.declared.Trip.{Trip}
use Rattle.places.specs.Columns.{column_of, ByStart, ByGoal, Left}
use Rattle.places.specs.Places.{index_of, Indexed, cell_at, TwoCells}
use Rattle.places.specs.Chart.{chart, arcs_of, NeighboursOf, link_at, link_count, Fair, Ready}
use Rattle.places.proofs.Columns.{column_at}
use Rattle.places.proofs.Cells.{index_at, cell_corner}
use Rattle.places.proofs.Links.{link_corner, corner_arc, count_corner, arc_inside, two_cells}

-- What is left as it was holds the same chart.
pub chart_same : (C S E : List ℕ) (t : Trip) {W W' : List ℕ} → Left (t.k + 2) W W' → chart C S E t W' ≡ chart C S E t W
chart_same C S E t l = rw (l.by_start, l.by_goal)

-- What is ready stays ready.
pub ready_kept : {C S E : List ℕ} {t : Trip} {W W' : List ℕ} → Ready C S E t W → Left (t.k + 2) W W' → Ready C S E t W'
ready_kept r l = record { fair = rw (l.by_start, l.by_goal) r.fair; room = rw l.sized r.room }

-- A chart that is fair is so without the flags.
pub fair_before : (C S E : List ℕ) (t : Trip) (W : List ℕ) → Fair (chart C S E t W) → Fair (chart C S E t [])
fair_before C S E t W f = record {
  corners = f.corners;
  few = f.few;
  ascending = f.ascending;
  rows = f.rows;
  within = f.within;
  known = f.known;
  other = f.other;
  some_width = f.some_width;
  width = f.width;
  cells = f.cells;
  small = f.small;
  from = f.from;
  to = f.to;
  start_new = f.start_new;
  goal_new = f.goal_new;
  start_flags = λ i h l. absurd (omega (arith, none ByStart i h, l));
  goal_flags = λ i h l. absurd (omega (arith, none ByGoal i h, l));
  differ = f.differ;
}
  where
    none : (c i : ℕ) → i < t.k → get_or (column_of (t.k + 2) [] c) i 0 ≡ 0
    none c i h = column_at (t.k + 2) [] c i (omega arith)

-- The cells of corners are below 16,384.
pub corner_small : {C S E : List ℕ} {t : Trip} {W : List ℕ} → Ready C S E t W → (i : ℕ) → i < length C → get_or C i 0 < 16384
corner_small {C} {S} {E} {t} r i h =
    let low : i < t.k = omega (arith, r.fair.corners) in
    omega (arith, cell_corner C t i low, r.fair.small i (omega arith))

-- ---- the neighbours of a corner
-- A part of the list of neighbours lists those of a corner.
pub neighbours_taken : (S E : List ℕ) (u : ℕ) → get_or S (u + 1) 0 ≤ length E → NeighboursOf S E u (take (get_or S (u + 1) 0 - get_or S u 0) (drop (get_or S u 0) E))
unfolding arcs_of
neighbours_taken S E u within = record {
  count = rw (length-take (get_or S (u + 1) 0 - get_or S u 0) (drop (get_or S u 0) E), length-drop (get_or S u 0) E) (omega arith);
  each = λ j h. get_or-take (get_or S (u + 1) 0 - get_or S u 0) (drop (get_or S u 0) E) j 0 h ∙ get_or-drop (get_or S u 0) E j 0;
}

-- A corner has no fewer links than neighbours.
pub arcs_most : (C S E : List ℕ) (t : Trip) (W : List ℕ) (u : ℕ) → u < t.k → arcs_of S u ≤ link_count (chart C S E t W) u
arcs_most C S E t W u corner = omega (arith, count_corner (chart C S E t W) u corner)

module _ {C S E : List ℕ} {t : Trip} {W Q : List ℕ} (u j : ℕ) (ready : Ready C S E t W) (indexed : Indexed C Q) (corner : u < t.k) (there : j < arcs_of S u) where
  -- the cell that the arc leads to
  abbrev to : ℕ
  to = get_or E (get_or S u 0 + j) 0

  -- The arc stands in the list of neighbours.
  pub arc_within : get_or S u 0 + j < length E
  arc_within = let a = arc_inside (chart C S E t W) ready.fair u j corner there in omega (arith, a.0, a.1)

  -- it leads to a corner
  known : index_of C to < t.k
  known = ready.fair.known (get_or S u 0 + j) arc_within

  -- whose cell it is
  pub is_cell : cell_at C t (index_of C to) ≡ to
  is_cell = cell_corner C t (index_of C to) known ∙ index_at C to (rw ready.fair.corners known)

  -- Its cell has an entry in the table.
  pub arc_entry : to < length Q
  arc_entry = omega (arith, is_cell, ready.fair.small (index_of C to) (omega (arith, known)), indexed.room)

  -- That entry is the corner's index.
  pub arc_index : get_or Q to 0 ≡ index_of C to
  arc_index =
      let q = index_at C to (rw ready.fair.corners known) in
      rw q at (indexed.index (index_of C to) (rw ready.fair.corners known))

  -- The entry is a place.
  pub arc_place : get_or Q to 0 < t.k + 2
  arc_place = omega (arith, arc_index, known)

  -- Both cells lie on the floor.
  pub arc_cells : TwoCells t.w (cell_at C t u) to
  arc_cells = rw is_cell at (two_cells (chart C S E t W) ready.fair u (index_of C to) (omega arith) (omega (arith, known)))

  -- The arc is link j of u.
  pub arc_link : Some (index_of C to) ≡ link_at (chart C S E t W) u j
  arc_link = sym (link_corner (chart C S E t W) u j corner ∙ corner_arc (chart C S E t W) u j there)
