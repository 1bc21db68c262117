-- A work space with the flags of start and goal charts the trip. Assumes nothing.
use Prim.Native.Nat.{ℕ, ◌+◌, ◌*◌, ◌≤◌, ◌<◌}
use mathlib.Core.Bool.{true, false}
use mathlib.Core.List.{List}
use mathlib.Core.Logic.{⊎_elim, ◌↔◌, ◌≢◌}
use mathlib.Core.Path.{◌≡◌, refl, sym, ◌∙◌, ap, subst}
use native.Mathlib.Decide.{dec_le}
use native.Mathlib.Omega.{arith}
use lib.ListN.{length, get_or}
use Rattle.floor.specs.Board.{Free}
use Rattle.floor.specs.Words.{board, place_of}
use Rattle.floor.proofs.Places.{padded}
use Rattle.ground.proofs.Logic.{not_both}
use Rattle.ground.proofs.Numbers.{same_cell}
use Rattle.corners.specs.Corners.{corner_cell}
use Rattle.fields.specs.Fields.{Seen}
use Rattle.plan.specs.Plan.{Lists, PlanOf}
use Rattle.plan.proofs.Linked.{shown_direct, direct_shown}
use Rattle.places.specs.Columns.{column_of, ByStart, ByGoal, Label, Settled}
use Rattle.places.specs.Places.{index_of, Ascending}
use Rattle.places.specs.Chart.{chart}
use Rattle.places.specs.declared.Trip.{Trip}
use Rattle.places.proofs.Cells.{index_of_entry, index_most}
use Rattle.chain.specs.Charted.{Charted, DirectCells}
use Rattle.chain.proofs.Corners.{corners_ascend, corner_at, corner_index, index_corner}
use Rattle.ends.specs.Flags.{Flag, Flaggable, Flagging, AllFlagged}
use Rattle.ends.specs.Prepared.{Searchable, Empty, EndFlags, Prepared}
use Rattle.ends.specs.Trips.{TripOf}

-- ---- the flags of one end
module _ (w h : ℕ) (words corners : List ℕ) (cell n c : ℕ) (W : List ℕ) (empty : Empty n c W) where
  -- a cell that is no corner has those of all corners that are seen from it
  pub end_all : corner_cell w h words cell ≡ false → Ascending corners → (W' : List ℕ) → Flagging (Seen w h words cell) corners n c W W' → AllFlagged (Seen w h words cell) corners n c W' →
      EndFlags w h words corners cell n c W W'
  end_all e ascending W' f all =
      record {
        only = f.only;
        flags = λ i l. (
          λ g. (e, ⊎_elim (λ old. absurd (let z = empty i in omega arith)) (λ s. s) (f.new i l g)),
          λ s. subst (Flag n c W') (index_of_entry corners ascending i l) (all (get_or corners i 0) s.1),
        );
      }

-- ---- what is seen is direct
module _ (w h : ℕ) (words : List ℕ) where
  -- a cell is direct to what is seen from it
  pub seen_direct : (s t : ℕ) → Seen w h words s t → DirectCells w h words s t
  seen_direct s t seen = shown_direct (padded w h words) seen.field seen.field_in seen.shown.1.shows

  -- every other corner that a cell is direct to is seen from it
  pub direct_seen : (s t : ℕ) → t < w * h → corner_cell w h words t ≡ true → s ≢ t → DirectCells w h words s t → Seen w h words s t
  direct_seen s t l turns other direct =
      let (f, lf, n, shows, own) = direct_shown (padded w h words) (place_of w s) (place_of w t) direct turns (λ e. other (same_cell w s t e)) in
      record { field = f; row = n; field_in = lf; shown = (l, record { shows = shows; own = own }) }

-- ---- the chart
module _ (w h : ℕ) (words : List ℕ) (p : Lists) (start goal : ℕ) (W : List ℕ) (able : Searchable w h words p start goal W) where
  -- the lists are the floor's own plan
  own : PlanOf w h words p
  own = able.fits.own

  -- what flagging from a cell takes
  pub flaggable : (cell n c : ℕ) (W' : List ℕ) → cell < w * h → Free (board w h words) (place_of w cell) → n ≡ length p.corners + 2 → c < 6 → length W' ≡ length W →
      Flaggable w h words p.clear p.corners cell n c W'
  flaggable cell n c W' l f e m s =
      record {
        sweep = record {
          known = record { floor = able.floor; long = let z = own.marks.four_each in omega arith; cleared = own.marks.cleared };
          cell_in = l;
          free = f;
        };
        flags = record {
          count = e;
          column = m;
          room = let r = able.room in rw e (omega arith);
          ascending = corners_ascend own;
        };
        listed = λ t seen. corner_index own t seen.shown.0 seen.shown.1.shows.turns;
        few = rw (← own.marks.ascending) able.fits.few_corners;
      }

  -- a cell that is no corner has a place of its own, and a corner that of its index
  module _ (cell place last : ℕ) (inside : cell < w * h) (at-corner : index_of p.corners cell < length p.corners → place ≡ index_of p.corners cell)
      (at_other : length p.corners ≤ index_of p.corners cell → place ≡ last) (behind : length p.corners ≤ last) where
    -- where the cell is no corner, its place is the one behind the corners
    other_place : corner_cell w h words cell ≡ false → place ≡ last
    other_place f = by (dec_le (length p.corners) (index_of p.corners cell))
      where
        by : Dec (length p.corners ≤ index_of p.corners cell) → place ≡ last
        by (yes l) = at_other l
        by (no l) = not_both (index_corner own cell (omega (arith, l))) f

    -- where it is a corner, its place is its index among them
    corner_place : corner_cell w h words cell ≡ true → place ≡ index_of p.corners cell
    corner_place t = at-corner (corner_index own cell inside t)

  -- the flags of an end are those of the corners that it is direct to
  end_direct : (cell n c : ℕ) (A B : List ℕ) → EndFlags w h words p.corners cell n c A B → (i : ℕ) → i < length p.corners →
      Flag n c B i ↔ ((corner_cell w h words cell ≡ false) × DirectCells w h words cell (get_or p.corners i 0))
  end_direct cell n c A B f i l = (
    λ g. let s = (f.flags i l).0 g in (s.0, seen_direct w h words cell (get_or p.corners i 0) s.1),
    λ d. let k = corner_at own i l in
        (f.flags i l).1 (
          d.0,
          direct_seen w h words cell (get_or p.corners i 0) k.0 k.1
              (λ e. not_both (subst (λ (x : ℕ). corner_cell w h words x ≡ true) (sym e) k.1) d.0) d.1,
        ),
  )

  module _ (t : Trip) (trip : TripOf w p.corners start goal t) (A B : List ℕ)
      (one : EndFlags w h words p.corners start (length p.corners + 2) ByStart W A)
      (two : EndFlags w h words p.corners goal (length p.corners + 2) ByGoal A B) where
    -- how many entries a column has
    abbrev n : ℕ
    n = t.k + 2

    -- the flags of the start, by the trip's count
    first : EndFlags w h words p.corners start n ByStart W A
    first = rw trip.count one

    -- and those of the goal
    second : EndFlags w h words p.corners goal n ByGoal A B
    second = rw trip.count two

    -- a column that neither has changed
    untouched : (c : ℕ) → c ≢ ByStart → c ≢ ByGoal → column_of n B c ≡ column_of n W c
    untouched c d e = second.only.others c e ∙ first.only.others c d

    -- a start that is listed as a corner has its index as its place
    from_corner : index_of p.corners start < length p.corners → t.from ≡ index_of p.corners start
    from_corner l = trip.from

    -- any other start has the first place behind the corners
    from_other : length p.corners ≤ index_of p.corners start → t.from ≡ t.k
    from_other l = let m = index_most p.corners start in trip.from ∙ sym (trip.count ∙ omega arith)

    -- a goal that is not listed as a corner has the second place behind them
    to_other : length p.corners ≤ index_of p.corners goal → t.to ≡ t.k + 1
    to_other l =
        let m = index_most p.corners goal in
        trip.to_other (omega arith) ∙ ap (λ (k : ℕ). k + 1) (sym trip.count)

    -- the flags of the start are as they were set
    start_column : column_of n B ByStart ≡ column_of n A ByStart
    start_column = second.only.others ByStart (λ e. omega arith)

    -- so the work space charts the trip
    pub charted : Charted w h words p start goal (chart p.corners p.starts p.neighbours t B)
    charted =
        record {
          floor = able.floor;
          fits = able.fits;
          start_inside = able.start_inside;
          goal_inside = able.goal_inside;
          start_free = able.start_free;
          goal_free = able.goal_free;
          differ = able.differ;
          barred = able.barred;
          corners = refl;
          starts = refl;
          neighbours = refl;
          width = trip.width;
          count = trip.count;
          start_cell = trip.start_cell;
          goal_cell = trip.goal_cell;
          from_corner = corner_place start t.from t.k able.start_inside from_corner from_other (let e = trip.count in omega arith);
          from_other = other_place start t.from t.k able.start_inside from_corner from_other (let e = trip.count in omega arith);
          to_corner = corner_place goal t.to (t.k + 1) able.goal_inside trip.to_corner to_other (let e = trip.count in omega arith);
          to_other = other_place goal t.to (t.k + 1) able.goal_inside trip.to_corner to_other (let e = trip.count in omega arith);
          start_flags = λ i l.
              let e = trip.count in
              rw start_column (end_direct start n ByStart W A first i (omega arith));
          goal_flags = λ i l.
              let e = trip.count in
              end_direct goal n ByGoal A B second i (omega arith);
        }

    -- where every column was empty before the flags were set, the work space is ready for the search
    pub prepared : ((c : ℕ) → c < 6 → Empty (length p.corners + 2) c W) → Prepared w h words p start goal t W B
    prepared clean =
        let empty : (c : ℕ) → c < 6 → Empty n c W = λ c l. rw trip.count (clean c l) in
        record {
          charted = charted;
          blank = record {
            label = λ v. ap (λ (L : List ℕ). get_or L v 0) (untouched Label (λ e. omega arith) (λ e. omega arith)) ∙ empty Label (omega arith) v;
            settled = λ v. ap (λ (L : List ℕ). get_or L v 0) (untouched Settled (λ e. omega arith) (λ e. omega arith)) ∙ empty Settled (omega arith) v;
          };
          count = trip.count;
          rest = second.only.rest ∙ first.only.rest;
          sized = second.only.sized ∙ first.only.sized;
        }
