-- A sweep passes a row of a floor: what the code's tests say of the row, for each way that they can go. Assumes nothing.
use Rattle.std.specs.Prelude.{Option, Some, None}
use Prim.Native.Nat.{ℕ, suc, ◌+◌, ◌-◌, ◌*◌, ◌/◌, ◌%◌, min, ◌≤◌, ◌<◌}
use mathlib.Core.Bool.{Bool, true, false, true≢false}
use mathlib.Core.List.{List}
use mathlib.Core.Logic.{◌↔◌, ◌⊎◌, inl, inr, ⊎_elim}
use mathlib.Core.Path.{◌≡◌, refl, sym, ◌∙◌, ap, subst}
use native.Mathlib.Omega.{arith}
use lib.ListN.{length}
use Rattle.lengths.specs.Laws.{le_or_lt}
use Rattle.floor.specs.Board.{Board, Place, at, Free, Dir, dir_at, go, step, corner}
use Rattle.floor.specs.declared.lent.Cell.{Cell}
use Rattle.floor.specs.Words.{board, Sized, number_of, place_of, cell_of}
use Rattle.floor.proofs.Places.{padded}
use Rattle.floor.specs.Refusals.{Tells}
use Rattle.ground.specs.Clearance.{ahead, Clearance}
use Rattle.ground.proofs.Logic.{true_or_false, not_both}
use Rattle.ground.proofs.Cells.{column_inside, row_inside}
use Rattle.fields.specs.Fields.{slant, side, across, Opened, Come, Goes, ShowsIn, Own, OwnIn, Coming, PassedRow, NewRow, Plainly, row_clearance, OnSome, StepTold, NextTo, Ends, Said, AllSaid, KeptIf, RowRead}
use Rattle.fields.specs.declared.Sweep.{Sweep}
use Rattle.fields.specs.declared.RowEnd.{RowEnd}
use Rattle.fields.proofs.Rays.{ahead_next, ray_free, ray_step}
use Rattle.fields.proofs.Sweeps.{AtEnd, open_turn, open_wall, opened_more, shows_first, not_behind, first_way, only_first, shows_end, end_way, only_end, come_more, none_blocked}
use Rattle.ground.proofs.Numbers.{place_of_number, number_in}
use Rattle.fields.proofs.Aheads.{column_of_free, row_of_free, few_steps, few_rows}
use Rattle.fields.proofs.Clears.{ends_turn, entry_in, entry_clear, behind}

-- ---- what a row shows
module _ (w h : ℕ) (words : List ℕ) (s : Sweep) where
  -- a row that shows nothing
  said_none : Said w h words s None
  said_none t e = absurd (cc)

  -- and that shows one cell
  said_cell : (x y : ℕ) → x < w → y < h → ShowsIn w h words s.start.x s.start.y s.field s.row (at x y) → Said w h words s (Some (number_of w x y))
  said_cell x y lx ly there t e =
      let same : number_of w x y ≡ t = cc in
      subst (λ c. (c < w * h) × ShowsIn w h words s.start.x s.start.y s.field s.row (place_of w c)) same (
        number_in w h x y lx ly,
        subst (ShowsIn w h words s.start.x s.start.y s.field s.row) (sym (place_of_number w x y lx)) there,
      )

-- ---- the beginning of a row
-- what is read of a row's clearance
pub record RowClear (w h : ℕ) (words : List ℕ) (s : Sweep) (m : ℕ) : Type 0 where
  pub clear : Clearance (board w h words) (dir_at (side s.field)) (at s.at.x s.at.y) m
  pub few : m < 255

-- code may go from a free place to a free one
goes : (w h : ℕ) (words : List ℕ) → Sized w h words → (x y dir k : ℕ) → dir < 8 → k < 255 → Free (board w h words) (at x y) →
    Free (board w h words) (ahead (dir_at dir) k (at x y)) → Goes x y dir k
goes w h words sized x y dir k l f free there =
    record {
      column_near = omega (arith, column_of_free w h words x y free, sized.wide);
      row_near = omega (arith, row_of_free w h words x y free, sized.high);
      few = f;
      dir_in = l;
      column = column_inside (padded w h words) there;
      row = row_inside (padded w h words) there;
    }

module _ {w h : ℕ} {words clear : List ℕ} {s : Sweep} (new : NewRow w h words clear s) where
  -- the floor's board
  abbrev B : Board
  B = board w h words

  -- where the row begins
  abbrev here : Place
  here = at s.at.x s.at.y

  -- where the sweep goes out from
  abbrev from : Place
  from = at s.start.x s.start.y

  -- the field's diagonal direction
  abbrev d : Dir
  d = dir_at (slant s.field)

  -- and its straight one
  abbrev c : Dir
  c = dir_at (side s.field)

  -- the row begins at a free place
  here_free : Free B here
  here_free = subst (Free B) (sym new.standing.there) (ray_free B d s.row s.row from new.standing.come.ray (omega arith))

  -- the same of the cell where the row begins
  pub begins_on : OnSome w clear s.at.x s.at.y
  begins_on = record { h = h; words = words; known = new.known; free = here_free }

  -- a test of its diagonal step
  pub told_step : {told : Bool} → StepTold w clear s.at.x s.at.y s.field told → step B d here ≡ told
  unfolding begins_on
  told_step t = sym (t begins_on)

  -- the entry that the code reads
  pub row_entry : 4 * number_of w s.at.x s.at.y + side s.field < length clear
  row_entry = entry_in new.known s.at.x s.at.y (side s.field) (omega arith) here_free

  -- is the row's clearance
  pub row_clear : (m : ℕ) → m ≡ row_clearance w clear s → RowClear w h words s m
  row_clear m e =
      let is : Clearance B c here m = rw e (entry_clear new.known s.at.x s.at.y (side s.field) (omega arith) here_free) in
      record { clear = is; few = few_steps w h words new.known.floor.sized c m here here_free (is.free m (omega arith)) }

  -- the cell behind the beginning, across, where the row is not the first
  pub row_behind : 0 < s.row → (1 ≤ s.at.x + 2 * (s.field / 4)) × NextTo w h words (s.at.x + 2 * (s.field / 4) - 1) s.at.y s.at.x s.at.y (across s.field)
  row_behind z =
      let ray = new.standing.come.ray in
      let rows : s.row ≡ suc (s.row - 1) = omega arith in
      behind w h words s.field new.standing.field_in (ahead d (s.row - 1) from)
      (ray_free B d s.row (s.row - 1) from ray (omega arith)) (ray_step B d s.row (s.row - 1) from ray (omega arith))
      s.at.x s.at.y (new.standing.there ∙ ap (λ n. ahead d n from) rows ∙ ahead_next d (s.row - 1) from)

  -- the code may go along the row's clearance
  pub goes_row : (m k : ℕ) → RowClear w h words s m → k ≤ m → Goes s.at.x s.at.y (side s.field) k
  goes_row m k r l =
      goes w h words new.known.floor.sized s.at.x s.at.y (side s.field) k (omega arith) (let f = r.few in omega arith) here_free (r.clear.free k l)

  -- to its end, which is a cell
  pub end_in : (m x y : ℕ) → RowClear w h words s m → at x y ≡ ahead c m here → (x < w) × (y < h)
  end_in m x y r e =
      let free : Free B (at x y) = subst (Free B) (sym e) (r.clear.free m (omega arith)) in
      (column_of_free w h words x y free, row_of_free w h words x y free)

  -- with a small number
  pub end_number : (m x y : ℕ) → RowClear w h words s m → at x y ≡ ahead c m here → number_of w x y < 16384
  end_number m x y r e =
      let cell = end_in m x y r e in
      omega (arith, number_in w h x y cell.0 cell.1, new.known.floor.few_cells)

  -- next to the cell before
  pub end_next : (m qx qy x y : ℕ) → RowClear w h words s m → 0 < m → at qx qy ≡ ahead c (m - 1) here → at x y ≡ ahead c m here →
      NextTo w h words qx qy x y (side s.field)
  end_next m qx qy x y r z p e =
      let one_more : m ≡ suc (m - 1) = omega arith in
      record {
        straight = omega arith;
        free = subst (Free B) (sym p) (r.clear.free (m - 1) (omega arith));
        next_free = subst (Free B) (sym e) (r.clear.free m (omega arith));
        there = e ∙ ap (λ k. ahead c k here) one_more ∙ ahead_next c (m - 1) here ∙ ap (go c) (sym p);
      }

  -- and a turning point if a step leads on from it
  pub row_ends : (m x y : ℕ) → RowClear w h words s m → at x y ≡ ahead c m here → Ends w h words x y (side s.field)
  row_ends m x y r e on = subst (λ p. corner B p ≡ true) (sym e) (ends_turn r.clear (subst (λ p. Free B (go c p)) e on))

  -- ---- reading a row that begins at no turning point, or is the first
  module _ (begins : Plainly w h words s) (m : ℕ) (r : RowClear w h words s m) where
    -- the same at the place where the sweep has come
    begins_there : 0 < s.row → corner B (ahead d s.row from) ≡ false
    begins_there z = subst (λ p. corner B p ≡ false) new.standing.there (begins z)

    -- and its clearance
    clear_there : Clearance B c (ahead d s.row from) m
    clear_there = subst (λ p. Clearance B c p m) new.standing.there r.clear

    -- the row shows a place
    abbrev RowShows : Place → Type 0
    RowShows = ShowsIn w h words s.start.x s.start.y s.field s.row

    -- all that the row can show
    shown_there : (t : Place) → RowShows t → AtEnd c here s.reach m t
    shown_there t q =
        subst (λ p. AtEnd c p s.reach m t) (sym new.standing.there)
        (only_end B from d c s.row s.reach m new.standing.come begins_there clear_there r.few t q)

    -- where it shows something, it leads on
    pub linked_some : RowShows (ahead c m here) → 0 < m
    linked_some q = (shown_there _ q).some

    -- it shows a turning point where the clearance ends, within the reach
    shows_there : 0 < m → m ≤ s.reach → corner B (ahead c m here) ≡ true → RowShows (ahead c m here)
    shows_there z l t =
        subst (λ p. RowShows (ahead c m p)) (sym new.standing.there)
        (shows_end B from d c s.row s.reach m new.standing.come begins_there clear_there r.few z l
        (subst (λ p. corner B (ahead c m p) ≡ true) new.standing.there t))

    -- a clearance beyond the reach: nothing is shown where it ends
    pub linked_far : s.reach < m → Tells (RowShows (ahead c m here)) false
    linked_far l = record { yes = λ e. absurd (true≢false (sym e)); no = λ e q. let a = (shown_there _ q).reached in omega arith }

    -- no clearance: nothing is shown either
    pub linked_none : m ≡ 0 → Tells (RowShows (ahead c m here)) false
    linked_none z = record { yes = λ e. absurd (true≢false (sym e)); no = λ e q. let a = (shown_there _ q).some in omega arith }

    -- and else the test of where it ends tells
    pub linked_test : (x y : ℕ) (test : Bool) → 0 < m → m ≤ s.reach → at x y ≡ ahead c m here → test ≡ corner B (at x y) →
        Tells (RowShows (ahead c m here)) test
    linked_test x y test z l there tested =
        record {
          yes = λ e. shows_there z l (subst (λ p. corner B p ≡ true) there (sym tested ∙ e));
          no = λ e q. not_both q.turns (subst (λ p. corner B p ≡ false) there (sym tested ∙ e));
        }

    -- the reach behind the row, where the clearance ends at a turning point
    opened_turn : (n : ℕ) → 0 < m → corner B (ahead c m here) ≡ true → n ≡ min s.reach (m - 1) → Opened B from d c (suc s.row) n
    opened_turn n z t e =
        opened_more B from d c s.row s.reach (m - 1) n new.standing.come.opened
        (open_turn clear_there z (subst (λ p. corner B (ahead c m p) ≡ true) new.standing.there t)) e

    -- and where it does not
    opened_wall : (n : ℕ) → (0 < m → corner B (ahead c m here) ≡ false) → n ≡ min s.reach m → Opened B from d c (suc s.row) n
    opened_wall n f e =
        opened_more B from d c s.row s.reach m n new.standing.come.opened
        (open_wall clear_there (λ z. subst (λ p. corner B (ahead c m p) ≡ false) new.standing.there (f z))) e

    -- a row that shows where its clearance ends
    pub read_turn : (x y : ℕ) → RowShows (ahead c m here) → at x y ≡ ahead c m here →
        RowRead w h words s (record { shown = Some (number_of w x y); reach = Some (m - 1) })
    read_turn x y q there =
        let cell = end_in m x y r there in
        let a = shown_there _ q in
        record {
          said = said_cell w h words s x y cell.0 cell.1 (subst RowShows (sym there) q);
          unsaid = λ t p. ap (λ p. Some (cell_of w p)) (there ∙ sym (shown_there t p).there);
          steps = m - 1;
          told = refl;
          opened = opened_turn (m - 1) a.some q.turns (omega arith);
          few = let f = r.few in omega arith;
        }

    -- and one that does not: all of its clearance within the reach is open
    pub read_none : (n : ℕ) → (¬ (RowShows (ahead c m here))) → n ≡ min s.reach m → RowRead w h words s (record { shown = None; reach = Some n })
    read_none n none e =
        record {
          said = said_none w h words s;
          unsaid = λ t q. absurd (none (subst RowShows (shown_there t q).there q));
          steps = n;
          told = refl;
          opened = ⊎_elim
              (λ t. ⊎_elim (λ (l : m ≤ s.reach). opened_wall n (λ z. absurd (none (shows_there z l t))) e)
              (λ (l : s.reach < m). opened_turn n (omega arith) t (omega arith)) (le_or_lt m s.reach))
              (λ f. opened_wall n (λ z. f) e) (true_or_false (corner B (ahead c m here)));
          few = let f = r.few in omega arith;
        }

  -- what such a row shows lies some steps on
  shown_way : Plainly w h words s → (t : Place) (q : ShowsIn w h words s.start.x s.start.y s.field s.row t) → 0 < q.k
  shown_way begins =
      let m = row_clearance w clear s in
      let r = row_clear m refl in
      end_way B from d c s.row s.reach m new.standing.come (begins_there begins m r) (clear_there begins m r) r.few

-- ---- what is a field's own
module _ (w h : ℕ) (words : List ℕ) (s : Sweep) (A : Type 0) (all shown : Option ℕ) (kept : KeptIf A all shown)
    (own : (t : Place) (q : ShowsIn w h words s.start.x s.start.y s.field s.row t) → A ↔ Own s.field s.row q.k) where
  -- what a row says of its own, where a condition keeps just that
  said_own : Said w h words s all → (t : ℕ) → shown ≡ Some t → (t < w * h) × OwnIn w h words s.start.x s.start.y s.field s.row (place_of w t)
  said_own said t e =
      ⊎_elim
      (λ (k : A × (shown ≡ all)). let q = said t (sym k.1 ∙ e) in (q.0, record { shows = q.1; own = (own _ q.1).0 k.0 }))
      (λ (k : (¬ A) × (shown ≡ None)). absurd (let z = k.1 in cc)) kept

  -- and it leaves nothing of its own unsaid
  unsaid_own : AllSaid w h words s all → (t : Place) → OwnIn w h words s.start.x s.start.y s.field s.row t → shown ≡ Some (cell_of w t)
  unsaid_own unsaid t o =
      ⊎_elim (λ (k : A × (shown ≡ all)). k.1 ∙ unsaid t o.shows) (λ (k : (¬ A) × (shown ≡ None)). absurd (k.0 ((own t o.shows).1 o.own))) kept

-- ---- passing a row
module _ {w h : ℕ} {words clear : List ℕ} {start : Cell} {f n reach : ℕ} (coming : Coming w h words clear start.x start.y f n reach) where
  -- the floor's board
  abbrev B' : Board
  B' = board w h words

  -- the field's diagonal direction
  abbrev d' : Dir
  d' = dir_at (slant f)

  -- the beginnings of the row and of those before are free
  ray_at : (i : ℕ) → i ≤ n → Free B' (ahead d' i (at start.x start.y))
  ray_at i l = ray_free B' d' n i (at start.x start.y) coming.come.ray l

  -- the code may go to the row's beginning
  pub goes_come : Goes start.x start.y (slant f) n
  goes_come =
      goes w h words coming.known.floor.sized start.x start.y (slant f) n (omega (arith, coming.field_in)) coming.few_rows (ray_at 0 (omega arith))
      (ray_at n (omega arith))

  module _ (cell : Cell) (there : at cell.x cell.y ≡ ahead d' n (at start.x start.y)) where
    -- which is free
    there_free : Free B' (at cell.x cell.y)
    there_free = subst (Free B') (sym there) (ray_at n (omega arith))

    -- the sweep inside the row
    abbrev s' : Sweep
    s' = record { start = start; field = f; row = n; at = cell; reach = reach }

    -- stands there
    pub come_row : NewRow w h words clear s'
    come_row =
        record {
          known = coming.known;
          standing = record {
            field_in = coming.field_in;
            column_in = column_of_free w h words cell.x cell.y there_free;
            row_in = row_of_free w h words cell.x cell.y there_free;
            few_rows = coming.few_rows;
            there = there;
            come = coming.come;
          };
        }

    -- with a small number
    pub begins_number : number_of w cell.x cell.y < 16384
    begins_number = omega (arith, number_in w h cell.x cell.y come_row.standing.column_in come_row.standing.row_in, coming.known.floor.few_cells)

    -- no later row shows anything
    abbrev LastRow : Type 0
    LastRow = (m : ℕ) (t : Place) → n < m → ¬ (ShowsIn w h words start.x start.y f m t)

    -- so the sweep ends
    passed_end : {A : Type 0} (all shown : Option ℕ) → Said w h words s' all → AllSaid w h words s' all → KeptIf A all shown →
        ((t : Place) (q : ShowsIn w h words start.x start.y f n t) → A ↔ Own f n q.k) → LastRow →
        PassedRow w h words start.x start.y f n (record { shown = shown; reach = None })
    passed_end all shown said unsaid kept own last =
        record {
          said = said_own w h words s' _ all shown kept own said;
          unsaid = unsaid_own w h words s' _ all shown kept own unsaid;
          goes_on = λ r e. absurd (cc);
          ends = λ e. last;
        }

    -- a row that begins at a turning point, and is not the first: what it shows lies on the diagonal edge
    pub passed_turn : (shown : Option ℕ) → 0 < n → corner B' (at cell.x cell.y) ≡ true → KeptIf (f % 2 ≡ 0) (Some (number_of w cell.x cell.y)) shown →
        PassedRow w h words start.x start.y f n (record { shown = shown; reach = None })
    passed_turn shown z t kept =
        let c = dir_at (side f) in
        let from = at start.x start.y in
        let turns = subst (λ p. corner B' p ≡ true) there t in
        passed_end (Some (number_of w cell.x cell.y)) shown
        (said_cell w h words s' cell.x cell.y (column_of_free w h words cell.x cell.y there_free) (row_of_free w h words cell.x cell.y there_free)
        (subst (ShowsIn w h words start.x start.y f n) (sym there) (shows_first B' from d' c n z turns reach coming.come)))
        (λ t q. ap (λ p. Some (cell_of w p)) (there ∙ sym (only_first B' from d' c n z turns t q)))
        kept
        (λ t q. (
          λ even. inl even,
          λ o. ⊎_elim (λ even. even) (λ (p : (0 < n) × (0 < q.k)). absurd (let l = p.1 in omega (arith, first_way B' from d' c n z turns t q))) o,
        ))
        (λ m t l q. not_behind B' from d' c n z turns m q.k (omega arith) (omega arith) q.rows)

    -- any other row: what it shows lies on the straight edge if the row is the first
    module _ (begins : Plainly w h words s') (e : RowEnd) (read : RowRead w h words s' e) (shown : Option ℕ)
        (kept : KeptIf ((f % 2 ≡ 0) ⊎ (0 < n)) e.shown shown) where
      -- so just that is its own which is kept
      kept_own : (t : Place) (q : ShowsIn w h words start.x start.y f n t) → ((f % 2 ≡ 0) ⊎ (0 < n)) ↔ Own f n q.k
      kept_own t q = (
        λ a. ⊎_elim (λ even. inl even) (λ z. inr (z, shown_way come_row begins t q)) a,
        λ o. ⊎_elim (λ even. inl even) (λ (p : (0 < n) × (0 < q.k)). inr p.0) o,
      )

      -- no step leads on from it
      pub passed_last : step B' d' (at cell.x cell.y) ≡ false → PassedRow w h words start.x start.y f n (record { shown = shown; reach = None })
      passed_last blocked =
          passed_end e.shown shown read.said read.unsaid kept kept_own
          (λ m t l. none_blocked B' (at start.x start.y) d' (dir_at (side f)) n m t (subst (λ p. step B' d' p ≡ false) there blocked) l)

      -- a legal step does
      pub passed_on : step B' d' (at cell.x cell.y) ≡ true → PassedRow w h words start.x start.y f n (record { shown = shown; reach = e.reach })
      passed_on legal =
          let come : Come B' (at start.x start.y) d' (dir_at (side f)) (suc n) read.steps =
          come_more B' (at start.x start.y) d' (dir_at (side f)) n reach read.steps coming.come (λ z. subst (λ p. corner B' p ≡ false) there (begins z))
          (subst (λ p. step B' d' p ≡ true) there legal) read.opened in
          record {
            said = said_own w h words s' _ e.shown shown kept kept_own read.said;
            unsaid = unsaid_own w h words s' _ e.shown shown kept kept_own read.unsaid;
            goes_on = λ r l.
                let same : read.steps ≡ r = let t = read.told in cc in
                (subst (λ k. k < 256) same read.few, few_rows w h words coming.known.floor.sized d' (suc n) (at start.x start.y) come.ray, subst (Come B' (at start.x start.y) d' (dir_at (side f)) (suc n)) same come);
            ends = λ l. absurd (let t = read.told in cc);
          }
