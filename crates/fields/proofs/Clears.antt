-- What clearances tell of the places round a cell: which steps are legal, and which places are turning points. Assumes nothing.
use Prim.Native.Nat.{ℕ, zero, suc, pred, ◌+◌, ◌-◌, ◌*◌, ◌/◌, ◌%◌, ◌≤◌, ◌<◌}
use mathlib.Core.Bool.{true, false, not, ◌&&◌, ◌||◌, and-true}
use mathlib.Core.List.{List}
use mathlib.Core.Logic.{⊎_elim}
use mathlib.Core.Path.{◌≡◌, refl, sym, ◌∙◌, ap, subst}
use native.Mathlib.Omega.{arith}
use lib.Dec.{ltb}
use lib.ListN.{length, get_or}
use borrow.Author.Rules.{rules}
use borrow.Author.Tests.{lt-ltb, le-ltb}
use Rattle.floor.specs.Board.{Board, Place, at, Free, Dir, dir_at, Offset, less, same, more, dx, dy, shift, go, moving, slanted, step, corner}
use Rattle.floor.specs.Words.{board, number_of}
use Rattle.floor.proofs.Below.{below}
use Rattle.floor.proofs.Places.{padded}
use Rattle.windows.proofs.Windows.{shift_offset}
use Rattle.ground.specs.Clearance.{ahead, Clearance}
use Rattle.ground.proofs.Logic.{not_both, and_left, and_right, and-false}
use Rattle.ground.proofs.Cells.{column_inside, row_inside}
use Rattle.ground.proofs.Walks.{place_eq}
use Rattle.marks.specs.Marks.{ClearanceAt}
use Rattle.ground.proofs.Numbers.{place_of_number, number_in}
use Rattle.marks.proofs.Recurrence.{clearance_of_free}
use Rattle.fields.specs.Fields.{slant, across, along, Known, OnSome, NextTo, Ends, opens_out}
use Rattle.fields.proofs.Rays.{ahead_next, step_free}
use Rattle.fields.proofs.Aheads.{column_of_free, row_of_free}
use Rattle.fields.proofs.Nooks.{by_sides, went_back}

-- ---- one clearance
module _ {B : Board} {c : Dir} {p : Place} {m : ℕ} (clear : Clearance B c p m) where
  -- above 0 it leads to a free place
  pub leads : 0 < m → Free B (go c p)
  leads z = clear.free 1 z

  -- and at 0 the next place is blocked
  pub leads_not : m ≡ 0 → B (go c p).x (go c p).y ≡ false
  leads_not z =
      ⊎_elim (λ a. absurd (let l = a.0 in omega arith)) (λ b. subst (λ k. B (ahead c (suc k) p).x (ahead c (suc k) p).y ≡ false) z b) clear.stops

  -- so whether it is above 0 tells whether the next place is free
  pub leads_test : ltb 0 m ≡ B (go c p).x (go c p).y
  leads_test = by m refl
    where
      by : (n : ℕ) → m ≡ n → ltb 0 m ≡ B (go c p).x (go c p).y
      by zero e = le-ltb 0 m (omega arith) ∙ sym (leads_not e)
      by (suc n) e = lt-ltb 0 m (omega arith) ∙ sym (leads (omega arith))

  -- where it ends is a turning point, if a step leads on from there
  pub ends_turn : Free B (go c (ahead c m p)) → corner B (ahead c m p) ≡ true
  ends_turn on = ⊎_elim (λ a. a.1) (λ b. not_both on (subst (λ q. B q.x q.y ≡ false) (ahead_next c m p) b)) clear.stops

-- ---- the directions of a field
-- what a field's number says of its diagonal direction and the two straight ones of which that is made
pub record Ways (f : ℕ) : Type 0 where
  pub diagonal : slanted (dir_at (slant f)) ≡ true
  pub across_in : across f < 4
  pub along_in : along f < 4
  pub across_x : dx (dir_at (across f)) ≡ dx (dir_at (slant f))
  pub across_y : dy (dir_at (across f)) ≡ same
  pub along_x : dx (dir_at (along f)) ≡ same
  pub along_y : dy (dir_at (along f)) ≡ dy (dir_at (slant f))
  pub added : along f ≡ shift (dy (dir_at (slant f))) 1
  pub added_back : 2 * (f / 4) + shift (dx (dir_at (slant f))) 1 ≡ 2

-- for each of the eight
pub ways : (f : ℕ) → f < 8 → Ways f
ways = below Ways 8 (search rules)

module _ (f : ℕ) (l : f < 8) (p : Place) where
  -- where the step across leads
  pub across_place : go (dir_at (across f)) p ≡ record { x = shift (dx (dir_at (slant f))) p.x; y = p.y }
  across_place = place_eq (ap (λ o. shift o p.x) (ways f l).across_x) (ap (λ o. shift o p.y) (ways f l).across_y)

  -- and the step along
  pub along_place : go (dir_at (along f)) p ≡ record { x = p.x; y = shift (dy (dir_at (slant f))) p.y }
  along_place = place_eq (ap (λ o. shift o p.x) (ways f l).along_x) (ap (λ o. shift o p.y) (ways f l).along_y)

-- ---- a diagonal step
module _ (B : Board) (d : Dir) (p : Place) (s : slanted d ≡ true) where
  -- asks three places
  slanted_step : step B d p ≡
      (B (shift (dx d) p.x) (shift (dy d) p.y) && (B (shift (dx d) p.x) p.y && B p.x (shift (dy d) p.y)))
  unfolding step
  slanted_step =
      ap (λ b. B (shift (dx d) p.x) (shift (dy d) p.y) && (not b || (B (shift (dx d) p.x) p.y && B p.x (shift (dy d) p.y)))) s

  -- the one across,
  pub needs_across : B (shift (dx d) p.x) p.y ≡ false → step B d p ≡ false
  needs_across h = slanted_step ∙ rw (h, and-false)

  -- the one along,
  pub needs_along : B p.x (shift (dy d) p.y) ≡ false → step B d p ≡ false
  needs_along h = slanted_step ∙ rw (h, and-false, and-false)

  -- and its target
  pub needs_target : B (shift (dx d) p.x) p.y ≡ true → B p.x (shift (dy d) p.y) ≡ true →
      step B d p ≡ B (shift (dx d) p.x) (shift (dy d) p.y)
  needs_target h k = slanted_step ∙ rw (h, k, and-true)

  -- past a free place along
  pub along_free : step B d p ≡ true → B p.x (shift (dy d) p.y) ≡ true
  along_free h =
      and_right (B (shift (dx d) p.x) p.y) _ (and_right (B (shift (dx d) p.x) (shift (dy d) p.y)) _ (sym slanted_step ∙ h))

-- ---- the clearances of a floor
module _ {w h : ℕ} {words clear : List ℕ} (known : Known w h words clear) where
  -- the floor's board
  abbrev B : Board
  B = board w h words

  -- a free cell has an entry in each straight direction
  pub entry_in : (x y dir : ℕ) → dir < 4 → Free B (at x y) → 4 * number_of w x y + dir < length clear
  entry_in x y dir l f =
      omega (arith, number_in w h x y (column_of_free w h words x y f) (row_of_free w h words x y f), known.long)

  -- which is its clearance
  pub entry_clear : (x y dir : ℕ) → dir < 4 → Free B (at x y) → Clearance B (dir_at dir) (at x y) (get_or clear (4 * number_of w x y + dir) 0)
  entry_clear x y dir l f =
      let column = column_of_free w h words x y f in
      clearance_of_free f (subst (λ p. ClearanceAt B (dir_at dir) p (get_or clear (4 * number_of w x y + dir) 0)) (place_of_number w x y column)
      (known.cleared (number_of w x y) dir (number_in w h x y column (row_of_free w h words x y f)) l))

  module _ (qx qy x y side : ℕ) (l : side < 4) (f : Free B (at qx qy)) (g : Free B (at x y)) where
    -- where a step leads on from the first of two cells, it does not open out to the second
    pub opens_not : 0 < get_or clear (4 * number_of w qx qy + side) 0 → false ≡ opens_out B (dir_at side) (at qx qy) (at x y)
    opens_not z = rw (leads (entry_clear qx qy side l f) z)

    -- and else the second one's clearance tells
    pub opens_test : get_or clear (4 * number_of w qx qy + side) 0 ≡ 0 →
        ltb 0 (get_or clear (4 * number_of w x y + side) 0) ≡ opens_out B (dir_at side) (at qx qy) (at x y)
    opens_test z = rw (leads_not (entry_clear qx qy side l f) z) (leads_test (entry_clear x y side l g))

  module _ (qx qy x y dir : ℕ) (next : NextTo w h words qx qy x y dir) where
    -- from where no step leads on, a turning point is what opens out on one side
    pub corner_sides : B (go (dir_at dir) (at x y)).x (go (dir_at dir) (at x y)).y ≡ false → corner B (at x y) ≡
        (opens_out B (dir_at ((dir + 1) % 4)) (at qx qy) (at x y) || opens_out B (dir_at ((dir + 3) % 4)) (at qx qy) (at x y))
    corner_sides k =
        let from = went_back dir next.straight qx qy x y next.there in
        subst (λ q. corner B (at x y) ≡ (opens_out B (dir_at ((dir + 1) % 4)) q (at x y) || opens_out B (dir_at ((dir + 3) % 4)) q (at x y))) from
        (by_sides dir next.straight B x y next.next_free (subst (Free B) (sym from) next.free) k)

  module _ (x y nx ny dir m : ℕ) (next : NextTo w h words x y nx ny dir) (read : m ≡ get_or clear (4 * number_of w x y + dir) 0) where
    -- the clearance of the cell before another
    before : Clearance B (dir_at dir) (at x y) m
    before = rw read (entry_clear x y dir next.straight next.free)

    -- goes on beyond it where it is no turning point
    pub next_plain : 1 < m → corner B (at nx ny) ≡ false
    next_plain l = subst (λ q. corner B q ≡ false) (sym next.there) (before.plain 1 (omega arith) l)

    -- and else ends there
    pub next_ends : m ≤ 1 → Ends w h words nx ny dir
    next_ends l on = by m refl
      where
        by : (n : ℕ) → m ≡ n → corner B (at nx ny) ≡ true
        by zero e = not_both (subst (Free B) next.there next.next_free) (leads_not before e)
        by (suc zero) e =
            let one : Clearance B (dir_at dir) (at x y) 1 = subst (Clearance B (dir_at dir) (at x y)) e before in
            subst (λ q. corner B q ≡ true) (sym next.there) (ends_turn one (subst (λ q. Free B (go (dir_at dir) q)) next.there on))
        by (suc (suc n)) e = absurd (omega arith)

-- ---- a field's diagonal step by clearances
module _ {w : ℕ} {clear : List ℕ} {x y : ℕ} (o : OnSome w clear x y) (f : ℕ) (l : f < 8) where
  -- the floor's board
  abbrev B' : Board
  B' = board w o.h o.words

  -- the diagonal direction
  abbrev d : Dir
  d = dir_at (slant f)

  -- a clearance across of 0 makes the step illegal
  pub no_across : get_or clear (4 * number_of w x y + across f) 0 ≡ 0 → step B' d (at x y) ≡ false
  no_across z =
      needs_across B' d (at x y) (ways f l).diagonal
      (subst (λ q. B' q.x q.y ≡ false) (across_place f l (at x y)) (leads_not (entry_clear o.known x y (across f) (ways f l).across_in o.free) z))

  -- and so does one along
  pub no_along : get_or clear (4 * number_of w x y + along f) 0 ≡ 0 → step B' d (at x y) ≡ false
  no_along z =
      needs_along B' d (at x y) (ways f l).diagonal
      (subst (λ q. B' q.x q.y ≡ false) (along_place f l (at x y)) (leads_not (entry_clear o.known x y (along f) (ways f l).along_in o.free) z))

  -- the cell along, as code finds it
  pub record Along : Type 0 where
    pub some_row : 1 ≤ y + along f
    pub place : at x (y + along f - 1) ≡ record { x = suc x; y = shift (dy d) (suc y) }
    pub free : Free B' (at x (y + along f - 1))

  -- where a step leads along
  pub along_cell : 0 < get_or clear (4 * number_of w x y + along f) 0 → Along
  along_cell z =
      let there : Free B' (record { x = suc x; y = shift (dy d) (suc y) }) =
      subst (Free B') (along_place f l (at x y)) (leads (entry_clear o.known x y (along f) (ways f l).along_in o.free) z) in
      let row : shift (dy d) (suc y) ≡ y + along f = shift_offset (dy d) y ∙ ap (λ k. y + k) (sym (ways f l).added) in
      let some : 0 < shift (dy d) (suc y) = row_inside (padded w o.h o.words) there in
      let same_row : suc (y + along f - 1) ≡ shift (dy d) (suc y) = omega arith in
      let place : at x (y + along f - 1) ≡ record { x = suc x; y = shift (dy d) (suc y) } = place_eq refl same_row in
      record { some_row = omega arith; place = place; free = subst (Free B') (sym place) there }

  -- the clearance across from there decides
  pub by_target : 0 < get_or clear (4 * number_of w x y + across f) 0 → (a : Along) →
      ltb 0 (get_or clear (4 * number_of w x (y + along f - 1) + across f) 0) ≡ step B' d (at x y)
  by_target z a =
      let beside : Free B' (record { x = shift (dx d) (suc x); y = suc y }) =
      subst (Free B') (across_place f l (at x y)) (leads (entry_clear o.known x y (across f) (ways f l).across_in o.free) z) in
      let target : go (dir_at (across f)) (at x (y + along f - 1)) ≡ record { x = shift (dx d) (suc x); y = shift (dy d) (suc y) } =
      across_place f l (at x (y + along f - 1)) ∙ place_eq refl (ap (λ q. q.y) a.place) in
      leads_test (entry_clear o.known x (y + along f - 1) (across f) (ways f l).across_in a.free)
      ∙ ap (λ q. B' q.x q.y) target
      ∙ sym (needs_target B' d (at x y) (ways f l).diagonal beside (subst (Free B') a.place a.free))

-- ---- behind a row's beginning
-- the column that a diagonal step came from, as code finds it
came_from : (o : Offset) (e x v : ℕ) → moving o ≡ true → e + shift o 1 ≡ 2 → 0 < v → suc x ≡ shift o v → (1 ≤ x + e) × (suc (x + e - 1) ≡ v)
came_from less e x v m a z q = let a' : e + 0 ≡ 2 = a in let q' : suc x ≡ pred v = q in omega arith
came_from same e x v m a z q = not_both m refl
came_from more e x v m a z q = let a' : e + 2 ≡ 2 = a in let q' : suc x ≡ suc v = q in omega arith

-- behind the end of a legal diagonal step the cell across is free
pub behind : (w h : ℕ) (words : List ℕ) (f : ℕ) → f < 8 → (p : Place) → Free (board w h words) p → step (board w h words) (dir_at (slant f)) p ≡ true →
    (x y : ℕ) → at x y ≡ go (dir_at (slant f)) p → (1 ≤ x + 2 * (f / 4)) × NextTo w h words (x + 2 * (f / 4) - 1) y x y (across f)
behind w h words f l p free legal x y e =
    let B = board w h words in
    let d = dir_at (slant f) in
    let v = ways f l in
    let column = came_from (dx d) (2 * (f / 4)) x p.x (and_left _ _ v.diagonal) v.added_back (column_inside (padded w h words) free) (ap (λ q. q.x) e) in
    let back : at (x + 2 * (f / 4) - 1) y ≡ record { x = p.x; y = shift (dy d) p.y } = place_eq column.1 (ap (λ q. q.y) e) in (
      column.0,
      record {
        straight = v.across_in;
        free = subst (Free B) (sym back) (along_free B d p v.diagonal legal);
        next_free = subst (Free B) (sym e) (step_free B d p legal);
        there = e ∙ place_eq (ap (shift (dx d)) (sym column.1)) (sym (ap (λ q. q.y) e)) ∙ sym (across_place f l (at (x + 2 * (f / 4) - 1) y));
      },
    )
