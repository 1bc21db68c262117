-- Two steps that stand at 90 degrees or more have a detour that is shorter, or the place between them is a turning point.
-- Where they go opposite ways on one axis, both may drop their part on that axis; else they are two straight steps, and one diagonal serves.
-- Assumes nothing.
use mathlib.Core.Path.{◌≡◌, refl, sym, ◌∙◌, ap, subst}
use mathlib.Core.Bool.{Bool, true, false, cond, ◌&&◌, ◌||◌}
use mathlib.Core.List.{List, [], ◌∷◌, ◌++◌}
use mathlib.Core.Logic.{◌⊎◌, inl, inr, ⊎_elim}
use Prim.Native.Nat.{ℕ}
use native.Mathlib.Omega.{arith}
use Rattle.lengths.specs.Lengths.{Len, pair, ◌⊕◌, ◌≺◌}
use Rattle.lengths.specs.Laws.{⊕-≺, ≺_trans, straight-≺_diagonal, diagonal-≺_two}
use Rattle.floor.specs.Board.{Board, Padded, Place, Free, Dir, Offset, less, same, more, dx, dy, shift, go, moving, slanted, corner}
use Rattle.ground.specs.Kind.{walkers}
use Rattle.ground.specs.Walk.{end, Legal, size, len}
use Rattle.ground.specs.Line.{compass}
use Rattle.ground.proofs.Logic.{true_or_false, not_both, and_both, or_false_left, or_false_right}
use Rattle.ground.proofs.Cells.{back, back_undoes, column_inside, row_inside, Smooth, smooth, Cells, step_cells, cells_step, straight_legal, turn_smooth, turn_padded}
use Rattle.ground.proofs.Near.{opposite, agree, Near, opposite_means, home, one_still, x_moves, y_moves}
use Rattle.ground.proofs.Walks.{start_free, place_eq, len_eq, ≺_left, step_longer}
use Rattle.ground.proofs.Ways.{Detour}

-- One of the two axes: what a direction keeps on it and drops beside it, and the straight steps on it.
record Axis : Type 0 where
  keeps : Dir → Offset
  drops : Dir → Offset
  way : Offset → Dir
  to : Offset → Place → Place
  stays : (s : Place) → to same s ≡ s
  lands : (o : Offset) (s : Place) → moving o ≡ true → go (way o) s ≡ to o s
  straight : (o : Offset) → slanted (way o) ≡ false
  both : (d : Dir) → moving (drops d) ≡ true → moving (keeps d) ≡ true → slanted d ≡ true

-- the upright axis: the columns are dropped
vertical : Axis
vertical =
    record {
      keeps = dy;
      drops = dx;
      way = compass same;
      to = λ o s. record { x = s.x; y = shift o s.y };
      stays = λ s. refl;
      lands = lands;
      straight = straight;
      both = λ d p q. and_both p q;
    }
  where
    lands : (o : Offset) (s : Place) → moving o ≡ true → go (compass same o) s ≡ record { x = s.x; y = shift o s.y }
    lands less s m = refl
    lands same s m = not_both m refl
    lands more s m = refl

    straight : (o : Offset) → slanted (compass same o) ≡ false
    straight less = refl
    straight same = refl
    straight more = refl

-- the level axis: the rows are dropped
horizontal : Axis
horizontal =
    record {
      keeps = dx;
      drops = dy;
      way = λ o. compass o same;
      to = λ o s. record { x = shift o s.x; y = s.y };
      stays = λ s. refl;
      lands = lands;
      straight = straight;
      both = λ d p q. and_both q p;
    }
  where
    lands : (o : Offset) (s : Place) → moving o ≡ true → go (compass o same) s ≡ record { x = shift o s.x; y = s.y }
    lands less s m = refl
    lands same s m = not_both m refl
    lands more s m = refl

    straight : (o : Offset) → slanted (compass o same) ≡ false
    straight less = refl
    straight same = refl
    straight more = refl

module _ (A : Axis) where
  -- the steps that an offset on the axis takes: one or 𝟎
  part : Offset → List Dir
  part less = A.way less ∷ []
  part same = []
  part more = A.way more ∷ []

  -- where the part leads
  part_end : (o : Offset) (s : Place) (ρ : List Dir) → end s (part o ++ ρ) ≡ end (A.to o s) ρ
  unfolding part
  part_end less s ρ = ap (λ (p : Place). end p ρ) (A.lands less s refl)
  part_end same s ρ = ap (λ (p : Place). end p ρ) (sym (A.stays s))
  part_end more s ρ = ap (λ (p : Place). end p ρ) (A.lands more s refl)

  module _ (B : Board) where
    -- a step along the axis is legal where it leads to a free place
    part_step : (o : Offset) (s : Place) (ρ : List Dir) → moving o ≡ true → Free B s → Legal walkers B (A.to o s) ρ → Legal walkers B s (A.way o ∷ ρ)
    part_step o s ρ m f l =
        let k : Legal walkers B (go (A.way o) s) ρ = subst (λ (p : Place). Legal walkers B p ρ) (sym (A.lands o s m)) l in
        (f, straight_legal B (A.way o) s (A.straight o) (start_free walkers B (go (A.way o) s) ρ k), k)

    -- so is the part, which may be no step
    part_legal : (o : Offset) (s : Place) (ρ : List Dir) → Free B s → Legal walkers B (A.to o s) ρ → Legal walkers B s (part o ++ ρ)
    unfolding part
    part_legal less s ρ f l = part_step less s ρ refl f l
    part_legal same s ρ f l = subst (λ (p : Place). Legal walkers B p ρ) (A.stays s) l
    part_legal more s ρ f l = part_step more s ρ refl f l

-- The diagonal direction with two given offsets.
record Slanted (h v : Offset) : Type 0 where
  is_x : dx (compass h v) ≡ h
  is_y : dy (compass h v) ≡ v
  is_long : size (compass h v) ≡ pair 0 1

-- there is one, and it is diagonal
slant : (h v : Offset) → moving h ≡ true → moving v ≡ true → Slanted h v
slant less less m n = record { is_x = refl; is_y = refl; is_long = refl }
slant less more m n = record { is_x = refl; is_y = refl; is_long = refl }
slant more less m n = record { is_x = refl; is_y = refl; is_long = refl }
slant more more m n = record { is_x = refl; is_y = refl; is_long = refl }
slant h same m n = not_both n refl
slant same less m n = not_both m refl
slant same more m n = not_both m refl

-- a direction that stands still on one axis is straight
straight_size : (d : Dir) → (moving (dx d) ≡ false) ⊎ (moving (dy d) ≡ false) → size d ≡ pair 1 0
straight_size d = by (moving (dx d)) (moving (dy d))
  where
    by : (m n : Bool) → (m ≡ false) ⊎ (n ≡ false) →
        cond (m && n) (pair 0 1) (pair 1 0) ≡ (let l : Len = pair 1 0 in l)
    by true true h = ⊎_elim (λ e. not_both refl e) (λ e. not_both refl e) h
    by true false h = refl
    by false n h = refl

-- From x, y to the side and then ahead, the place between being no turning point: the cells of the diagonal step, and where it leads.
pub record Cut (B : Board) (h v h' v' : Offset) (x y : ℕ) : Type 0 where
  pub cells : Cells B h v' x y
  pub same_x : shift h x ≡ shift h' (shift h x)
  pub same_y : shift v' y ≡ shift v' (shift v y)

-- the cells of the diagonal step are free, and it leads to the same place
pub cut : {B : Board} → Padded B → (h v h' v' : Offset) (x y : ℕ) → moving v ≡ false → moving h' ≡ false → B x y ≡ true →
    Smooth B (shift h x) (shift v y) → Cells B h v x y → Cells B h' v' (shift h x) (shift v y) → Cut B h v h' v' x y
cut padded h less h' v' x y m n f s a b = not_both refl m
cut padded h more h' v' x y m n f s a b = not_both refl m
cut padded h same less v' x y m n f s a b = not_both refl n
cut padded h same more v' x y m n f s a b = not_both refl n
cut padded h same same v' x y m n f s a b =
    record {
      cells = (b.0, a.1, rw (back_undoes h (column_inside padded f)) at (s (back h) v' (rw (back_undoes h (column_inside padded f)) f) b.0));
      same_x = refl;
      same_y = refl;
    }

-- a direction is longer than its part on the axis
part_shorter : (A : Axis) (a : Dir) (ρ : List Dir) → moving (A.drops a) ≡ true → len (part A (A.keeps a) ++ ρ) ≺ (size a ⊕ len ρ)
unfolding part
part_shorter A a ρ m = by (A.keeps a) (A.both a m)
  where
    cheaper : (o : Offset) → slanted a ≡ true → len (A.way o ∷ ρ) ≺ (size a ⊕ len ρ)
    cheaper o h = rw (A.straight o, h) ((⊕-≺ (pair 1 0) (pair 0 1) (len ρ)).1 straight-≺_diagonal)

    by : (o : Offset) → (moving o ≡ true → slanted a ≡ true) → len (part A o ++ ρ) ≺ (size a ⊕ len ρ)
    by less h = cheaper less (h refl)
    by same h = step_longer a (len ρ)
    by more h = cheaper more (h refl)

module _ {B : Board} (padded : Padded B) (a b : Dir) (ρ : List Dir) (s : Place) (l : Legal walkers B s (a ∷ b ∷ ρ)) where
  -- both steps drop what they have beside the axis
  detour_along : (A : Axis) → moving (A.drops a) ≡ true → moving (A.drops b) ≡ true → Free B (A.to (A.keeps a) s) →
      go b (go a s) ≡ A.to (A.keeps b) (A.to (A.keeps a) s) → Detour walkers B s (a ∷ b ∷ ρ)
  detour_along A p q f onto =
      let middle : Place = A.to (A.keeps a) s in
      let rest : List Dir = part A (A.keeps b) ++ ρ in
      record {
        walk = part A (A.keeps a) ++ rest;
        legal =
            part_legal A B (A.keeps a) s rest l.0
            (part_legal A B (A.keeps b) middle ρ f (subst (λ (p : Place). Legal walkers B p ρ) onto l.2.2));
        same_end = part_end A (A.keeps a) s rest ∙ part_end A (A.keeps b) middle ρ ∙ ap (λ (p : Place). end p ρ) (sym onto);
        shorter = ≺_trans (part_shorter A a rest p) (≺_left (size a) (part_shorter A b ρ q));
      }

  -- opposite ways by columns: both drop their columns
  detour_vertical : opposite (dx a) (dx b) ≡ true → Detour walkers B s (a ∷ b ∷ ρ)
  unfolding vertical
  detour_vertical o =
      let h = opposite_means (dx a) (dx b) o in
      detour_along vertical h.first_moves h.second_moves (step_cells B a s l.0 l.1).2
      (place_eq (home (dx a) (dx b) s.x o (column_inside padded l.0)) refl)

  -- opposite ways by rows: both drop their rows
  detour_horizontal : opposite (dy a) (dy b) ≡ true → Detour walkers B s (a ∷ b ∷ ρ)
  unfolding horizontal
  detour_horizontal o =
      let h = opposite_means (dy a) (dy b) o in
      detour_along horizontal h.first_moves h.second_moves (step_cells B a s l.0 l.1).1
      (place_eq refl (home (dy a) (dy b) s.y o (row_inside padded l.0)))

  -- one diagonal step for two straight ones
  detour_slant : (h v : Offset) → moving h ≡ true → moving v ≡ true → Cells B h v s.x s.y →
      record { x = shift h s.x; y = shift v s.y } ≡ go b (go a s) →
      size a ≡ pair 1 0 → size b ≡ pair 1 0 → Detour walkers B s (a ∷ b ∷ ρ)
  detour_slant h v m n c onto p q =
      let sl = slant h v m n in
      let there : go (compass h v) s ≡ go b (go a s) =
      place_eq (ap (λ (k : Offset). shift k s.x) sl.is_x) (ap (λ (k : Offset). shift k s.y) sl.is_y) ∙ onto in
      record {
        walk = compass h v ∷ ρ;
        legal = (l.0, cells_step B (compass h v) s (rw (sl.is_x, sl.is_y) c), subst (λ (p : Place). Legal walkers B p ρ) (sym there) l.2.2);
        same_end = ap (λ (p : Place). end p ρ) there;
        shorter =
            subst (λ (k : Len). (k ⊕ len ρ) ≺ (size a ⊕ (size b ⊕ len ρ))) (sym sl.is_long)
            (rw (p, q) (subst (λ (k : Len). (pair 0 1 ⊕ len ρ) ≺ k) (len_eq (omega arith) (omega arith))
            ((⊕-≺ (pair 0 1) (pair 2 0) (len ρ)).1 diagonal-≺_two)));
      }

  -- a level and then an upright step
  level_then_upright : corner B (go a s) ≡ false → moving (dy a) ≡ false → moving (dx b) ≡ false → Detour walkers B s (a ∷ b ∷ ρ)
  level_then_upright c m n =
      let ca = step_cells B a s l.0 l.1 in
      let k = cut padded (dx a) (dy a) (dx b) (dy b) s.x s.y m n l.0 (smooth B _ _ ca.0 c) ca (step_cells B b (go a s) l.2.0 l.2.1) in
      detour_slant (dx a) (dy b) (x_moves a m) (y_moves b n) k.cells (place_eq k.same_x k.same_y)
      (straight_size a (inr m)) (straight_size b (inl n))

  -- an upright and then a level one
  upright_then_level : corner B (go a s) ≡ false → moving (dx a) ≡ false → moving (dy b) ≡ false → Detour walkers B s (a ∷ b ∷ ρ)
  upright_then_level c m n =
      let ca = step_cells B a s l.0 l.1 in
      let cb = step_cells B b (go a s) l.2.0 l.2.1 in
      let k = cut (turn_padded padded) (dy a) (dx a) (dy b) (dx b) s.y s.x m n l.0
      (turn_smooth B _ _ (smooth B _ _ ca.0 c)) (ca.0, ca.2, ca.1) (cb.0, cb.2, cb.1) in
      detour_slant (dx b) (dy a) (x_moves b n) (y_moves a m) (k.cells.0, k.cells.2, k.cells.1) (place_eq k.same_y k.same_x)
      (straight_size a (inl m)) (straight_size b (inr n))

  -- so two straight steps at a right angle
  quarter : corner B (go a s) ≡ false → (moving (dx a) ≡ false) ⊎ (moving (dx b) ≡ false) →
      (moving (dy a) ≡ false) ⊎ (moving (dy b) ≡ false) → Detour walkers B s (a ∷ b ∷ ρ)
  quarter c (inl m) (inl n) = not_both (y_moves a m) n
  quarter c (inl m) (inr n) = upright_then_level c m n
  quarter c (inr m) (inl n) = level_then_upright c n m
  quarter c (inr m) (inr n) = not_both (y_moves b m) n

  -- B. The turn: at a place that is no turning point two steps are near, or there is a shorter walk.
  pub turn : corner B (go a s) ≡ false → Near a b ⊎ Detour walkers B s (a ∷ b ∷ ρ)
  turn c = by (true_or_false (opposite (dx a) (dx b))) (true_or_false (opposite (dy a) (dy b))) (true_or_false (agree (dx a) (dx b) || agree (dy a) (dy b)))
    where
      by : (opposite (dx a) (dx b) ≡ true) ⊎ (opposite (dx a) (dx b) ≡ false) →
          (opposite (dy a) (dy b) ≡ true) ⊎ (opposite (dy a) (dy b) ≡ false) →
          ((agree (dx a) (dx b) || agree (dy a) (dy b)) ≡ true) ⊎ ((agree (dx a) (dx b) || agree (dy a) (dy b)) ≡ false) →
          Near a b ⊎ Detour walkers B s (a ∷ b ∷ ρ)
      by (inl p) q r = inr (detour_vertical p)
      by (inr p) (inl q) r = inr (detour_horizontal q)
      by (inr p) (inr q) (inl r) = inl (record { level = p; upright = q; along = r })
      by (inr p) (inr q) (inr r) =
          inr
          (quarter c (one_still (dx a) (dx b) p (or_false_left (agree (dx a) (dx b)) (agree (dy a) (dy b)) r))
          (one_still (dy a) (dy b) q (or_false_right (agree (dx a) (dx b)) (agree (dy a) (dy b)) r)))
