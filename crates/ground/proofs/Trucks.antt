-- The truck's ways: it takes straight steps only, and its mates are the directions that are not opposite.
-- Assumes nothing.
use mathlib.Core.Path.{◌≡◌, refl, sym, ◌∙◌, ap, subst}
use mathlib.Core.Bool.{Bool, true, false, not, ◌&&◌}
use mathlib.Core.List.{List, [], ◌∷◌}
use mathlib.Core.Logic.{◌⊎◌, inl, inr}
use Prim.Native.Nat.{ℕ, ◌+◌, ◌≤◌}
use native.Mathlib.Omega.{arith}
use lib.ListN.{length}
use borrow.Author.Tests.{not-true}
use Rattle.lengths.specs.Lengths.{Len, ◌≼◌, gap}
use Rattle.lengths.specs.Laws.{≺_trans, ≼_both}
use Rattle.floor.specs.Board.{Board, Padded, Place, Free, Dir, Offset, dx, dy, shift, go, moving, slanted, step, corner}
use Rattle.ground.specs.Kind.{trucks}
use Rattle.ground.specs.Walk.{end, Legal, Walk, len}
use Rattle.ground.proofs.Logic.{true_or_false, and_left, and_right, and_both}
use Rattle.ground.proofs.Tables.{each}
use Rattle.ground.proofs.Cells.{column_inside, row_inside, Smooth, smooth, Cells, is_same, step_cells, straight_legal, turn_smooth, turn_padded}
use Rattle.ground.proofs.Near.{opposite, opposite_means, home, follows, unopposed_meet, y_moves}
use Rattle.ground.proofs.Walks.{place_eq, len_eq, start_free, step_longer}
use Rattle.ground.proofs.Ways.{Tame, Detour, opposite_of, Ways}
use Rattle.ground.proofs.Axes.{moves, end_x, end_y, Inner, legal_within, OneWay, gap_moves, gap_le, gap_one_way, counts, tame_one_way, tame_from, way_later, way_first, way_unopposed}
use Rattle.ground.proofs.Turn.{cut}

-- on neither axis two directions go opposite ways
pub record Unopposed (a b : Dir) : Type 0 where
  pub level : opposite (dx a) (dx b) ≡ false
  pub upright : opposite (dy a) (dy b) ≡ false

-- a straight direction that moves on one axis stands still on the other
straight_x : (d : Dir) → slanted d ≡ false → moving (dx d) ≡ true → moving (dy d) ≡ false
straight_x d s m = rw m at s

-- the same for the other axis
straight_y : (d : Dir) → slanted d ≡ false → moving (dy d) ≡ true → moving (dx d) ≡ false
straight_y d s m = by (moving (dx d)) (rw m at s)
  where
    by : (b : Bool) → (b && true) ≡ false → b ≡ false
    by true h = h
    by false h = refl

-- of two straight directions that go the same way one may stand for the other
same_go : (a b : Dir) (s : Place) → dx a ≡ dx b → dy a ≡ dy b → go a s ≡ go b s
same_go a b s p q = place_eq (ap (λ (o : Offset). shift o s.x) p) (ap (λ (o : Offset). shift o s.y) q)

module _ {B : Board} (padded : Padded B) (a b : Dir) (ρ : List Dir) (s : Place) (l : Legal trucks B s (a ∷ b ∷ ρ)) where
  -- the first step is straight
  a_straight : slanted a ≡ false
  a_straight = not-true (slanted a) (and_left (not (slanted a)) (step B a s) l.1)

  -- and the second
  b_straight : slanted b ≡ false
  b_straight = not-true (slanted b) (and_left (not (slanted b)) (step B b (go a s)) l.2.1)

  -- the cells of the first step are free
  ca : Cells B (dx a) (dy a) s.x s.y
  ca = step_cells B a s l.0 (and_right (not (slanted a)) (step B a s) l.1)

  -- and those of the second
  cb : Cells B (dx b) (dy b) (go a s).x (go a s).y
  cb = step_cells B b (go a s) l.2.0 (and_right (not (slanted b)) (step B b (go a s)) l.2.1)

  -- the second step may be taken first: it goes the same way as the first, or round a place that is no turning point
  second_free : Unopposed a b → corner B (go a s) ≡ false → Free B (go b s)
  second_free n c = by (true_or_false (moving (dx a))) (true_or_false (moving (dx b)))
    where
      plain : Smooth B (go a s).x (go a s).y
      plain = smooth B (go a s).x (go a s).y ca.0 c

      by : (moving (dx a) ≡ true) ⊎ (moving (dx a) ≡ false) → (moving (dx b) ≡ true) ⊎ (moving (dx b) ≡ false) → Free B (go b s)
      by (inl p) (inl q) =
          subst (Free B)
          (same_go a b s (sym (follows (dx a) (dx b) p n.level q))
          (sym (is_same (dy a) (straight_x a a_straight p)) ∙ is_same (dy b) (straight_x b b_straight q)))
          ca.0
      by (inl p) (inr q) =
          subst (λ (o : Offset). B (shift o s.x) (shift (dy b) s.y) ≡ true) (is_same (dx b) q)
          (cut padded (dx a) (dy a) (dx b) (dy b) s.x s.y (straight_x a a_straight p) q l.0 plain ca cb).cells.2
      by (inr p) (inl q) =
          subst (λ (o : Offset). B (shift (dx b) s.x) (shift o s.y) ≡ true) (is_same (dy b) (straight_x b b_straight q))
          (cut (turn_padded padded) (dy a) (dx a) (dy b) (dx b) s.y s.x p (straight_x b b_straight q) l.0
          (turn_smooth B (go a s).x (go a s).y plain) (ca.0, ca.2, ca.1) (cb.0, cb.2, cb.1)).cells.2
      by (inr p) (inr q) =
          subst (Free B)
          (same_go a b s (sym (is_same (dx a) p) ∙ is_same (dx b) q) (sym (follows (dy a) (dy b) (y_moves a p) n.upright (y_moves b q))))
          ca.0

  -- A, for trucks: two steps that are not opposite may change places where the place between them is no turning point.
  pub truck_swap : Unopposed a b → corner B (go a s) ≡ false → Legal trucks B s (b ∷ a ∷ ρ)
  truck_swap n c =
      let f : Free B (go b s) = second_free n c in
      let r : Legal trucks B (go a (go b s)) ρ =
      subst (λ (p : Place). Legal trucks B p ρ) (sym (unopposed_meet a b s n.level n.upright)) l.2.2 in (
        l.0,
        and_both (ap not b_straight) (straight_legal B b s b_straight f),
        (f, and_both (ap not a_straight) (straight_legal B a (go b s) a_straight (start_free trucks B (go a (go b s)) ρ r)), r),
      )

  -- two steps that lead back may be left out
  left_out : go b (go a s) ≡ s → Detour trucks B s (a ∷ b ∷ ρ)
  left_out home =
      record {
        walk = ρ;
        legal = subst (λ (p : Place). Legal trucks B p ρ) home l.2.2;
        same_end = ap (λ (p : Place). end p ρ) (sym home);
        shorter = ≺_trans (step_longer b (len ρ)) (step_longer a (len (b ∷ ρ)));
      }

  -- two offsets that do not move lead nowhere
  still : (o o' : Offset) (n : ℕ) → moving o ≡ false → moving o' ≡ false → shift o' (shift o n) ≡ n
  still o o' n p q = rw (← is_same o p, ← is_same o' q)

  -- B, for trucks: two steps are not opposite, or both may be left out.
  pub truck_turn : Unopposed a b ⊎ Detour trucks B s (a ∷ b ∷ ρ)
  truck_turn = by (true_or_false (opposite (dx a) (dx b))) (true_or_false (opposite (dy a) (dy b)))
    where
      by : (opposite (dx a) (dx b) ≡ true) ⊎ (opposite (dx a) (dx b) ≡ false) → (opposite (dy a) (dy b) ≡ true) ⊎ (opposite (dy a) (dy b) ≡ false) →
          Unopposed a b ⊎ Detour trucks B s (a ∷ b ∷ ρ)
      by (inr p) (inr q) = inl (record { level = p; upright = q })
      by (inl p) q =
          let m = opposite_means (dx a) (dx b) p in
          inr (left_out (place_eq (home (dx a) (dx b) s.x p (column_inside padded l.0))
          (still (dy a) (dy b) s.y (straight_x a a_straight m.first_moves) (straight_x b b_straight m.second_moves))))
      by (inr p) (inl q) =
          let m = opposite_means (dy a) (dy b) q in
          inr (left_out (place_eq (still (dx a) (dx b) s.x (straight_y a a_straight m.first_moves) (straight_y b b_straight m.second_moves))
          (home (dy a) (dy b) s.y q (row_inside padded l.0))))

-- a truck takes no diagonal step
no_diagonal : (B : Board) (s : Place) (ds : List Dir) → Legal trucks B s ds → (len ds).diagonal ≡ 0
no_diagonal B s [] l = refl
no_diagonal B s (d ∷ ds) l =
    let k : slanted d ≡ false = not-true (slanted d) (and_left (not (slanted d)) (step B d s) l.1) in
    rw k (let e = no_diagonal B (go d s) ds l.2 in omega arith)

-- a tame walk of a truck has the length that its ends are apart
pub tame_far : {B : Board} → Padded B → (s : Place) (ds : List Dir) → Legal trucks B s ds → Tame Unopposed ds →
    len ds ≡ trucks.apart s (end s ds)
tame_far {B} padded s ds l t =
    let c = counts ds in
    let w : Inner s ds = legal_within trucks padded s ds l in
    let i : gap s.x (end s ds).x ≡ moves dx ds =
    rw (end_x s ds) (gap_moves dx s.x ds (tame_one_way Unopposed dx (λ a b n. n.level) ds t) w.0) in
    let j : gap s.y (end s ds).y ≡ moves dy ds =
    rw (end_y s ds) (gap_moves dy s.y ds (tame_one_way Unopposed dy (λ a b n. n.upright) ds t) w.1) in
    let z : (len ds).diagonal ≡ 0 = no_diagonal B s ds l in
    len_eq (omega (arith, c.steps, c.both)) z

-- a list that goes one way on each axis is tame
one_way_tame : (ds : List Dir) → OneWay dx ds → OneWay dy ds → Tame Unopposed ds
one_way_tame ds p q =
    tame_from Unopposed (λ ds. OneWay dx ds × OneWay dy ds) (λ a ρ w. (way_later dx a ρ w.0, way_later dy a ρ w.1))
    (λ a b ρ w. (record { level = way_unopposed dx a b ρ w.0; upright = way_unopposed dy a b ρ w.1 }, (way_first dx a b ρ w.0, way_first dy a b ρ w.1)))
    ds (p, q)

-- a list as long as its ends are apart is tame
pub far_tame : (s : Place) (ds : List Dir) → len ds ≡ trucks.apart s (end s ds) → Tame Unopposed ds
far_tame s ds e =
    let c = counts ds in
    let i : gap s.x (end s ds).x ≤ moves dx ds = rw (end_x s ds) (gap_le dx s.x ds) in
    let j : gap s.y (end s ds).y ≤ moves dy ds = rw (end_y s ds) (gap_le dy s.y ds) in
    let (p, q) = no_waste (gap s.x (end s ds).x) (gap s.y (end s ds).y) (moves dx ds) (moves dy ds) (length ds) (len ds).straight (len ds).diagonal
    i j c.steps c.both (ap (λ (l : Len). l.straight) e) (ap (λ (l : Len). l.diagonal) e) in
    one_way_tame ds (gap_one_way dx s.x ds (rw (end_x s ds) at p)) (gap_one_way dy s.y ds (rw (end_y s ds) at q))
  where
    no_waste : (ox oy mx my n st dg : ℕ) → ox ≤ mx → oy ≤ my → st + dg ≡ n → mx + my ≡ n + dg → st ≡ ox + oy → dg ≡ 0 → (ox ≡ mx) × (oy ≡ my)
    no_waste ox oy mx my n st dg a b c d e f = (omega arith, omega arith)

-- No walk of a truck is shorter than its ends are apart.
pub truck_least : (B : Board) (s t : Place) (ds : List Dir) → Walk trucks B s t ds → trucks.apart s t ≼ len ds
truck_least B s t ds w =
    let c = counts ds in
    let i : gap s.x (end s ds).x ≤ moves dx ds = rw (end_x s ds) (gap_le dx s.x ds) in
    let j : gap s.y (end s ds).y ≤ moves dy ds = rw (end_y s ds) (gap_le dy s.y ds) in
    let z : (len ds).diagonal ≡ 0 = no_diagonal B s ds w.0 in
    subst (λ (p : Place). trucks.apart s p ≼ len ds) w.1
    (≼_both (trucks.apart s (end s ds)) (len ds) (omega (arith, c.steps, c.both)) (omega arith))

-- what is straight is straight backwards
pub straight_back : (d : Dir) → not (slanted d) ≡ true → not (slanted (opposite_of d)) ≡ true
straight_back =
    each (λ d. not (slanted d) ≡ true → not (slanted (opposite_of d)) ≡ true)
    (λ h. h) (λ h. h) (λ h. h) (λ h. h) (λ h. h) (λ h. h) (λ h. h) (λ h. h)

-- both ways are equally far
pub far_comm : (s t : Place) → trucks.apart s t ≡ trucks.apart t s
far_comm s t = len_eq (sum s.x t.x s.y t.y) refl
  where
    sum : (a b c d : ℕ) → gap a b + gap c d ≡ gap b a + gap d c
    sum a b c d = omega arith

-- all that the theorems over both kinds ask, for the truck
abbrev pub truck_ways : Ways trucks
truck_ways =
    record {
      Mates = Unopposed;
      meet = λ a b s n. unopposed_meet a b s n.level n.upright;
      swap = λ padded a b ρ s n c l. truck_swap padded a b ρ s l n c;
      turn = λ padded a b ρ s l c. truck_turn padded a b ρ s l;
      tame_apart = λ padded s ds l m. tame_far padded s ds l m;
      apart_tame = far_tame;
      apart_least = truck_least;
      apart_comm = far_comm;
      returns = record { permits_back = straight_back };
    }
