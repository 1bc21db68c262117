-- A tame walk has the octile length of its ends, and a walk of octile length is tame.
-- Assumes nothing.
use mathlib.Core.Path.{◌≡◌, refl, sym, ◌∙◌, ap, ap₂, subst}
use mathlib.Core.Bool.{Bool, true, false, ◌||◌}
use mathlib.Core.List.{List, [], ◌∷◌}
use mathlib.Core.Logic.{◌⊎◌, inl, inr, ⊎_elim, ⊎_map}
use Prim.Native.Nat.{ℕ, ◌+◌, min, ◌≤◌, ◌<◌}
use native.Mathlib.Omega.{arith}
use native.Mathlib.Decide.{dec_le}
use lib.ListN.{length}
use Rattle.lengths.specs.Lengths.{Len, gap, octile_of}
use Rattle.floor.specs.Board.{Board, Padded, Place, Free, Dir, Offset, dx, dy, moving}
use Rattle.ground.specs.Kind.{octile}
use Rattle.ground.specs.Walk.{end, len}
use Rattle.ground.proofs.Logic.{true_or_false, not_both, or_cases, or_left, or_right}
use Rattle.ground.proofs.Cells.{column_inside, row_inside}
use Rattle.ground.proofs.Near.{agree, Near, agree_means, x_moves, y_moves}
use Rattle.ground.proofs.Walks.{len_eq}
use Rattle.ground.proofs.Ways.{AllMates, Tame}
use Rattle.ground.proofs.Axes.{moves, end_x, end_y, Inner, OneWay, gap_moves, AllMove, all_move, counts, one_way_inside, gap_le, gap_one_way, moves_le, all_moved, tame_one_way, tame_from, way_later, way_first, way_unopposed, way_agrees}

-- a walk that goes one way on each axis and always on one has octile length
one_way_octile : (s : Place) (ds : List Dir) → Inner s ds → OneWay dx ds → OneWay dy ds → AllMove dx ds ⊎ AllMove dy ds →
    len ds ≡ octile s (end s ds)
one_way_octile s ds w p q m =
    let c = counts ds in
    let i : gap s.x (end s ds).x ≡ moves dx ds = rw (end_x s ds) (gap_moves dx s.x ds p w.0) in
    let j : gap s.y (end s ds).y ≡ moves dy ds = rw (end_y s ds) (gap_moves dy s.y ds q w.1) in
    ⊎_elim
    (λ a. let e : moves dx ds ≡ length ds = all_move dx ds a in len_eq (omega (arith, c.steps, c.both)) (omega (arith, c.steps, c.both)))
    (λ a. let e : moves dy ds ≡ length ds = all_move dy ds a in len_eq (omega (arith, c.steps, c.both)) (omega (arith, c.steps, c.both))) m
    ∙ sym (ap₂ octile_of i j)

-- Beside a direction that stands still on one axis, all near ones move on the other.
near_still : (ax ay : Dir → Offset) → ((a b : Dir) → Near a b → (agree (ax a) (ax b) || agree (ay a) (ay b)) ≡ true) →
    (a : Dir) (ρ : List Dir) → moving (ax a) ≡ false → AllMates Near a ρ → AllMove ay ρ
near_still ax ay r a [] m n = tt
near_still ax ay r a (b ∷ ρ) m n = (
  ⊎_elim (λ e. not_both (agree_means (ax a) (ax b) e).first_moves m) (λ e. (agree_means (ay a) (ay b) e).second_moves)
      (or_cases (agree (ax a) (ax b)) (agree (ay a) (ay b)) (r a b n.0)),
  near_still ax ay r a ρ m n.1,
)

-- one of two, whichever is named first
or_swap : (a b : Bool) → (a || b) ≡ true → (b || a) ≡ true
or_swap a true h = refl
or_swap true false h = refl
or_swap false false h = h

-- a tame list moves always on one axis
pub tame_main : (ds : List Dir) → Tame Near ds → AllMove dx ds ⊎ AllMove dy ds
tame_main [] t = inl tt
tame_main (a ∷ ρ) t = by (true_or_false (moving (dx a))) (true_or_false (moving (dy a))) (tame_main ρ t.1)
  where
    by : (moving (dx a) ≡ true) ⊎ (moving (dx a) ≡ false) → (moving (dy a) ≡ true) ⊎ (moving (dy a) ≡ false) → AllMove dx ρ ⊎ AllMove dy ρ →
        ((moving (dx a) ≡ true) × AllMove dx ρ) ⊎ ((moving (dy a) ≡ true) × AllMove dy ρ)
    by (inl p) q (inl m) = inl (p, m)
    by (inr p) q (inl m) = inr (y_moves a p, near_still dx dy (λ c d n. n.along) a ρ p t.0)
    by p (inl q) (inr m) = inr (q, m)
    by p (inr q) (inr m) =
        inl (x_moves a q, near_still dy dx (λ c d n. or_swap (agree (dx c) (dx d)) (agree (dy c) (dy d)) n.along) a ρ q t.0)

-- C. A tame walk has the octile length of its ends.
pub tame_octile : (s : Place) (ds : List Dir) → Inner s ds → Tame Near ds → len ds ≡ octile s (end s ds)
tame_octile s ds w t =
    one_way_octile s ds w (tame_one_way Near dx (λ a b n. n.level) ds t) (tame_one_way Near dy (λ a b n. n.upright) ds t) (tame_main ds t)

-- a tame list between two free places keeps off row 0 and column 0
pub tame_within : {B : Board} → Padded B → (s : Place) (ds : List Dir) → Tame Near ds → Free B s → Free B (end s ds) → Inner s ds
tame_within padded s ds t f g = (
  one_way_inside dx s.x ds (tame_one_way Near dx (λ a b n. n.level) ds t) (column_inside padded f)
      (subst (λ (n : ℕ). 0 < n) (end_x s ds) (column_inside padded g)),
  one_way_inside dy s.y ds (tame_one_way Near dy (λ a b n. n.upright) ds t) (row_inside padded f)
      (subst (λ (n : ℕ). 0 < n) (end_y s ds) (row_inside padded g)),
)

-- a list that goes one way on each axis and moves always on one is tame
one_way_tame : (ds : List Dir) → OneWay dx ds → OneWay dy ds → AllMove dx ds ⊎ AllMove dy ds → Tame Near ds
one_way_tame ds p q m =
    tame_from Near (λ ds. OneWay dx ds × OneWay dy ds × (AllMove dx ds ⊎ AllMove dy ds))
    (λ a ρ w. (way_later dx a ρ w.0, way_later dy a ρ w.1, ⊎_map (λ n. n.1) (λ n. n.1) w.2))
    (λ a b ρ w. (
      record {
        level = way_unopposed dx a b ρ w.0;
        upright = way_unopposed dy a b ρ w.1;
        along =
            ⊎_elim (λ n. or_left (agree (dx a) (dx b)) (agree (dy a) (dy b)) (way_agrees dx a b ρ w.0 n))
            (λ n. or_right (agree (dx a) (dx b)) (agree (dy a) (dy b)) (way_agrees dy a b ρ w.1 n)) w.2;
      },
      (way_first dx a b ρ w.0, way_first dy a b ρ w.1, ⊎_map (λ n. (n.0, n.1.1)) (λ n. (n.0, n.1.1)) w.2),
    ))
    ds (p, q, m)

-- which axis the longer offset stands on, and that no step is wasted
no_waste : (mx my l st dg ox oy : ℕ) → st + dg ≡ l → mx + my ≡ l + dg → ox ≤ mx → oy ≤ my → mx ≤ l → my ≤ l →
    st ≡ gap ox oy → dg ≡ min ox oy → (ox ≡ mx) × (oy ≡ my) × ((mx ≡ l) ⊎ (my ≡ l))
no_waste mx my l st dg ox oy a b c d e f g h = by (dec_le oy ox)
  where
    by : Dec (oy ≤ ox) → (ox ≡ mx) × (oy ≡ my) × ((mx ≡ l) ⊎ (my ≡ l))
    by (yes k) = (omega arith, omega arith, inl (omega arith))
    by (no k) = (omega arith, omega arith, inr (omega arith))

-- C. A list of octile length is tame.
pub octile_tame : (s : Place) (ds : List Dir) → len ds ≡ octile s (end s ds) → Tame Near ds
octile_tame s ds e =
    let c = counts ds in
    let (p, q, m) = no_waste (moves dx ds) (moves dy ds) (length ds) (len ds).straight (len ds).diagonal
    (gap s.x (end s ds).x) (gap s.y (end s ds).y) c.steps c.both
    (rw (end_x s ds) (gap_le dx s.x ds)) (rw (end_y s ds) (gap_le dy s.y ds)) (moves_le dx ds) (moves_le dy ds)
    (ap (λ (l : Len). l.straight) e) (ap (λ (l : Len). l.diagonal) e) in
    one_way_tame ds (gap_one_way dx s.x ds (rw (end_x s ds) at p)) (gap_one_way dy s.y ds (rw (end_y s ds) at q))
    (⊎_elim (λ n. inl (all_moved dx ds n)) (λ n. inr (all_moved dy ds n)) m)
