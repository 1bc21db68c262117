-- Two near steps may change places where the place between them is no turning point.
-- Assumes nothing.
use mathlib.Core.Path.{◌≡◌, refl, sym, ap, subst}
use mathlib.Core.Bool.{true, false}
use mathlib.Core.List.{List, ◌∷◌}
use mathlib.Core.Logic.{⊎_elim}
use Prim.Native.Nat.{ℕ}
use Rattle.floor.specs.Board.{Board, Padded, Place, Free, Dir, Offset, less, same, more, dx, dy, shift, go, corner}
use Rattle.ground.specs.Kind.{walkers}
use Rattle.ground.specs.Walk.{end, Legal}
use Rattle.ground.proofs.Logic.{not_both, or_cases}
use Rattle.ground.proofs.Cells.{back, back_undoes, column_inside, row_inside, Smooth, smooth, Cells, step_cells, cells_step, turned, turn_smooth, turn_padded}
use Rattle.ground.proofs.Near.{opposite, Near, agree_means, near_meet}

-- The cells of two steps, with the offsets (h, v) and then (h', v'), from the place x, y.
pub record Two (B : Board) (h v h' v' : Offset) (x y : ℕ) : Type 0 where
  pub first : Cells B h v x y
  pub second : Cells B h' v' (shift h x) (shift v y)

module _ {B : Board} (padded : Padded B) (x y : ℕ) (free : B x y ≡ true) where
  -- straight and then diagonal may become diagonal and then straight
  straight_first : (h v : Offset) → Smooth B (shift h x) y → Cells B h same x y → Cells B h v (shift h x) y → Two B h v h same x y
  straight_first h v s a b =
      record {
        first = (b.2, a.1, rw (back_undoes h (column_inside padded free)) at (s (back h) v (rw (back_undoes h (column_inside padded free)) free) b.2));
        second = (b.0, b.0, b.2);
      }

  -- and the other way round
  diagonal_first : (h v : Offset) → Smooth B (shift h x) (shift v y) → Cells B h v x y → Cells B h same (shift h x) (shift v y) →
      Two B h same h v x y
  diagonal_first h v s a b =
      record {
        first = (a.1, a.1, free);
        second = (b.0, rw (back_undoes v (row_inside padded free)) at (s h (back v) b.0 (rw (back_undoes v (row_inside padded free)) a.1)), a.0);
      }

  -- two steps that agree on the first axis may change places
  exchange : (h v v' : Offset) → opposite v v' ≡ false → Smooth B (shift h x) (shift v y) → Cells B h v x y →
      Cells B h v' (shift h x) (shift v y) → Two B h v' h v x y
  exchange h same v' o s a b = straight_first h v' s a b
  exchange h less same o s a b = diagonal_first h less s a b
  exchange h more same o s a b = diagonal_first h more s a b
  exchange h less less o s a b = record { first = a; second = b }
  exchange h more more o s a b = record { first = a; second = b }
  exchange h less more o s a b = not_both refl o
  exchange h more less o s a b = not_both refl o

  -- the same, where the agreement is an equation
  exchange_along : (h h' v v' : Offset) → h ≡ h' → opposite v v' ≡ false → Smooth B (shift h x) (shift v y) → Cells B h v x y →
      Cells B h' v' (shift h x) (shift v y) → Two B h' v' h v x y
  exchange_along h h' v v' e o s a b =
      subst (λ (k : Offset). Cells B k v' (shift h x) (shift v y) → Two B k v' h v x y) e (λ c. exchange h v v' o s a c) b

-- the same on the exchanged board
turn_two : {B : Board} {h v h' v' : Offset} {x y : ℕ} → Two (turned B) v h v' h' y x → Two B h v h' v' x y
turn_two t =
    record {
      first = (t.first.0, t.first.2, t.first.1);
      second = (t.second.0, t.second.2, t.second.1);
    }

module _ {B : Board} (padded : Padded B) where
  -- near steps agree on one axis, so they may change places
  near_exchange : (a b : Dir) (s : Place) → Near a b → Free B s → Smooth B (go a s).x (go a s).y →
      Cells B (dx a) (dy a) s.x s.y → Cells B (dx b) (dy b) (go a s).x (go a s).y →
      Two B (dx b) (dy b) (dx a) (dy a) s.x s.y
  near_exchange a b s n f m ca cb =
      ⊎_elim
      (λ e. exchange_along padded s.x s.y f (dx a) (dx b) (dy a) (dy b) (agree_means _ _ e).is_same n.upright m ca cb)
      (λ e. turn_two
      (exchange_along (turn_padded padded) s.y s.x f (dy a) (dy b) (dx a) (dx b) (agree_means _ _ e).is_same n.level
      (turn_smooth B _ _ m) (ca.0, ca.2, ca.1) (cb.0, cb.2, cb.1)))
      (or_cases _ _ n.along)

  -- A. The swap: two near steps may change places where the place between them is no turning point.
  pub swap : (a b : Dir) (ρ : List Dir) (s : Place) → Near a b → corner B (go a s) ≡ false → Legal walkers B s (a ∷ b ∷ ρ) →
      Legal walkers B s (b ∷ a ∷ ρ) × (end s (b ∷ a ∷ ρ) ≡ end s (a ∷ b ∷ ρ))
  swap a b ρ s n c l =
      let ca : Cells B (dx a) (dy a) s.x s.y = step_cells B a s l.0 l.1 in
      let two : Two B (dx b) (dy b) (dx a) (dy a) s.x s.y =
      near_exchange a b s n l.0 (smooth B _ _ ca.0 c) ca (step_cells B b (go a s) l.2.0 l.2.1) in
      let meet : go a (go b s) ≡ go b (go a s) = near_meet a b s n in (
        (l.0, cells_step B b s two.first, (two.first.0, cells_step B a (go b s) two.second, subst (λ (p : Place). Legal walkers B p ρ) (sym meet) l.2.2)),
        ap (λ (p : Place). end p ρ) meet,
      )
