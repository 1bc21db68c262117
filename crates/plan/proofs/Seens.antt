-- What is seen from a turning point is what it is linked to, and whether two cells are linked is decided. Assumes nothing.
use Prim.Native.Nat.{ℕ, ◌*◌, ◌≤◌, ◌<◌}
use mathlib.Core.Bool.{true, Bool-discrete}
use mathlib.Core.List.{List}
use mathlib.Core.Logic.{⊎_elim}
use mathlib.Core.Path.{◌≡◌}
use native.Mathlib.Omega.{arith}
use lib.ListN.{length, get_or}
use Rattle.floor.specs.Board.{Board, Padded, Place, corner}
use Rattle.floor.specs.Words.{place_of}
use Rattle.floor.proofs.Places.{padded}
use Rattle.ground.specs.Kind.{walkers}
use Rattle.ground.specs.Link.{Direct, Link}
use Rattle.ground.proofs.Choose.{place_discrete}
use Rattle.ground.proofs.Joined.{direct_dec}
use Rattle.corners.specs.Corners.{corner_cell, corner_cells}
use Rattle.plan.specs.Plan.{LinkedCells}
use Rattle.plan.specs.Rising.{In}
use Rattle.plan.specs.Linking.{Crowded}
use Rattle.fields.specs.Fields.{Seen}
use Rattle.plan.proofs.Risings.{at_in, rising_fewer}
use Rattle.plan.proofs.Linked.{shown_link, link_shown}
use Rattle.plan.proofs.Pickings.{select_in, in_select, select_rising}

-- whether two places are linked is decided
pub link_dec : {B : Board} → Padded B → (s t : Place) → Dec (Link walkers B s t)
link_dec {B} pad s t = by (Bool-discrete (corner B s) true) (Bool-discrete (corner B t) true) (place_discrete s t) (direct_dec pad s t)
  where
    by : Dec (corner B s ≡ true) → Dec (corner B t ≡ true) → Dec (s ≡ t) → Dec (Direct walkers B s t) → Dec (Link walkers B s t)
    by (no n) b e d = no (λ l. n l.from)
    by (yes a) (no n) e d = no (λ l. n l.to)
    by (yes a) (yes b) (yes e) d = no (λ l. l.two e)
    by (yes a) (yes b) (no n) (no d) = no (λ l. d l.direct)
    by (yes a) (yes b) (no n) (yes d) = yes (record { from = a; to = b; two = n; direct = d })

module _ (w h : ℕ) (words : List ℕ) where
  -- whether two cells are linked is decided
  pub linked_dec : (s t : ℕ) → Dec (LinkedCells walkers w h words s t)
  linked_dec s t = link_dec (padded w h words) (place_of w s) (place_of w t)

  -- an entry of the turning points is the cell of one
  pub corner_entry : (i : ℕ) → i < length (corner_cells w h words) →
      (get_or (corner_cells w h words) i 0 < w * h) × (corner_cell w h words (get_or (corner_cells w h words) i 0) ≡ true)
  corner_entry i l = select_in (corner_cell w h words) (w * h) _ (at_in (corner_cells w h words) i l)

  -- what is seen from a cell is a turning point
  pub seen_corner : (cell t : ℕ) → Seen w h words cell t → In t (corner_cells w h words)
  seen_corner cell t s = in_select (corner_cell w h words) (w * h) t s.shown.0 s.shown.1.shows.turns

  -- there is room for what is seen where there is for all turning points
  pub found_room : (cell : ℕ) → length (corner_cells w h words) ≤ 2048 → (room : ℕ) → room ≡ 2048 → Crowded w h words cell room 0 → ⊥
  found_room cell few room long o =
      let fewer = rising_fewer o.found (corner_cells w h words) o.rising (select_rising (corner_cell w h words) (w * h))
      (λ t p. seen_corner cell t (o.seen t p)) in
      ⊎_elim (λ p. omega arith) (λ p. omega arith) o.too_many

  module _ (cell : ℕ) (turns : corner_cell w h words cell ≡ true) (t : ℕ) where
    -- what is seen from a turning point is one to which it is linked
    pub seen_linked : Seen w h words cell t → In t (corner_cells w h words) × LinkedCells walkers w h words cell t
    seen_linked s =
        (seen_corner cell t s, shown_link (padded w h words) s.field s.field_in s.shown.1.shows turns)

    -- and the other way round
    pub linked_seen : In t (corner_cells w h words) → LinkedCells walkers w h words cell t → Seen w h words cell t
    linked_seen i l =
        let (f, lf, n, shows, own) = link_shown (padded w h words) l in
        record { field = f; row = n; field_in = lf; shown = ((select_in (corner_cell w h words) (w * h) t i).0, record { shows = shows; own = own }) }
