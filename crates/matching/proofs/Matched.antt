-- What the parts of a plan's recognition tell together: a turning point's neighbours, and the starts. Assumes nothing.
use Prim.Native.Nat.{ℕ, ◌*◌, ◌≤◌, ◌<◌}
use mathlib.Core.Bool.{true}
use mathlib.Core.List.{List}
use mathlib.Core.Logic.{inl, inr}
use mathlib.Core.Path.{◌≡◌, sym, ◌∙◌, ap, subst}
use native.Mathlib.Omega.{arith}
use lib.ListN.{length, get_or}
use Rattle.floor.specs.Words.{board, place_of, Floor}
use Rattle.ground.specs.Kind.{walkers}
use Rattle.corners.specs.Lists.{Picked}
use Rattle.corners.specs.Corners.{corner_cell, corner_cells}
use Rattle.marks.specs.Marks.{Cleared}
use Rattle.fields.specs.Fields.{Seen, Sweepable}
use Rattle.plan.specs.Plan.{LinkedCells}
use Rattle.plan.specs.Rising.{In, Rising}
use Rattle.plan.proofs.Risings.{rising_equal, rising_same}
use Rattle.plan.proofs.Pickings.{picked_in, in_picked, picked_rising, rising_picked, select_rising}
use Rattle.ground.proofs.Cells.{corner_free}
use Rattle.plan.proofs.Seens.{seen_linked, linked_seen}
use Rattle.plan.proofs.Linkings.{entry_turns}
use Rattle.plan.proofs.Links.{up_to}
use Rattle.matching.specs.Matching.{Started, Before, ShownBefore, Tallied, Unlisted}

-- ---- a turning point's neighbours
module _ (w h : ℕ) (words : List ℕ) (cell : ℕ) (turns : corner_cell w h words cell ≡ true) (listed : List ℕ) where
  -- what is listed is the turning point's neighbours
  abbrev Right : Type 0
  Right = Picked (LinkedCells walkers w h words cell) (corner_cells w h words) listed

  -- it is not where one that is seen is missing
  pub unlisted_wrong : Unlisted w h words cell listed → ¬ Right
  unlisted_wrong u right = let l = seen_linked w h words cell turns u.t u.seen in u.missing (in_picked right u.t l.0 l.1)

  -- nor where it does not ascend
  pub right_rising : Right → Rising listed
  right_rising right = picked_rising right (select_rising (corner_cell w h words) (w * h))

  module _ (rising : Rising listed) {count : ℕ} (a : Tallied w h words cell listed 8 0 count) where
    -- all that is linked was found
    linked_found : (t : ℕ) → In t (corner_cells w h words) → LinkedCells walkers w h words cell t → In t a.found
    linked_found t p q = let s = linked_seen w h words cell turns t p q in a.all s.field s.row t s.field_in s.shown

    -- and the other way round
    found_linked : (t : ℕ) → In t a.found → In t (corner_cells w h words) × LinkedCells walkers w h words cell t
    found_linked t i = let z = a.shown t i in seen_linked w h words cell turns t (by z z.before)
      where
        by : (z : ShownBefore w h words cell 8 0 t) → Before z.field z.row 8 0 → Seen w h words cell t
        by z (inl l) = record { field = z.field; row = z.row; field_in = l; shown = z.shown }
        by z (inr (e, l)) = absurd (omega arith)

    -- what is listed is right if it is as many as were found
    pub counted_right : length listed ≡ count → Right
    counted_right e =
        subst (Picked (LinkedCells walkers w h words cell) (corner_cells w h words))
        (rising_equal a.found listed a.rising rising a.known (a.many ∙ sym e))
        (rising_picked (corner_cells w h words) a.found (select_rising (corner_cell w h words) (w * h)) a.rising found_linked linked_found)

    -- and only then
    pub right_counted : Right → length listed ≡ count
    right_counted right =
        ap length
        (rising_same listed a.found rising a.rising (λ t i. let l = picked_in right t i in linked_found t l.0 l.1) a.known)
        ∙ a.many

-- a listed turning point can be swept from
pub corner_ready : (w h : ℕ) (words clear corners : List ℕ) → Floor w h words → (4 * (w * h) ≤ length clear) × Cleared w h words clear →
    corners ≡ corner_cells w h words → (k : ℕ) → k < length corners →
    Sweepable w h words (get_or corners k 0) clear × (corner_cell w h words (get_or corners k 0) ≡ true)
corner_ready w h words clear corners floor clears whole k l =
    let (m, turns) = entry_turns w h words corners whole k l in (
      record {
        known = record { floor = floor; long = clears.0; cleared = clears.1 };
        cell_in = m;
        free = corner_free (board w h words) (place_of w (get_or corners k 0)) turns;
      },
      turns,
    )

-- ---- starts
-- no start is beyond the neighbours
pub started_in : {n m : ℕ} {starts : List ℕ} → Started n m starts → (k : ℕ) → k ≤ n → get_or starts k 0 ≤ m
started_in {n} {m} {starts} s k l = rw (← s.last) (up_to starts n s.rising k l)
