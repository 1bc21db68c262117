-- The effort billed is at most two more than the number of turning points.
-- Assumes nothing.
use Prim.Native.Nat.{ℕ, zero, suc, ◌+◌, ◌*◌, ◌≤◌}
use mathlib.Core.Path.{◌≡◌, sym, ◌∙◌, ap, subst}
use mathlib.Core.Bool.{Bool, true, false, true≢false}
use mathlib.Core.List.{List}
use mathlib.Core.Logic.{◌⊎◌, inl, inr, ⊎_elim}
use native.Mathlib.Decide.{dec_le}
use native.Mathlib.Numerals.{add-one}
use native.Mathlib.Omega.{arith}
use lib.ListN.{length}
use Rattle.floor.specs.Board.{corner}
use Rattle.floor.specs.Words.{board, place_of}
use Rattle.ground.proofs.Logic.{true_or_false}
use Rattle.corners.specs.Lists.{select}
use Rattle.corners.specs.Corners.{corner_cell}
use Rattle.corners.proofs.Selects.{select_none, length_taken, length_passed}
use Rattle.plan.specs.Plan.{Fits}
use Rattle.settling.specs.Counts.{Counts, empty, with, without, below}
use Rattle.effort.proofs.Bounds.{found_bound, lost_bound}
use Rattle.answering.specs.Asked.{Asked, cell_of_start, cell_of_goal, Billed}
use Rattle.telling.specs.declared.Answer.{Answer}
use Rattle.query.specs.Query.{Answered, QueryOutcome}
use Rattle.query.proofs.Passed.{passed, answered_late}

-- the numbers below n that pass a test are as many as are selected
pub select_counts : (f : ℕ → Bool) (n : ℕ) → Counts (λ c. f c ≡ true) (below n) (length (select f n))
select_counts f zero = rw (select_none f) empty
select_counts f (suc n) = by (true_or_false (f n)) (select_counts f n)
  where
    by :
        (f n ≡ true) ⊎ (f n ≡ false) → Counts (λ c. f c ≡ true) (below n) (length (select f n)) →
        Counts (λ c. f c ≡ true) (below (suc n)) (length (select f (suc n)))
    by (inl e) k =
        subst (λ (m : ℕ). Counts (λ c. f c ≡ true) (below (suc n)) m)
        (sym (ap (λ (m : ℕ). length (select f m)) (sym (add-one n)) ∙ length_taken f n e ∙ add-one (length (select f n))))
        (with e k)
    by (inr e) k =
        subst (λ (m : ℕ). Counts (λ c. f c ≡ true) (below (suc n)) m)
        (sym (ap (λ (m : ℕ). length (select f m)) (sym (add-one n)) ∙ length_passed f n e))
        (without (λ t. true≢false (sym t ∙ e)) k)

module _ (a : Asked) where
  -- the plan's turning points are as many as the floor's, where the plan is the floor's own
  pub corners_counted :
      Fits a.w a.h a.words a.plan →
      Counts (λ c. corner (board a.w a.h a.words) (place_of a.w c) ≡ true) (below (a.w * a.h)) (length a.plan.corners)
  corners_counted f =
      subst
      (λ (cs : List ℕ).
      Counts (λ c. corner (board a.w a.h a.words) (place_of a.w c) ≡ true) (below (a.w * a.h)) (length cs))
      (sym f.own.marks.ascending)
      (select_counts (corner_cell a.w a.h a.words) (a.w * a.h))

  -- The effort of an answer is at most two more than the number of the plan's turning points.
  pub effort_at_most : {r : Answer} {route work : List ℕ} → QueryOutcome a r route work → Answered a r → r.effort ≤ length a.plan.corners + 2
  effort_at_most {r} o k = stable (dec_le r.effort (length a.plan.corners + 2))
    where
      billed : Fits a.w a.h a.words a.plan → Billed a r.effort → r.effort ≤ length a.plan.corners + 2
      billed f (inl b) = let e = b.1 in omega arith
      billed f (inr b) = found_bound a.w a.h a.words (cell_of_start a) (cell_of_goal a) (corners_counted f) b.1

      bound : Fits a.w a.h a.words a.plan → r.effort ≤ length a.plan.corners + 2
      bound f =
          ⊎_elim (λ z. billed f (o.found (inl z)).billed)
          (⊎_elim (λ z. lost_bound a.w a.h a.words (cell_of_start a) (cell_of_goal a) (corners_counted f) (o.lost z).1)
          (λ z. billed f (o.found (inr z)).billed))
          k

      stable : Dec (r.effort ≤ length a.plan.corners + 2) → r.effort ≤ length a.plan.corners + 2
      stable (yes l) = l
      stable (no n) = absurd ((passed a r.code o.number (answered_late a r k)).fitting (λ f. n (bound f)))
