-- A trip from a cell to itself: its answer.
-- Assumes nothing.
use Prim.Native.Nat.{ℕ}
use mathlib.Core.Path.{◌≡◌, sym, ◌∙◌, ap, subst}
use mathlib.Core.List.{List, []}
use mathlib.Core.Logic.{◌⊎◌, inl, inr, ⊎_elim}
use Rattle.lengths.specs.Lengths.{Len, 𝟎}
use Rattle.floor.specs.Words.{place_of}
use Rattle.effort.specs.Effort.{Far, EffortLost}
use Rattle.effort.specs.Net.{Startable}
use Rattle.chain.specs.Route.{LineClear, cells_of}
use Rattle.chain.proofs.Legal.{start_near}
use Rattle.answering.specs.Asked.{Asked, cell_of_start, cell_of_goal, Distance, Billed, WalkFound}
use Rattle.telling.specs.declared.Answer.{Answer}
use Rattle.answering.proofs.Still.{start_is_goal}
use Rattle.query.specs.Query.{Answered, QueryOutcome}
use Rattle.query.proofs.Passed.{passed, answered_late, trip_passed}

module _ (a : Asked) where
  -- the answer to a query from a cell to itself
  pub record Stayed (r : Answer) : Type 0 where
    pub code : (r.code ≡ 0) ⊎ (r.code ≡ 13)
    pub straight : r.straight ≡ 0
    pub diagonal : r.diagonal ≡ 0
    pub cells : r.cells ≡ 1
    pub effort : r.effort ≡ 0

  -- An answered query from a cell to itself has length (0, 0), one cell and effort 0, and never the number 12.
  pub stay_answer : {r : Answer} {route work : List ℕ} → QueryOutcome a r route work → Answered a r → cell_of_start a ≡ cell_of_goal a → Stayed r
  stay_answer {r} o k e =
      ⊎_elim (λ z. found (inl z) (o.found (inl z))) (⊎_elim (λ z. absurd (lost (o.lost z).1)) (λ z. found (inr z) (o.found (inr z)))) k
    where
      trip : Startable a.w a.h a.words (cell_of_start a) (cell_of_goal a)
      trip = trip_passed a (passed a r.code o.number (answered_late a r k))

      clear : LineClear a.w a.h a.words (cell_of_start a) (cell_of_goal a)
      clear = subst (LineClear a.w a.h a.words (cell_of_start a)) e (start_is_goal a.w a.h a.words (cell_of_start a) trip.start_free)

      lost : EffortLost a.w a.h a.words (cell_of_start a) (cell_of_goal a) r.effort → ⊥
      lost l = l.none [] (trip.start_free, ap (place_of a.w) e)

      none : {l : Len} → Distance a l → 𝟎 ≡ l
      none {l} f =
          start_near a.w a.h a.words (cell_of_start a) (cell_of_goal a) trip
          (subst (λ (c : ℕ). Far a.w a.h a.words (cell_of_start a) c l) (sym e) f)

      free_of_charge : {n : ℕ} → Billed a n → n ≡ 0
      free_of_charge (inl b) = b.1
      free_of_charge (inr b) = absurd (b.0 clear)

      found : (r.code ≡ 0) ⊎ (r.code ≡ 13) → WalkFound a r → Stayed r
      found c f = record {
        code = c;
        straight = f.straight ∙ ap (λ (l : Len). l.straight) (sym (none f.shortest));
        diagonal = f.diagonal ∙ ap (λ (l : Len). l.diagonal) (sym (none f.shortest));
        cells = f.cells ∙ ap cells_of (sym (none f.shortest));
        effort = free_of_charge f.billed;
      }
