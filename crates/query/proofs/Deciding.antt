-- A query decided: refused, or answered. Assumes nothing.
use Prim.Native.Nat.{ℕ, ◌*◌, ◌<◌}
use mathlib.Core.List.{List, [], ◌∷◌}
use mathlib.Core.Logic.{inl, inr, ⊎_elim, ◌≢◌}
use mathlib.Core.Path.{refl, sym, subst}
use native.Mathlib.Omega.{arith}
use lib.ListN.{length}
use Rattle.floor.specs.Refusals.{Refusal, refuse, FirstOf}
use Rattle.floor.specs.Words.{row_words, UnusedClear}
use Rattle.plan.specs.Plan.{Fits}
use Rattle.answering.specs.Asked.{Asked}
use Rattle.answering.specs.Steps.{late_rows, LateOutcome}
use Rattle.telling.specs.declared.Answer.{Answer}
use Rattle.query.specs.Query.{query_rows, QueryOutcome}
use Rattle.query.specs.Refusing.{Judged, plan_rows, end_rows, CodeOnly}
use Rattle.query.proofs.Early.{plan_refuses, ends_refuse, late_decides}

module _ (a : Asked) where
  -- the rows 9, 10 and 11
  abbrev ends : List Refusal
  ends = end_rows a.w a.h a.words a.sx a.sy a.gx a.gy (length a.plan.corners) (length a.work)

  -- the numbers of the rows
  plan_below : (c : ℕ) → FirstOf (plan_rows a.w a.h a.words a.plan) c → c < 12
  plan_below c f = ⊎_elim (λ p. let e = p.1 in omega arith) (λ p. second p.1) f
    where
      -- what row 8 gives is below 12
      fourth : FirstOf (refuse 8 (¬ (Fits a.w a.h a.words a.plan)) ∷ []) c → c < 12
      fourth (inl p) = let e = p.1 in omega arith
      fourth (inr p) = let e = p.1 in omega arith

      -- what rows 2, 3 and 8 give is below 12
      second : FirstOf (refuse 2 (length a.words ≢ a.h * row_words a.w) ∷ refuse 3 (UnusedClear a.w a.h a.words) ∷ refuse 8 (¬ (Fits a.w a.h a.words a.plan)) ∷ []) c → c < 12
      second (inl p) = let e = p.1 in omega arith
      second (inr p) = ⊎_elim (λ p. let e = p.1 in omega arith) (λ p. fourth p.1) p.1

  -- what rows 9, 10 and 11 give is below 12
  ends_below : (c : ℕ) → FirstOf ends c → c < 12
  ends_below c f =
      ⊎_elim (λ p. let e = p.1 in omega arith)
      (λ p. ⊎_elim (λ p. let e = p.1 in omega arith) (λ p. ⊎_elim (λ p. let e = p.1 in omega arith) (λ p. let e = p.1 in omega arith) p.1) p.1) f

  -- rows 12 and 13 give no number from 1 to 11
  late_beyond : (c : ℕ) → FirstOf (late_rows a) c → 0 < c → c < 12 → ⊥
  late_beyond c f l m =
      ⊎_elim (λ p. let e = p.1 in omega arith) (λ p. ⊎_elim (λ p. let e = p.1 in omega arith) (λ p. let e = p.1 in omega arith) p.1) f

  -- refused
  refused_outcome : (c : ℕ) (r : Answer) → FirstOf (query_rows a) c → 0 < c → c < 12 → CodeOnly c r → QueryOutcome a r a.route a.work
  refused_outcome c r f l m z =
      let e = z.code in
      record {
        number = subst (FirstOf (query_rows a)) (sym e) f;
        found = λ k. absurd (⊎_elim (λ i. omega arith) (λ i. omega arith) k);
        lost = λ k. absurd (omega arith);
        refused = λ i j. (record { straight = z.straight; diagonal = z.diagonal; cells = z.cells }, z.effort);
        route_written = λ k. absurd (omega arith);
        route_kept = λ k. refl;
        work_cleared = λ k. absurd (⊎_elim (λ i. omega arith) (⊎_elim (λ i. omega arith) (λ i. omega arith)) k);
        work_kept = λ i j. refl;
      }

  -- a query that rows 1, 2, 3 and 8 refuse gives their number and leaves the lists as they were
  pub by_plan : (c : ℕ) (r : Answer) → Judged a.w a.h a.words a.plan c → 0 < c → CodeOnly c r → QueryOutcome a r a.route a.work
  by_plan c r j l z = refused_outcome c r (plan_refuses a c j l) l (plan_below c j.number) z

  -- so does one that rows 9, 10 and 11 refuse
  pub by_ends : (c : ℕ) (r : Answer) → Judged a.w a.h a.words a.plan 0 → FirstOf ends c → 0 < c → CodeOnly c r →
      QueryOutcome a r a.route a.work
  by_ends c r j f l z = refused_outcome c r (ends_refuse a c j f l) l (ends_below c f) z

  -- answered
  pub by_answer : (r : Answer) (route₁ work₁ : List ℕ) → Judged a.w a.h a.words a.plan 0 → FirstOf ends 0 → LateOutcome a r route₁ work₁ →
      QueryOutcome a r route₁ work₁
  by_answer r route₁ work₁ j f o =
      record {
        number = late_decides a r.code j f o.number;
        found = o.found;
        lost = o.lost;
        refused = λ l m. absurd (late_beyond r.code o.number l m);
        route_written = o.route_written;
        route_kept = o.route_kept;
        work_cleared = λ k. o.work_cleared;
        work_kept = λ l m. absurd (late_beyond r.code o.number l m);
      }
