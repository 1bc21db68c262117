-- Which of the refusals 1 to 11 a query gives, from its tests. Assumes nothing.
use Prim.Native.Nat.{ℕ, ◌+◌, ◌*◌, ◌<◌, ◌≤◌}
use mathlib.Core.List.{List, [], ◌∷◌, ◌++◌}
use mathlib.Core.Logic.{inl, inr, ⊎_elim}
use mathlib.Core.Path.{refl}
use native.Mathlib.Omega.{arith}
use lib.ListN.{length}
use Rattle.floor.specs.Board.{at, Free}
use Rattle.floor.specs.Refusals.{Refusal, FirstOf, Numbered, refuse}
use Rattle.floor.specs.Words.{Floor, floor_rows, board}
use Rattle.floor.specs.Codes.{number}
use Rattle.floor.proofs.Accepted.{accepted}
use Rattle.floor.proofs.Tables.{first_here, first_later}
use Rattle.ground.proofs.Logic.{true_or_false}
use Rattle.plan.specs.Plan.{Lists, Fits}
use Rattle.answering.specs.Asked.{Asked}
use Rattle.answering.specs.Steps.{late_rows, Unrefused}
use Rattle.query.specs.Query.{Shut, query_rows}
use Rattle.query.specs.Refusing.{Judged, plan_rows, end_rows, early_rows}

-- none of the first rows applies where none of all does
first_only : (rs ss : List Refusal) → Numbered rs → FirstOf (rs ++ ss) 0 → FirstOf rs 0
first_only [] ss n f = refl
first_only (r ∷ rs) ss n (inl p) = absurd (let l = n.0 in let e = p.1 in omega arith)
first_only (r ∷ rs) ss n (inr p) = inr (p.0, first_only rs ss n.1 p.1)

module _ (w h : ℕ) (words : List ℕ) (p : Lists) where
  -- the floor's rows have the numbers 1, 2 and 3
  floor_numbered : Numbered (floor_rows w h words)
  floor_numbered = (omega arith, (omega arith, (omega arith, tt)))

  -- row 8 alone: the plan is not the floor's own
  eighth : List Refusal
  eighth = refuse 8 (¬ (Fits w h words p)) ∷ []

  -- a floor that is refused
  pub floor_refused : (c : ℕ) → FirstOf (floor_rows w h words) c → 0 < c → Judged w h words p c
  unfolding eighth
  floor_refused c f l = record { number = first_here (floor_rows w h words) eighth c f l; own = λ e. absurd (omega arith) }

  -- a floor with its own plan
  pub own_plan : FirstOf (floor_rows w h words) 0 → Fits w h words p → Judged w h words p 0
  unfolding eighth
  own_plan f own = record { number = first_later (floor_rows w h words) eighth 0 floor_numbered f (inr (λ n. n own, refl)); own = λ e. own }

  -- an accepted plan's floor is accepted
  pub judged_floor : Judged w h words p 0 → Floor w h words
  unfolding eighth
  judged_floor j = accepted w h words (first_only (floor_rows w h words) eighth floor_numbered j.number)

-- ---- all of a query's rows
module _ (a : Asked) where
  -- the rows 9, 10 and 11
  abbrev ends : List Refusal
  ends = end_rows a.w a.h a.words a.sx a.sy a.gx a.gy (length a.plan.corners) (length a.work)

  -- rows 1, 2, 3 and 8 are numbered
  plan_numbered : Numbered (plan_rows a.w a.h a.words a.plan)
  plan_numbered = (omega arith, (omega arith, (omega arith, (omega arith, tt))))

  -- and so are all the rows 1 to 11
  early_numbered : Numbered (early_rows a)
  early_numbered = (omega arith, (omega arith, (omega arith, (omega arith, (omega arith, (omega arith, (omega arith, tt)))))))

  -- a number that rows 1, 2, 3 and 8 give is the query's
  pub plan_refuses : (c : ℕ) → Judged a.w a.h a.words a.plan c → 0 < c → FirstOf (query_rows a) c
  plan_refuses c j l = first_here (early_rows a) (late_rows a) c (first_here (plan_rows a.w a.h a.words a.plan) ends c j.number l) l

  -- so is one that rows 9, 10 and 11 give
  pub ends_refuse : (c : ℕ) → Judged a.w a.h a.words a.plan 0 → FirstOf ends c → 0 < c → FirstOf (query_rows a) c
  ends_refuse c j f l =
      first_here (early_rows a) (late_rows a) c (first_later (plan_rows a.w a.h a.words a.plan) ends c plan_numbered j.number f) l

  -- where none of them applies, rows 12 and 13 decide
  pub late_decides : (c : ℕ) → Judged a.w a.h a.words a.plan 0 → FirstOf ends 0 → FirstOf (late_rows a) c → FirstOf (query_rows a) c
  late_decides c j f g =
      first_later (early_rows a) (late_rows a) c early_numbered (first_later (plan_rows a.w a.h a.words a.plan) ends 0 plan_numbered j.number f) g

  -- a cell that is not shut is inside and free
  open_cell : (x y : ℕ) → ¬ (Shut a.w a.h a.words x y) → (x < a.w) × (y < a.h) × Free (board a.w a.h a.words) (at x y)
  open_cell x y n = (
    inside x a.w (λ l. n (inl l)),
    inside y a.h (λ l. n (inr (inl l))),
    ⊎_elim (λ t. t) (λ f. absurd (n (inr (inr f)))) (true_or_false (board a.w a.h a.words (at x y).x (at x y).y)),
  )
    where
      -- a column or row that is not outside is inside
      inside : (i m : ℕ) → ¬ (m ≤ i) → i < m
      inside i m k = omega (arith, k)

  -- and everything is ready
  pub ready : Judged a.w a.h a.words a.plan 0 → FirstOf ends 0 → Unrefused a
  ready j f = by f
    where
      -- where neither end is shut and there is room, none of the rows 1 to 11 applies
      make : ¬ (Shut a.w a.h a.words a.sx a.sy) → ¬ (Shut a.w a.h a.words a.gx a.gy) →
          ¬ (length a.work < 6 * (length a.plan.corners + 2)) → Unrefused a
      make s g r =
          let p = open_cell a.sx a.sy s in
          let q = open_cell a.gx a.gy g in
          record {
            floor = judged_floor a.w a.h a.words a.plan j;
            fits = j.own refl;
            start_column = p.0;
            start_row = p.1;
            goal_column = q.0;
            goal_row = q.1;
            start_free = p.2;
            goal_free = q.2;
            room = omega (arith, r);
          }

      by : FirstOf (end_rows a.w a.h a.words a.sx a.sy a.gx a.gy (length a.plan.corners) (length a.work)) 0 → Unrefused a
      by (inl p) = absurd (let e = p.1 in omega arith)
      by (inr p) = ⊎_elim (λ q. absurd (let e = q.1 in omega arith)) (λ q. ⊎_elim (λ r. absurd (let e = r.1 in omega arith)) (λ r. make p.0 q.0 r.0) q.1) p.1
