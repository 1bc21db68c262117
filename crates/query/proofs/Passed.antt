-- What is known where a query is answered: no row of the table up to 11 applies, so start and goal make a trip.
-- Assumes nothing.
use Prim.Native.Nat.{ℕ, suc, ◌*◌, ◌<◌, ◌≤◌}
use mathlib.Core.Path.{◌≡◌, sym, ap, subst}
use mathlib.Core.List.{List, [], ◌∷◌}
use mathlib.Core.Logic.{◌⊎◌, inl, inr, ⊎_elim}
use native.Mathlib.Omega.{arith}
use lib.ListN.{length}
use lib.Arith.{digits_lt, digits_div, digits_mod}
use Rattle.lengths.specs.Lengths.{Len}
use Rattle.lengths.specs.Laws.{le_or_lt}
use Rattle.floor.specs.Board.{Free, at}
use Rattle.floor.specs.Refusals.{Refusal, refuse, FirstOf}
use Rattle.floor.specs.Words.{SizeRefused, board, number_of, place_of}
use Rattle.floor.proofs.Accepted.{fits}
use Rattle.ground.specs.Kind.{walkers}
use Rattle.ground.specs.Walk.{NoWalk}
use Rattle.ground.proofs.Logic.{true_or_false}
use Rattle.ground.proofs.Walks.{place_eq}
use Rattle.plan.specs.Plan.{Fits}
use Rattle.effort.specs.Net.{Startable}
use Rattle.chain.specs.Route.{cells_of}
use Rattle.answering.specs.Asked.{Asked, cell_of_start, cell_of_goal, work_size, Distance}
use Rattle.telling.specs.declared.Answer.{Answer}
use Rattle.query.specs.Query.{Shut, query_rows, Answered}

-- a row that did not give its number does not apply, and the rows after it decide
past : {P Q : Type 0} {c n : ℕ} → ¬ (c ≡ n) → (P × (c ≡ n)) ⊎ ((¬ P) × Q) → (¬ P) × Q
past k (inl p) = absurd (k p.1)
past k (inr p) = p

-- a cell in its column and row has the place of its number
pub number_place : (w x y : ℕ) → x < w → place_of w (number_of w x y) ≡ at x y
number_place w x y l = place_eq (ap suc (digits_mod y l)) (ap suc (digits_div y l))

-- a cell of the floor that is free
pub record Open (w h : ℕ) (words : List ℕ) (x y : ℕ) : Type 0 where
  pub inside : number_of w x y < w * h
  pub free : Free (board w h words) (place_of w (number_of w x y))

-- a cell that is neither outside nor blocked is one
pub open_cell : (w h : ℕ) (words : List ℕ) (x y : ℕ) → ¬ (Shut w h words x y) → Open w h words x y
open_cell w h words x y n = record {
  inside = omega (arith, digits_lt row column);
  free = subst (Free (board w h words)) (sym (number_place w x y column)) clear;
}
  where
    column : x < w
    column = let k : ¬ (w ≤ x) = λ l. n (inl l) in omega (arith, k)

    row : y < h
    row = let k : ¬ (h ≤ y) = λ l. n (inr (inl l)) in omega (arith, k)

    clear : Free (board w h words) (at x y)
    clear = ⊎_elim (λ t. t) (λ f. absurd (n (inr (inr f)))) (true_or_false (board w h words (suc x) (suc y)))

module _ (a : Asked) where
  -- the rows 12 and 13 of the table
  abbrev pub late_rows : List Refusal
  late_rows =
      refuse 12 (NoWalk walkers (board a.w a.h a.words) (place_of a.w (cell_of_start a)) (place_of a.w (cell_of_goal a)))
      ∷ refuse 13 ((l : Len) × Distance a l × (length a.route < cells_of l))
      ∷ []

  -- none of the rows 1 to 11 applies, and 12 and 13 decide
  pub record Passed (c : ℕ) : Type 0 where
    pub sized : ¬ (SizeRefused a.w a.h)
    pub fitting : ¬ (¬ (Fits a.w a.h a.words a.plan))
    pub start_open : ¬ (Shut a.w a.h a.words a.sx a.sy)
    pub goal_open : ¬ (Shut a.w a.h a.words a.gx a.gy)
    pub room : work_size a ≤ length a.work
    pub late : FirstOf late_rows c

  -- Where a query is answered, none of the rows 1 to 11 applies.
  pub passed : (c : ℕ) → FirstOf (query_rows a) c → (c ≡ 0) ⊎ (11 < c) → Passed c
  passed c p k =
      let (n1, p2) = past (other 1 (omega arith) (omega arith)) p in
      let (n2, p3) = past (other 2 (omega arith) (omega arith)) p2 in
      let (n3, p8) = past (other 3 (omega arith) (omega arith)) p3 in
      let (n8, p9) = past (other 8 (omega arith) (omega arith)) p8 in
      let (n9, p10) = past (other 9 (omega arith) (omega arith)) p9 in
      let (n10, p11) = past (other 10 (omega arith) (omega arith)) p10 in
      let (n11, p12) = past (other 11 (omega arith) (omega arith)) p11 in
      record { sized = n1; fitting = n8; start_open = n9; goal_open = n10; room = omega (arith, n11); late = p12 }
    where
      other : (n : ℕ) → 0 < n → n < 12 → ¬ (c ≡ n)
      other n l m e = ⊎_elim (λ z. omega arith) (λ z. omega arith) k

  -- So start and goal make a trip.
  pub trip_passed : {c : ℕ} → Passed c → Startable a.w a.h a.words (cell_of_start a) (cell_of_goal a)
  trip_passed p =
      let s = open_cell a.w a.h a.words a.sx a.sy p.start_open in
      let g = open_cell a.w a.h a.words a.gx a.gy p.goal_open in
      record {
        few_cells = (fits a.w a.h p.sized).few_cells;
        start_inside = s.inside;
        goal_inside = g.inside;
        start_free = s.free;
      }

  -- the number of an answer is 0 or above 11
  pub answered_late : (r : Answer) → Answered a r → (r.code ≡ 0) ⊎ (11 < r.code)
  answered_late r k = ⊎_elim inl (⊎_elim (λ z. inr (omega arith)) (λ z. inr (omega arith))) k

  -- Where a query is done, the route has room.
  pub done_room : {c : ℕ} → Passed c → c ≡ 0 → (l : Len) → Distance a l → cells_of l ≤ length a.route
  done_room {c} p z l d = by (past (λ e. omega arith) p.late).1
    where
      by :
          (((l : Len) × Distance a l × (length a.route < cells_of l)) × (c ≡ 13))
          ⊎ ((¬ ((l : Len) × Distance a l × (length a.route < cells_of l))) × (c ≡ 0)) →
          cells_of l ≤ length a.route
      by (inl q) = let e = q.1 in absurd (omega arith)
      by (inr q) = ⊎_elim (λ k. k) (λ k. absurd (q.0 (l, d, k))) (le_or_lt (cells_of l) (length a.route))
