-- A question that none of the refusals 1 to 11 stops, answered by the direct line or by the search. Assumes nothing.
use Prim.Native.Nat.{ℕ, ◌≤◌}
use mathlib.Core.List.{List, ◌++◌}
use mathlib.Core.Logic.{⊎_elim}
use mathlib.Core.Path.{◌≡◌, sym, ◌∙◌, ap, subst}
use native.Mathlib.Omega.{arith}
use lib.ListN.{drop, replicate, length-replicate}
use Rattle.floor.specs.Board.{Place, at, Free}
use Rattle.floor.specs.Words.{board, place_of}
use Rattle.ground.specs.Kind.{walkers}
use Rattle.ground.specs.Walk.{Legal}
use Rattle.ground.specs.Line.{line}
use Rattle.ground.proofs.Numbers.{place_of_number, number_in}
use Rattle.corners.specs.Lists.{written}
use Rattle.line.specs.Cells.{Cell}
use Rattle.line.proofs.Runs.{cell_in}
use Rattle.chain.specs.Route.{LineClear}
use Rattle.ends.specs.Prepared.{Searchable}
use Rattle.answering.specs.Asked.{Asked, cell_of_start, cell_of_goal, work_size}
use Rattle.answering.specs.Steps.{Unrefused, LateOutcome}
use Rattle.telling.specs.Told.{LineAnswer}
use Rattle.answering.specs.Answers.{SearchAnswer, Beyond}
use Rattle.telling.specs.declared.Answer.{Answer}
use Rattle.answering.proofs.Late.{late_line, late_lost, late_search}
use Rattle.answering.proofs.Still.{start_is_goal}

-- ---- the work space
-- what is the same beyond the first entries is the same once these are 0
pub cleared_again : (n : ℕ) (W W' : List ℕ) → Beyond n W W' → written (replicate n 0) W' ≡ written (replicate n 0) W
cleared_again n W W' b =
    ap (λ (m : ℕ). replicate n 0 ++ drop m W') (length-replicate n 0)
    ∙ ap (λ (ys : List ℕ). replicate n 0 ++ ys) b.rest
    ∙ sym (ap (λ (m : ℕ). replicate n 0 ++ drop m W) (length-replicate n 0))

-- ---- a question that is ready
module _ (a : Asked) (q : Unrefused a) where
  -- the start's cell stands at the start's column and row
  start_place : place_of a.w (cell_of_start a) ≡ at a.sx a.sy
  start_place = place_of_number a.w a.sx a.sy q.start_column

  -- the goal's cell stands at the goal's column and row
  goal_place : place_of a.w (cell_of_goal a) ≡ at a.gx a.gy
  goal_place = place_of_number a.w a.gx a.gy q.goal_column

  -- the start's column is inside, and the rows up to its own have at most 16,384 cells
  pub start_cell : Cell a.w a.sx a.sy
  start_cell = cell_in a.w a.h a.sx a.sy q.floor.few_cells q.start_column q.start_row

  -- the goal's column is inside, and the rows up to its own have at most 16,384 cells
  pub goal_cell : Cell a.w a.gx a.gy
  goal_cell = cell_in a.w a.h a.gx a.gy q.floor.few_cells q.goal_column q.goal_row

  -- no column or row of start or goal is above 255
  pub small_ends : (a.sx ≤ 255) × (a.sy ≤ 255) × (a.gx ≤ 255) × (a.gy ≤ 255)
  small_ends =
      let x = q.floor.sized.wide in
      let y = q.floor.sized.high in
      let i = q.start_column in
      let j = q.start_row in
      let k = q.goal_column in
      let l = q.goal_row in
      (omega arith, omega arith, omega arith, omega arith)

  -- the direct line between two places is legal
  abbrev Clear : Place → Place → Type 0
  Clear s t = Legal walkers (board a.w a.h a.words) s (line s t)

  -- a direct line that is legal from the start's column and row to the goal's is legal between their cells
  line_clear : Clear (at a.sx a.sy) (at a.gx a.gy) → LineClear a.w a.h a.words (cell_of_start a) (cell_of_goal a)
  line_clear l =
      subst (λ (s : Place). Clear s (place_of a.w (cell_of_goal a))) (sym start_place)
      (subst (λ (t : Place). Clear (at a.sx a.sy) t) (sym goal_place) l)

  -- and one that is not is not legal between their cells either
  line_barred : ¬ (Clear (at a.sx a.sy) (at a.gx a.gy)) → ¬ (LineClear a.w a.h a.words (cell_of_start a) (cell_of_goal a))
  line_barred n l =
      n (subst (λ (t : Place). Clear (at a.sx a.sy) t) goal_place (subst (λ (s : Place). Clear s (place_of a.w (cell_of_goal a))) start_place l))

  -- by the direct line
  pub by_line : (r : Answer) (route₁ work₁ : List ℕ) → Clear (at a.sx a.sy) (at a.gx a.gy) →
      LineAnswer a.w (cell_of_start a) (at a.sx a.sy) (at a.gx a.gy) r a.route route₁ →
      work₁ ≡ written (replicate (work_size a) 0) a.work → LateOutcome a r route₁ work₁
  by_line r route₁ work₁ clear l cleared =
      late_line a r route₁ work₁ (line_clear clear)
      (subst (λ (s : Place). LineAnswer a.w (cell_of_start a) s (place_of a.w (cell_of_goal a)) r a.route route₁) (sym start_place)
      (subst (λ (t : Place). LineAnswer a.w (cell_of_start a) (at a.sx a.sy) t r a.route route₁) (sym goal_place) l))
      cleared

  -- by the search
  module _ (n : ¬ (Clear (at a.sx a.sy) (at a.gx a.gy))) where
    -- the start's cell is free
    start_open : Free (board a.w a.h a.words) (place_of a.w (cell_of_start a))
    start_open = subst (Free (board a.w a.h a.words)) (sym start_place) q.start_free

    -- the question has all that a search takes
    pub searchable : Searchable a.w a.h a.words a.plan (cell_of_start a) (cell_of_goal a) a.work
    searchable =
        record {
          floor = q.floor;
          fits = q.fits;
          start_inside = number_in a.w a.h a.sx a.sy q.start_column q.start_row;
          goal_inside = number_in a.w a.h a.gx a.gy q.goal_column q.goal_row;
          start_free = start_open;
          goal_free = subst (Free (board a.w a.h a.words)) (sym goal_place) q.goal_free;
          differ =
              λ e.
              line_barred n
              (subst (LineClear a.w a.h a.words (cell_of_start a)) e (start_is_goal a.w a.h a.words (cell_of_start a) start_open));
          barred = line_barred n;
          room = q.room;
        }

    -- what the search answers, once the work space is cleared again, is what the query comes to
    pub by_search : (r : Answer) (route₁ work₁ work₂ : List ℕ) →
        SearchAnswer a.w a.h a.words a.plan (cell_of_start a) (cell_of_goal a) r a.route route₁ → Beyond (work_size a) a.work work₁ →
        work₂ ≡ written (replicate (work_size a) 0) work₁ → LateOutcome a r route₁ work₂
    by_search r route₁ work₁ work₂ s b e =
        let cleared = e ∙ cleared_again (work_size a) a.work work₁ b in
        ⊎_elim (λ f. late_search a r route₁ work₂ (line_barred n) f cleared) (λ l. late_lost a r route₁ work₂ l cleared) s
