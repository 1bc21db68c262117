-- The refusals 1 to 11 of a query, and the answer that gives a refusal's number.
use Rattle.std.specs.Prelude.{ℕ, ◌+◌, ◌*◌, ◌<◌, ◌≡◌, List, [], ◌∷◌, ◌++◌, length}
use Rattle.floor.specs.Refusals.{Refusal, refuse, FirstOf}
use Rattle.floor.specs.Words.{floor_rows}
use Rattle.plan.specs.Plan.{Lists, Fits}
use Rattle.answering.specs.Asked.{Asked}
use Rattle.telling.specs.declared.Answer.{Answer}
use Rattle.query.specs.Query.{Shut}

-- the rows 1, 2, 3 and 8
abbrev pub plan_rows : ℕ → ℕ → List ℕ → Lists → List Refusal
plan_rows w h words p = floor_rows w h words ++ (refuse 8 (¬ (Fits w h words p)) ∷ [])

-- the number that the rows 1, 2, 3 and 8 give; where it is 0 the plan is the floor's own
pub record Judged (w h : ℕ) (words : List ℕ) (p : Lists) (c : ℕ) : Type 0 where
  pub number : FirstOf (plan_rows w h words p) c
  pub own : c ≡ 0 → Fits w h words p

-- the rows 9, 10 and 11, where the plan has k turning points and `lent` work entries are lent
abbrev pub end_rows : ℕ → ℕ → List ℕ → ℕ → ℕ → ℕ → ℕ → ℕ → ℕ → List Refusal
end_rows w h words sx sy gx gy k lent =
    refuse 9 (Shut w h words sx sy) ∷ refuse 10 (Shut w h words gx gy) ∷ refuse 11 (lent < 6 * (k + 2)) ∷ []

module _ (a : Asked) where
  -- the rows 1 to 11
  abbrev pub early_rows : List Refusal
  early_rows =
      plan_rows a.w a.h a.words a.plan
      ++ end_rows a.w a.h a.words a.sx a.sy a.gx a.gy (length a.plan.corners) (length a.work)

-- a refusal: a number, and nothing else
pub record CodeOnly (c : ℕ) (r : Answer) : Type 0 where
  pub code : r.code ≡ c
  pub straight : r.straight ≡ 0
  pub diagonal : r.diagonal ≡ 0
  pub cells : r.cells ≡ 0
  pub effort : r.effort ≡ 0
