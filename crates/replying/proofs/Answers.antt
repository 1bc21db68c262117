-- A route of code 0 is in the list that was lent for it. Assumes nothing.
use Prim.Native.Nat.{ℕ, ◌<◌, ◌≤◌}
use mathlib.Core.List.{List, [], ◌∷◌, ◌++◌}
use mathlib.Core.Logic.{inl, inr}
use mathlib.Core.Path.{◌≡◌}
use native.Mathlib.Decide.{dec_lt}
use native.Mathlib.Omega.{arith}
use lib.ListN.{length}
use Rattle.floor.specs.Refusals.{Refusal, refuse, FirstOf, Numbered}
use Rattle.floor.specs.Words.{floor_rows, board, place_of}
use Rattle.ground.specs.Kind.{walkers}
use Rattle.ground.specs.Walk.{NoWalk}
use Rattle.telling.specs.declared.Answer.{Answer}
use Rattle.plan.specs.Plan.{Fits}
use Rattle.answering.specs.Asked.{Asked, cell_of_start, cell_of_goal, work_size}
use Rattle.query.specs.Query.{Shut, QueryOutcome}

-- where a table gives 0, its last row does not apply
last_passes : (rs : List Refusal) (r : Refusal) (c : ℕ) → Numbered rs → 0 < r.number → c ≡ 0 → FirstOf (rs ++ (r ∷ [])) c → ¬ r.applies
last_passes [] r c n l z (inl p) = absurd (omega (arith, p.1))
last_passes [] r c n l z (inr p) = p.0
last_passes (q ∷ rs) r c n l z (inl p) = absurd (omega (arith, n.0, p.1))
last_passes (q ∷ rs) r c n l z (inr p) = last_passes rs r c n.1 l z p.1

module _ (a : Asked) where
  -- the rows before the last
  abbrev rows : List Refusal
  rows =
      floor_rows a.w a.h a.words
      ++ (refuse 8 (¬ (Fits a.w a.h a.words a.plan))
      ∷ refuse 9 (Shut a.w a.h a.words a.sx a.sy)
      ∷ refuse 10 (Shut a.w a.h a.words a.gx a.gy)
      ∷ refuse 11 (length a.work < work_size a)
      ∷ refuse 12 (NoWalk walkers (board a.w a.h a.words) (place_of a.w (cell_of_start a)) (place_of a.w (cell_of_goal a)))
      ∷ [])

  -- none of them has the number 0
  numbered : Numbered rows
  numbered = (omega arith, (omega arith, (omega arith, (omega arith, (omega arith, (omega arith, (omega arith, (omega arith, tt))))))))

  -- after 0 the route fits the list that was lent
  pub route_holds : (r : Answer) (route work : List ℕ) → QueryOutcome a r route work → r.code ≡ 0 → r.cells ≤ length a.route
  route_holds r route work o z = by (dec_lt (length a.route) r.cells)
    where
      by : Dec (length a.route < r.cells) → r.cells ≤ length a.route
      by (yes l) =
          let f = o.found (inl z) in
          absurd (last_passes rows _ r.code numbered (omega arith) z o.number (f.far, f.shortest, omega (arith, f.cells)))
      by (no n) = omega (arith, n)
