-- The search from a cleared work space, and what it answers. Assumes nothing.
use Prim.Native.Nat.{ℕ, zero, suc, ◌+◌, ◌*◌, ◌≤◌, ◌<◌}
use mathlib.Core.Bool.{true}
use mathlib.Core.List.{List, ◌++◌}
use mathlib.Core.Logic.{inl, inr}
use mathlib.Core.Path.{◌≡◌, refl, sym, ◌∙◌, ap, subst}
use native.Mathlib.Decide.{dec_le}
use native.Mathlib.Omega.{arith}
use borrow.Author.Tests.{lt-ltb, le-ltb}
use lib.ListN.{length, get_or, drop, replicate, length-replicate, get_or-eq_default}
use Rattle.corners.specs.Lists.{written}
use Rattle.plan.specs.Plan.{Lists}
use Rattle.effort.specs.Effort.{EffortFound, EffortLost}
use Rattle.places.specs.declared.Trip.{Trip}
use Rattle.places.specs.Columns.{column_of, Settled, Next, Only, Inside}
use Rattle.places.specs.Chart.{chart, Ready}
use Rattle.places.proofs.Columns.{entry_inside, column_length, column_at}
use Rattle.search.specs.Search.{labels_of, Bounded, Run}
use Rattle.chain.specs.Chain.{Journey, Walked}
use Rattle.chain.proofs.Fairness.{fair}
use Rattle.chain.proofs.Chains.{bounded}
use Rattle.chain.proofs.Efforts.{outcome_found, outcome_lost}
use Rattle.chain.proofs.Backwards.{run_walked}
use Rattle.ends.specs.Prepared.{Empty, Prepared, Searchable}
use Rattle.telling.specs.Told.{Retraced}
use Rattle.answering.specs.Answers.{SearchAnswer, Beyond}
use Rattle.telling.specs.declared.Answer.{Answer}
use Rattle.telling.proofs.Wiping.{zeroed_length, zeroed_rest}

-- ---- a cleared work space
-- the first entries are 0
zero_front : (n : ℕ) (ys : List ℕ) (i : ℕ) → i < n → get_or (replicate n 0 ++ ys) i 0 ≡ 0
zero_front zero ys i l = absurd (omega arith)
zero_front (suc n) ys zero l = refl
zero_front (suc n) ys (suc i) l = zero_front n ys i (omega arith)

-- so every column is empty
pub cleared_empty : (n : ℕ) (W W' : List ℕ) → 6 * n ≤ length W → W' ≡ written (replicate (6 * n) 0) W → (c : ℕ) → c < 6 → Empty n c W'
cleared_empty n W W' room e c l i = by (dec_le (suc i) n)
  where
    -- the work space is as long as it was
    long : length W' ≡ length W
    long = ap length e ∙ zeroed_length W (6 * n) room

    -- each entry of a column is among the first that were set to 0
    inside : i < n → c * n + i < 6 * n
    inside m =
        subst (λ (x : ℕ). c * n + i < x) (length-replicate (6 * n) 0)
        (entry_inside n (replicate (6 * n) 0) c i (record { column = l; place = m; room = let q = length-replicate (6 * n) (let z : ℕ = 0 in z) in omega arith }))

    by : Dec (suc i ≤ n) → get_or (column_of n W' c) i 0 ≡ 0
    by (yes m) = column_at n W' c i (omega arith) ∙ ap (λ (ys : List ℕ). get_or ys (c * n + i) 0) e ∙ zero_front (6 * n) _ (c * n + i) (inside (omega arith))
    by (no m) = get_or-eq_default (column_of n W' c) 0 {n = i} (let q = column_length n W' c l (omega (arith, long)) in omega (arith, m))

module _ {w h : ℕ} {words : List ℕ} {p : Lists} {start goal : ℕ} {W : List ℕ} (able : Searchable w h words p start goal W) where
  -- and the search can be made as before
  pub still_searchable : (W' : List ℕ) → length W' ≡ length W → Searchable w h words p start goal W'
  still_searchable W' e =
      record {
        floor = able.floor;
        fits = able.fits;
        start_inside = able.start_inside;
        goal_inside = able.goal_inside;
        start_free = able.start_free;
        goal_free = able.goal_free;
        differ = able.differ;
        barred = able.barred;
        room = let r = able.room in omega arith;
      }

  module _ {t : Trip} {W₁ W₂ : List ℕ} (long : length W₁ ≡ length W) (ready : Prepared w h words p start goal t W₁ W₂) where
    -- ---- a prepared work space
    -- the search has the fair chart and the room that it needs
    pub search_ready : Ready p.corners p.starts p.neighbours t W₂
    search_ready =
        record {
          fair = fair ready.charted;
          room = let r = able.room in let s = ready.sized in let c = ready.count in omega arith;
        }

    -- no shortest chain is so long that its label would not fit
    pub search_bounded : Bounded (chart p.corners p.starts p.neighbours t W₂)
    search_bounded = bounded ready.charted

    -- what the trip is over: the floor, its plan, and start and goal by cell number
    abbrev journey : Journey
    journey = record { w = w; h = h; words = words; plan = p; start = start; goal = goal }

    module _ {r : ℕ} {W₃ : List ℕ} (run : Run p.corners p.starts p.neighbours t W₂ (t.k + 2) r W₃) where
      -- ---- the search was made
      -- the goal's entry can be read
      pub goal_read : Inside (t.k + 2) W₃ Settled t.to
      goal_read =
          record {
            column = omega arith;
            place = search_ready.fair.to;
            room = let l = run.left.sized in let m = search_ready.room in omega arith;
          }

      -- few places were settled
      pub few_settled : r < 65536
      few_settled = let l = run.outcome.within in let f = search_ready.fair.few in omega arith

      module _ (found : 0 < get_or (column_of (t.k + 2) W₃ Settled) t.to 0) where
        -- the goal has its flag, so it is settled
        settled : (labels_of (t.k + 2) W₃).settled t.to ≡ true
        settled = lt-ltb 0 _ found

        -- the goal was settled, and the walk to it is known
        pub goal_walked : Walked journey p.corners p.starts p.neighbours t W₃
        goal_walked = run_walked journey search_ready ready.charted run settled

        -- so the answer is the walk back
        pub answer_found : {a : Answer} {route₀ route₁ : List ℕ} → Retraced journey r a route₀ route₁ → SearchAnswer w h words p start goal a route₀ route₁
        answer_found {a} k =
            inl (record {
              far = k.far;
              shortest = k.shortest;
              measured = k.measured;
              billed = subst (λ (e : ℕ). EffortFound w h words start goal e) (sym k.billed) (outcome_found ready.charted run.outcome settled).0;
              cells = k.cells;
              is_route = k.is_route;
              left = k.left;
            })

      -- the goal was not settled, and there is no walk
      pub lost_effort : get_or (column_of (t.k + 2) W₃ Settled) t.to 0 ≤ 0 → EffortLost w h words start goal r
      lost_effort z = outcome_lost ready.charted run.outcome (le-ltb 0 _ z) (inr (omega arith))

      -- what lies beyond the work space is as it was before it was cleared
      module _ (cleared : W₁ ≡ written (replicate (6 * (length p.corners + 2)) 0) W) where
        -- after the search, nothing beyond the trip's entries has changed
        pub lost_beyond : Beyond (6 * (length p.corners + 2)) W W₃
        lost_beyond =
            record {
              sized = run.left.sized ∙ ready.sized ∙ long;
              rest =
                  subst (λ (k : ℕ). drop (6 * (k + 2)) W₃ ≡ drop (6 * (k + 2)) W₁) ready.count (run.left.rest ∙ ready.rest)
                  ∙ ap (drop (6 * (length p.corners + 2))) cleared ∙ zeroed_rest W (6 * (length p.corners + 2));
            }

        -- also after the walk back
        pub found_beyond : {W₄ : List ℕ} → Only (t.k + 2) W₃ Next W₄ → Beyond (6 * (length p.corners + 2)) W W₄
        found_beyond {W₄} only =
            record {
              sized = only.sized ∙ lost_beyond.sized;
              rest = subst (λ (k : ℕ). drop (6 * (k + 2)) W₄ ≡ drop (6 * (k + 2)) W₃) ready.count only.rest ∙ lost_beyond.rest;
            }
