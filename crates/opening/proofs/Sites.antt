-- What a survey leaves in the lists is the plan that is walked on, and its line and every refusal are short. Assumes nothing.
use Prim.Native.Nat.{ℕ, ◌+◌, ◌*◌, ◌^◌, ◌<◌, ◌≤◌}
use mathlib.Core.List.{List, [], ◌∷◌, ◌++◌}
use mathlib.Core.Logic.{inl, inr}
use mathlib.Core.Path.{◌≡◌, refl, sym, ap, ap₂, subst, ◌∙◌}
use native.Mathlib.Omega.{arith}
use Rattle.std.specs.Prelude.{Result, Ok, Err}
use lib.ListN.{length, take, drop, length-append, length-drop}
use lib.Seq.{take_at, length-take-le}
use Rattle.floor.specs.Refusals.{Refusal, FirstOf, Numbered}
use Rattle.floor.specs.Words.{row_words, free_cells, floor_rows, Floor}
use Rattle.floor.proofs.Accepted.{accepted}
use Rattle.corners.specs.Lists.{written}
use Rattle.plan.specs.Plan.{Lists, PlanOf}
use Rattle.survey.specs.Survey.{lent_rows, last_row, Done, SurveyOutcome}
use Rattle.survey.specs.declared.Surveyed.{Surveyed}
use Rattle.writing.specs.Answers.{Put, floor_line, survey_refused, input_refused}
use Rattle.writing.proofs.Puts.{digits_64, floor_length, survey_length, input_length}
use Rattle.opening.specs.Openings.{MapAt, Largest, bad_floor, cut_plan, SiteOpen, OpenedTo, FloorPut, FloorOpened}
use Rattle.opening.specs.declared.Refused.{Refused}
use Rattle.opening.specs.declared.Site.{Site}

-- ---- how many bytes
-- the line of a refused survey
pub survey_short : (code : ℕ) → code < 2 ^ 64 → length (survey_refused code) ≤ 36
survey_short code l = rw (survey_length code) (omega (arith, digits_64 code l))

-- the line of refused input
pub input_short : (line : ℕ) → line < 2 ^ 64 → length (input_refused line) ≤ 43
input_short line l = rw (input_length line) (omega (arith, digits_64 line l))

-- the floor's line
pub floor_short : (w h free k m : ℕ) → w < 2 ^ 64 → h < 2 ^ 64 → free < 2 ^ 64 → k < 2 ^ 64 → m < 2 ^ 64 → length (floor_line w h free k m) ≤ 129
floor_short w h free k m a b c d e =
    rw (floor_length w h free k m) (omega (arith, digits_64 w a, digits_64 h b, digits_64 free c, digits_64 k d, digits_64 m e))

-- ---- the plan in the lists
-- where a table gives 0, its first rows do
first_zero : (rs ss : List Refusal) (c : ℕ) → Numbered rs → c ≡ 0 → FirstOf (rs ++ ss) c → FirstOf rs 0
first_zero [] ss c n z f = refl
first_zero (r ∷ rs) ss c n z (inl p) = absurd (omega (arith, n.0, p.1))
first_zero (r ∷ rs) ss c n z (inr p) = inr (p.0, first_zero rs ss c n.1 z p.1)

-- a list that was written into another has room there
fits_in : (xs lent left : List ℕ) (n : ℕ) → left ≡ written xs lent → length left ≡ n → length lent ≡ n → length xs ≤ n
fits_in xs lent left n e a b = omega (arith, simp length-append at (ap length e), length-drop (length xs) lent)

-- and is its first entries
first_are : (xs lent left : List ℕ) (n : ℕ) → left ≡ written xs lent → length xs ≡ n → take n left ≡ xs
first_are xs lent left n e l = ap (take n) e ∙ take_at xs (drop (length xs) lent) n l

-- what is left of a survey that gave 0
pub record Planned (w h : ℕ) (words : List ℕ) (r : Surveyed) (left : Lists) : Type 0 where
  pub floor : Floor w h words
  pub own : PlanOf w h words (cut_plan w h r.corners r.arcs left)
  pub corners : r.corners ≤ 2048
  pub arcs : r.arcs ≤ 32768
  pub free : r.free ≡ free_cells w h words

-- a survey with the code 0 leaves a plan
pub planned : (w h : ℕ) (words : List ℕ) (lent left : Lists) (r : Surveyed)
    → SurveyOutcome w h words lent r left → r.code ≡ 0 → Largest lent → Largest left → Planned w h words r left
planned w h words lent left r o z a b = made (o.done z)
  where
    made : Done w h words lent r left → Planned w h words r left
    made d =
        record {
          floor = accepted w h words (first_zero (floor_rows w h words) (lent_rows w h words (length lent.clear) (length lent.corners) (length lent.starts) ++ last_row w h words (length lent.neighbours)) r.code (omega arith, (omega arith, (omega arith, tt))) z o.number);
          own = subst (PlanOf w h words) (sym same) d.is_plan;
          corners = omega (arith, d.corners_told, fits_in p.corners lent.corners left.corners 2048 d.corners b.corners a.corners);
          arcs = omega (arith, d.arc_count, fits_in p.neighbours lent.neighbours left.neighbours 32768 d.neighbours b.neighbours a.neighbours);
          free = d.free_count;
        }
      where
        p : Lists
        p = d.plan

        clear : take (4 * (w * h)) left.clear ≡ d.plan.clear
        clear = first_are d.plan.clear lent.clear left.clear (4 * (w * h)) d.clear d.is_plan.marks.four_each

        corners : take r.corners left.corners ≡ d.plan.corners
        corners = first_are d.plan.corners lent.corners left.corners r.corners d.corners (sym d.corners_told)

        starts : take (r.corners + 1) left.starts ≡ d.plan.starts
        starts = first_are d.plan.starts lent.starts left.starts (r.corners + 1) d.starts (omega (arith, d.is_plan.links.one_more, d.corners_told))

        neighbours : take r.arcs left.neighbours ≡ d.plan.neighbours
        neighbours = first_are d.plan.neighbours lent.neighbours left.neighbours r.arcs d.neighbours (sym d.arc_count)

        same : cut_plan w h r.corners r.arcs left ≡ d.plan
        same = λ i. record { clear = clear i; corners = corners i; starts = starts i; neighbours = neighbours i }

-- ---- a surveyed map
-- a site with its sizes and its place in the text by other names
same_site : (s : Site) (w h next : ℕ) → s.w ≡ w → s.h ≡ h → s.next ≡ next
    → s ≡ record { w = w; h = h; corners = s.corners; arcs = s.arcs; next = next; used = s.used }
same_site s w h next a b c = λ i. record { w = a i; h = b i; corners = s.corners; arcs = s.arcs; next = c i; used = s.used }

module _ (text words : List ℕ) (w h next : ℕ) (lent left : Lists) (before after : List ℕ)
    (m : MapAt text w h next (take (h * row_words w) words)) (a : Largest lent) (b : Largest left) where
  -- a floor was opened
  site_open : (s : Site) → FloorPut w h next (take (h * row_words w) words) left before after s → SiteOpen text words left before after s
  site_open s p =
      let k = length-take-le s.corners left.corners (omega (arith, p.corners, b.corners)) in
      let n = length-take-le s.arcs left.neighbours (omega (arith, p.arcs, b.neighbours)) in
      subst (SiteOpen text words left before after) (sym (same_site s w h next p.width p.height p.goes_on))
      (record {
        floor =
            record {
              map = m;
              walkable =
                  record {
                    floor = p.floor;
                    fits = record { own = p.own; few_corners = omega (arith, k, p.corners); few_arcs = omega (arith, n, p.arcs) };
                  };
            };
        put =
            subst (Put before after 0 s.used)
            (ap₂ (floor_line w h (free_cells w h (take (h * row_words w) words))) (sym k) (sym n))
            p.put;
        corners = p.corners;
        arcs = p.arcs;
        short = p.short;
      })

  -- a survey of the map's words, n of them to a row
  pub opened : (n : ℕ) → n ≡ row_words w → (r : Result Site Refused) → FloorOpened w h next (take (h * n) words) lent left before after r → OpenedTo text words left before after r
  opened n e r p = by r (subst (λ k. FloorOpened w h next (take (h * k) words) lent left before after r) e p)
    where
      by : (r : Result Site Refused) → FloorOpened w h next (take (h * row_words w) words) lent left before after r → OpenedTo text words left before after r
      by (Ok s) p = site_open s p
      by (Err r) p =
          record {
            bytes = survey_refused p.answer.code;
            turned =
                bad_floor p.answer.code
                (record {
                  w = w;
                  h = h;
                  next = next;
                  words = take (h * row_words w) words;
                  map = m;
                  lent = lent;
                  left = left;
                  largest = a;
                  answer = p.answer;
                  outcome = p.outcome;
                  number = refl;
                  refused = p.refused;
                });
            put = p.put;
            short = p.short;
          }
