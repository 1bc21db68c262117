-- The survey's promise allows one outcome of one floor and four lent lists: every returned number and every lent entry. Assumes nothing.
use Prim.Native.Nat.{ℕ, ◌+◌, ◌*◌, ◌/◌, ◌%◌, ◌≤◌, ◌<◌}
use mathlib.Core.List.{List}
use mathlib.Core.Path.{◌≡◌, sym, ◌∙◌, ap, subst}
use native.Mathlib.Decide.{ℕ_discrete}
use native.Mathlib.Omega.{arith}
use lib.ListN.{length, get_or}
use lib.Seq.{ext_get_or}
use Rattle.floor.specs.Board.{dir_at}
use Rattle.floor.specs.Words.{board, place_of}
use Rattle.floor.proofs.Tables.{first_unique}
use Rattle.ground.specs.Kind.{walkers}
use Rattle.corners.specs.Lists.{written}
use Rattle.marks.specs.Marks.{Cleared}
use Rattle.plan.specs.Plan.{Links, Lists, PlanOf}
use Rattle.survey.specs.Survey.{survey_rows, Done, Refused, SurveyOutcome}
use Rattle.survey.specs.declared.Surveyed.{Surveyed}
use Rattle.marks.proofs.Recurrence.{one_clearance}
use Rattle.survey.proofs.Surveys.{first_few, one_links}

-- four lists are the same where each is
same_lists : (p q : Lists) → p.clear ≡ q.clear → p.corners ≡ q.corners → p.starts ≡ q.starts → p.neighbours ≡ q.neighbours → p ≡ q
same_lists p q a b c d = λ i. record { clear = a i; corners = b i; starts = c i; neighbours = d i }

-- answers are the same where each number is
same_answer : (r s : Surveyed) → r.code ≡ s.code → r.free ≡ s.free → r.corners ≡ s.corners → r.arcs ≡ s.arcs → r ≡ s
same_answer r s a b c d = λ i. record { code = a i; free = b i; corners = c i; arcs = d i }

-- a floor has one list of clearances
pub one_clear : (w h : ℕ) (words xs ys : List ℕ) → length xs ≡ 4 * (w * h) → length ys ≡ 4 * (w * h) → Cleared w h words xs → Cleared w h words ys → xs ≡ ys
one_clear w h words xs ys l m a b = ext_get_or 0 xs ys (l ∙ sym m) at_each
  where
    at_each : (i : ℕ) → i < length xs → get_or xs i 0 ≡ get_or ys i 0
    at_each i k =
        let e : 4 * (i / 4) + i % 4 ≡ i = omega arith in
        let c : i / 4 < w * h = omega arith in
        let d : i % 4 < 4 = omega arith in
        subst (λ (n : ℕ). get_or xs n 0 ≡ get_or ys n 0) e (one_clearance (board w h words) (dir_at (i % 4)) (place_of w (i / 4)) _ _ (a (i / 4) (i % 4) c d) (b (i / 4) (i % 4) c d))

-- a floor has one plan
pub one_plan : (w h : ℕ) (words : List ℕ) (p q : Lists) → PlanOf w h words p → PlanOf w h words q → p ≡ q
one_plan w h words p q a b =
    let corners : p.corners ≡ q.corners = a.marks.ascending ∙ sym b.marks.ascending in
    let links = one_links w h words q.corners (subst (λ (k : List ℕ). Links walkers w h words k p.starts p.neighbours) corners a.links) b.links in
    same_lists p q (one_clear w h words p.clear q.clear a.marks.four_each b.marks.four_each a.marks.cleared b.marks.cleared) corners links.0 links.1

module _ (w h : ℕ) (words : List ℕ) (lent : Lists) (r r' : Surveyed) (left left' : Lists) where
  -- two outcomes with a plan
  same_done : r.code ≡ r'.code → Done w h words lent r left → Done w h words lent r' left' → (r ≡ r') × (left ≡ left')
  same_done e a b =
      let p = one_plan w h words a.plan b.plan a.is_plan b.is_plan in (
        same_answer r r' e (a.free_count ∙ sym b.free_count) (a.corners_told ∙ ap (λ (l : Lists). length l.corners) p ∙ sym b.corners_told)
            (a.arc_count ∙ ap (λ (l : Lists). length l.neighbours) p ∙ sym b.arc_count),
        same_lists left left'
            (a.clear ∙ ap (λ (l : Lists). written l.clear lent.clear) p ∙ sym b.clear)
            (a.corners ∙ ap (λ (l : Lists). written l.corners lent.corners) p ∙ sym b.corners)
            (a.starts ∙ ap (λ (l : Lists). written l.starts lent.starts) p ∙ sym b.starts)
            (a.neighbours ∙ ap (λ (l : Lists). written l.neighbours lent.neighbours) p ∙ sym b.neighbours),
      )

  -- two refusals
  same_refused : r.code ≡ r'.code → Refused r → Refused r' → r ≡ r'
  same_refused e a b = same_answer r r' e (a.no_free ∙ sym b.no_free) (a.no_corners ∙ sym b.no_corners) (a.no_arcs ∙ sym b.no_arcs)

  -- Two outcomes of one entry are equal: the numbers and the lists.
  pub survey_only : SurveyOutcome w h words lent r left → SurveyOutcome w h words lent r' left' → (r ≡ r') × (left ≡ left')
  survey_only a b = by (ℕ_discrete r.code 0) (ℕ_discrete r.code 7)
    where
      same : r.code ≡ r'.code
      same = first_unique (survey_rows w h words lent) r.code r'.code a.number b.number

      few : r.code ≤ 7
      few =
          first_few 7 (survey_rows w h words lent) r.code
          (omega arith, (omega arith, (omega arith, (omega arith, (omega arith, (omega arith, (omega arith, tt))))))) a.number

      by : Dec (r.code ≡ 0) → Dec (r.code ≡ 7) → (r ≡ r') × (left ≡ left')
      by (yes e) d = same_done same (a.done e) (b.done (sym same ∙ e))
      by (no n) (yes e) =
          let s = same in
          (same_refused same (a.refused (omega arith)) (b.refused (omega arith)), a.seven_wipes e ∙ sym (b.seven_wipes (sym same ∙ e)))
      by (no n) (no m) =
          let s = same in
          let f = few in
          let l : 0 < r.code = omega (arith, n) in
          let k : r.code < 7 = omega (arith, m) in
          (same_refused same (a.refused l) (b.refused (omega arith)), a.kept l k ∙ sym (b.kept (omega arith) (omega arith)))
