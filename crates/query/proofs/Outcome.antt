-- A query has one outcome at most.
-- Assumes nothing.
use Prim.Native.Nat.{ℕ, ◌<◌, ◌≤◌, max}
use mathlib.Core.Path.{◌≡◌, sym, ◌∙◌, ap, subst}
use mathlib.Core.List.{List, [], ◌∷◌}
use mathlib.Core.Logic.{◌⊎◌, inl, inr, ⊎_elim}
use native.Mathlib.Decide.{ℕ_discrete}
use native.Mathlib.Omega.{arith}
use Rattle.lengths.specs.Lengths.{Len}
use Rattle.lengths.specs.Laws.{le_or_lt}
use Rattle.floor.specs.Refusals.{Refusal, FirstOf}
use Rattle.floor.proofs.Tables.{first_unique}
use Rattle.ground.proofs.Walks.{shortest_unique}
use Rattle.corners.specs.Lists.{written}
use Rattle.plan.specs.Rising.{In}
use Rattle.effort.proofs.Bounds.{found_unique, lost_unique}
use Rattle.chain.specs.Route.{cells_of}
use Rattle.chain.proofs.Single.{route_unique}
use Rattle.answering.specs.Asked.{Asked, cell_of_start, cell_of_goal, Billed, WalkFound, NoRoute, RouteWritten}
use Rattle.telling.specs.declared.Answer.{Answer}
use Rattle.query.specs.Query.{query_rows, QueryOutcome}

-- the numbers of a table's rows
abbrev pub numbers : List Refusal → List ℕ
numbers [] = []
numbers (r ∷ rs) = r.number ∷ numbers rs

-- a table gives 0 or the number of a row
pub first_in : (rs : List Refusal) (c : ℕ) → FirstOf rs c → In c (0 ∷ numbers rs)
first_in [] c p = inl p
first_in (r ∷ rs) c (inl p) = inr (inl p.1)
first_in (r ∷ rs) c (inr p) = ⊎_elim inl (λ i. inr (inr i)) (first_in rs c p.1)

-- A query gives one of these numbers.
pub codes : (a : Asked) (c : ℕ) → FirstOf (query_rows a) c → In c (0 ∷ 1 ∷ 2 ∷ 3 ∷ 8 ∷ 9 ∷ 10 ∷ 11 ∷ 12 ∷ 13 ∷ [])
codes a c p = first_in (query_rows a) c p

-- the largest of some numbers
abbrev largest : List ℕ → ℕ
largest [] = 0
largest (x ∷ xs) = max x (largest xs)

-- none of them is above it
in_largest : (c : ℕ) (xs : List ℕ) → In c xs → c ≤ largest xs
in_largest c [] i = absurd i
in_largest c (x ∷ xs) (inl e) = omega arith
in_largest c (x ∷ xs) (inr i) = omega (arith, in_largest c xs i)

-- the four kinds of number: done, refused, no walk and no room
pub code_kind :
    (c : ℕ) → In c (0 ∷ 1 ∷ 2 ∷ 3 ∷ 8 ∷ 9 ∷ 10 ∷ 11 ∷ 12 ∷ 13 ∷ []) → (c ≡ 0) ⊎ (((0 < c) × (c < 12)) ⊎ ((c ≡ 12) ⊎ (c ≡ 13)))
code_kind c i = by (ℕ_discrete c 0) (le_or_lt 12 c) (ℕ_discrete c 12)
  where
    most : c ≤ 13
    most = in_largest c (0 ∷ 1 ∷ 2 ∷ 3 ∷ 8 ∷ 9 ∷ 10 ∷ 11 ∷ 12 ∷ 13 ∷ []) i

    by : Dec (c ≡ 0) → (12 ≤ c) ⊎ (c < 12) → Dec (c ≡ 12) → (c ≡ 0) ⊎ (((0 < c) × (c < 12)) ⊎ ((c ≡ 12) ⊎ (c ≡ 13)))
    by (yes z) l t = inl z
    by (no z) (inr l) t = inr (inl (omega (arith, z), l))
    by (no z) (inl l) (yes t) = inr (inr (inl t))
    by (no z) (inl l) (no t) = inr (inr (inr (omega (arith, most, t))))

-- answers are equal by their five numbers
pub answer_eq :
    {r s : Answer} → r.code ≡ s.code → r.straight ≡ s.straight → r.diagonal ≡ s.diagonal → r.cells ≡ s.cells → r.effort ≡ s.effort →
    r ≡ s
answer_eq p q t u v = λ i. record { code = p i; straight = q i; diagonal = t i; cells = u i; effort = v i }

module _ (a : Asked) where
  -- There is one effort billed.
  pub billed_unique : {d e : ℕ} → Billed a d → Billed a e → d ≡ e
  billed_unique (inl p) (inl q) = p.1 ∙ sym q.1
  billed_unique (inl p) (inr q) = absurd (q.0 p.0)
  billed_unique (inr p) (inl q) = absurd (p.0 q.0)
  billed_unique (inr p) (inr q) = found_unique a.w a.h a.words (cell_of_start a) (cell_of_goal a) p.1 q.1

  -- Where there is a walk there is one answer with a number.
  pub found_same : {r s : Answer} → r.code ≡ s.code → WalkFound a r → WalkFound a s → r ≡ s
  found_same c p q =
      let e : p.far ≡ q.far = shortest_unique p.shortest q.shortest in
      answer_eq c
      (p.straight ∙ ap (λ (l : Len). l.straight) e ∙ sym q.straight)
      (p.diagonal ∙ ap (λ (l : Len). l.diagonal) e ∙ sym q.diagonal)
      (p.cells ∙ ap cells_of e ∙ sym q.cells)
      (billed_unique p.billed q.billed)

  -- Where there is no route there is one answer with a number and an effort.
  pub no_route_same : {r s : Answer} → r.code ≡ s.code → NoRoute a r → NoRoute a s → r.effort ≡ s.effort → r ≡ s
  no_route_same c p q e =
      answer_eq c (p.straight ∙ sym q.straight) (p.diagonal ∙ sym q.diagonal) (p.cells ∙ sym q.cells) e

  -- There is one route list after a route was written.
  pub written_unique : {route route' : List ℕ} → RouteWritten a route → RouteWritten a route' → route ≡ route'
  written_unique p q =
      p.there
      ∙ ap (λ (cs : List ℕ). written cs a.route)
      (route_unique a.w a.h a.words (cell_of_start a) (cell_of_goal a) p.is_route q.is_route)
      ∙ sym q.there

  -- No second outcome satisfies the promise.
  pub query_only :
      {r r' : Answer} {route route' work work' : List ℕ} → QueryOutcome a r route work → QueryOutcome a r' route' work' →
      (r ≡ r') × (route ≡ route') × (work ≡ work')
  query_only {r} {r'} {route} {route'} {work} {work'} p q = by (code_kind r.code (codes a r.code p.number))
    where
      same : r.code ≡ r'.code
      same = first_unique (query_rows a) r.code r'.code p.number q.number

      kept : 0 < r.code → route ≡ route'
      kept l = p.route_kept l ∙ sym (q.route_kept (subst (λ (c : ℕ). 0 < c) same l))

      by :
          (r.code ≡ 0) ⊎ (((0 < r.code) × (r.code < 12)) ⊎ ((r.code ≡ 12) ⊎ (r.code ≡ 13))) →
          (r ≡ r') × (route ≡ route') × (work ≡ work')
      by (inl z) =
          let z' : r'.code ≡ 0 = sym same ∙ z in (
            found_same same (p.found (inl z)) (q.found (inl z')),
            written_unique (p.route_written z) (q.route_written z'),
            p.work_cleared (inl z) ∙ sym (q.work_cleared (inl z')),
          )
      by (inr (inl (l, m))) =
          let l' = subst (λ (c : ℕ). 0 < c) same l in
          let m' = subst (λ (c : ℕ). c < 12) same m in
          let (f, e) = p.refused l m in
          let (g, k) = q.refused l' m' in
          (no_route_same same f g (e ∙ sym k), kept l, p.work_kept l m ∙ sym (q.work_kept l' m'))
      by (inr (inr (inl z))) =
          let z' : r'.code ≡ 12 = sym same ∙ z in
          let (f, e) = p.lost z in
          let (g, k) = q.lost z' in (
            no_route_same same f g (lost_unique a.w a.h a.words (cell_of_start a) (cell_of_goal a) e k),
            kept (omega arith),
            p.work_cleared (inr (inl z)) ∙ sym (q.work_cleared (inr (inl z'))),
          )
      by (inr (inr (inr z))) =
          let z' : r'.code ≡ 13 = sym same ∙ z in (
            found_same same (p.found (inr z)) (q.found (inr z')),
            kept (omega arith),
            p.work_cleared (inr (inr z)) ∙ sym (q.work_cleared (inr (inr z'))),
          )
