-- A place is shown as its own by one field and one row only: the steps that lead there are those of the direct line, and a field's edges
-- belong to the even fields. Assumes nothing.
use Prim.Native.Nat.{ℕ, zero, suc, ◌+◌, ◌%◌, ◌<◌}
use mathlib.Core.Logic.{inl, inr}
use mathlib.Core.Path.{◌≡◌, sym, ◌∙◌, ap}
use native.Mathlib.Omega.{arith}
use borrow.Author.Rules.{rules}
use Rattle.lengths.specs.Lengths.{Len}
use Rattle.floor.specs.Board.{Board, Padded, Place, Dir, N, E, S, W, NE, SE, SW, NW, dir_at}
use Rattle.floor.proofs.Below.{below}
use Rattle.fields.specs.Fields.{slant, side, Shows, Own}
use Rattle.plan.proofs.Linked.{shown_leads}

-- ---- directions and fields
-- the number of a direction
abbrev number : Dir → ℕ
number N = 0
number E = 1
number S = 2
number W = 3
number NE = 4
number SE = 5
number SW = 6
number NW = 7

-- the number of the direction with a number
number_at : (n : ℕ) → n < 8 → number (dir_at n) ≡ n
number_at = below (λ n. number (dir_at n) ≡ n) 8 (search rules)

-- directions that are the same have one number
number_same : (a b : ℕ) → a < 8 → b < 8 → (d : Dir) → d ≡ dir_at a → d ≡ dir_at b → a ≡ b
number_same a b l m d p q = sym (number_at a l) ∙ ap number (sym p ∙ q) ∙ number_at b m

-- a field that owns what lies on its edge is even
on_edge : (f n k : ℕ) → Own f n k → ¬ ((0 < n) × (0 < k)) → f % 2 ≡ 0
on_edge f n k (inl e) z = e
on_edge f n k (inr p) z = absurd (z p)

-- two fields that own a cell some way off and lead there by the same steps are one
one_field : (f g n k : ℕ) → f < 8 → g < 8 → 0 < n + k → (0 < n → slant f ≡ slant g) → (0 < k → side f ≡ side g) → Own f n k → Own g n k → f ≡ g
one_field f g zero zero l m some p q a b = absurd (omega arith)
one_field f g zero (suc k) l m some p q a b =
    let e = q (omega arith) in omega (arith, on_edge f _ _ a (λ z. omega arith), on_edge g _ _ b (λ z. omega arith))
one_field f g (suc n) zero l m some p q a b =
    let d = p (omega arith) in omega (arith, on_edge f _ _ a (λ z. omega arith), on_edge g _ _ b (λ z. omega arith))
one_field f g (suc n) (suc k) l m some p q a b = let d = p (omega arith) in let e = q (omega arith) in omega arith

-- ---- what is shown
-- A place is shown as its own by one field, in one row.
pub shown_once : {B : Board} → Padded B → (s t : Place) → (f g n m : ℕ) → f < 8 → g < 8 →
    (p : Shows B s (dir_at (slant f)) (dir_at (side f)) n t) → (q : Shows B s (dir_at (slant g)) (dir_at (side g)) m t) →
    Own f n p.k → Own g m q.k → (f ≡ g) × (n ≡ m)
shown_once padded s t f g n m l j p q own other =
    let a = shown_leads padded f l p in
    let b = shown_leads padded g j q in
    let rows : n ≡ m = ap (λ (u : Len). u.diagonal) (sym a.steps ∙ b.steps) in
    let along : p.k ≡ q.k = ap (λ (u : Len). u.straight) (sym a.steps ∙ b.steps) in (
      one_field f g n p.k l j p.some_way
          (λ z. number_same (slant f) (slant g) (omega arith) (omega arith) _ (a.diagonal z) (b.diagonal (omega arith)))
          (λ z. number_same (side f) (side g) (omega arith) (omega arith) _ (a.straight z) (b.straight (omega arith)))
          own (rw (← rows, ← along) at other),
      rows,
    )
