-- The direct line's first step, and that what follows is the direct line from there. Assumes nothing.
use Prim.Native.Nat.{ℕ, zero, suc, min, max, ◌+◌, ◌-◌, ◌<◌, ◌≤◌}
use mathlib.Core.Bool.{Bool, true, cond, ◌||◌}
use mathlib.Core.List.{List, [], ◌∷◌, ◌++◌}
use mathlib.Core.Logic.{⊎_elim}
use mathlib.Core.Path.{◌≡◌, refl, sym, ◌∙◌, ap, ap₂}
use native.Mathlib.Nat.{le_of_lt}
use native.Mathlib.Omega.{arith}
use lib.Dec.{ltb}
use lib.ListN.{length, replicate, length-append, length-replicate}
use borrow.Author.Tests.{lt-ltb, le-ltb}
use Rattle.lengths.specs.Lengths.{Len, gap, octile_of}
use Rattle.lengths.specs.Laws.{le_or_lt}
use Rattle.lengths.specs.Octile.{gap_suc}
use Rattle.floor.specs.Board.{Place, at, Dir, Offset, same, shift, go, moving}
use Rattle.ground.specs.Kind.{octile}
use Rattle.ground.specs.Line.{toward, compass, diagonal_way, line}
use Rattle.ground.proofs.RowTest.{replicate_is}
use Rattle.ground.proofs.LineEnds.{compass_dx, compass_dy}
use Rattle.ground.proofs.Logic.{or_left, or_right}
use Rattle.ground.proofs.Walks.{place_eq}
use Rattle.line.specs.Cells.{steps}
use Rattle.line.proofs.Ways.{gap_nearer, way_stays, way_none, way_moves}

-- ---- n steps by a long and a short axis, then k by the long one alone
-- the steps, f giving the direction with an offset on each axis
abbrev block : (Offset → Offset → Dir) → ℕ → ℕ → Offset → Offset → List Dir
block f n k o p = replicate n (f o p) ++ replicate k (f o same)

-- the first of them, and the rest, whose offsets may be others where they are not taken
block_first : (f : Offset → Offset → Dir) (n k n' k' : ℕ) (o p o' p' : Offset) → 0 < n + k → n' ≡ n - 1 → n' + k' ≡ n + k - 1 →
    (n ≡ 0 → p ≡ same) → (0 < n' + k' → o' ≡ o) → (0 < n' → p' ≡ p) → block f n k o p ≡ f o p ∷ block f n' k' o' p'
block_first f zero zero n' k' o p o' p' some e g still long short = absurd (omega arith)
block_first f zero (suc k) n' k' o p o' p' some e g still long short =
    let a : n' ≡ 0 = omega arith in
    let b : k' ≡ k = omega arith in
    rw (a, b) (ap₂ ◌∷◌ (ap (f o) (sym (still refl))) (replicate_is k (f o same) (f o' same) (λ z. ap (λ q. f q same) (sym (long (omega arith))))))
block_first f (suc n) k n' k' o p o' p' some e g still long short =
    let a : n' ≡ n = omega arith in
    let b : k' ≡ k = omega arith in
    rw (a, b)
    (ap (λ ds. f o p ∷ ds)
    (ap₂ ◌++◌
    (replicate_is n (f o p) (f o' p') (λ z. ap₂ f (sym (long (omega arith))) (sym (short (omega arith)))))
    (replicate_is k (f o same) (f o' same) (λ z. ap (λ q. f q same) (sym (long (omega arith)))))))

-- ---- the direct line by its gaps and its ways
-- the direct line
abbrev line_of : ℕ → ℕ → Offset → Offset → List Dir
line_of a b h v = replicate (min a b) (compass h v) ++ replicate (gap a b) (cond (ltb b a) (compass h same) (compass same v))

-- one that is wide
line_wide : (a b : ℕ) (h v : Offset) → b ≤ a → line_of a b h v ≡ block compass b (a - b) h v
line_wide a b h v l =
    let p : min a b ≡ b = omega arith in
    let q : gap a b ≡ a - b = omega arith in
    rw (p, q)
    (ap (λ ds. replicate b (compass h v) ++ ds)
    (replicate_is (a - b) (cond (ltb b a) (compass h same) (compass same v)) (compass h same)
    (λ z. ap (λ (t : Bool). cond t (compass h same) (compass same v)) (lt-ltb b a (omega arith)))))

-- one that is tall
line_tall : (a b : ℕ) (h v : Offset) → a ≤ b → line_of a b h v ≡ block (λ o p. compass p o) a (b - a) v h
line_tall a b h v l =
    let p : min a b ≡ a = omega arith in
    let q : gap a b ≡ b - a = omega arith in
    rw (p, q)
    (ap (λ ds. replicate a (compass h v) ++ ds)
    (ap (λ (t : Bool). replicate (b - a) (cond t (compass h same) (compass same v))) (le-ltb b a l)))

-- its first step, and the direct line from there
line_of_first : (a b a' b' : ℕ) (h v h' v' : Offset) → 0 < a + b → a' ≡ a - 1 → b' ≡ b - 1 → (a ≡ 0 → h ≡ same) → (b ≡ 0 → v ≡ same) →
    (0 < a' → h' ≡ h) → (0 < b' → v' ≡ v) → line_of a b h v ≡ compass h v ∷ line_of a' b' h' v'
line_of_first a b a' b' h v h' v' some p q level upright hs vs = ⊎_elim wide tall (le_or_lt b a)
  where
    wide : b ≤ a → line_of a b h v ≡ compass h v ∷ line_of a' b' h' v'
    wide l =
        line_wide a b h v l
        ∙ block_first compass b (a - b) b' (a' - b') h v h' v' (omega arith) q (omega arith) upright (λ z. hs (omega arith)) vs
        ∙ ap (λ ds. compass h v ∷ ds) (sym (line_wide a' b' h' v' (omega arith)))

    tall : a < b → line_of a b h v ≡ compass h v ∷ line_of a' b' h' v'
    tall l =
        line_tall a b h v (le_of_lt l)
        ∙ block_first (λ o p. compass p o) a (b - a) a' (b' - a') v h v' h' (omega arith) p (omega arith) level (λ z. vs (omega arith)) hs
        ∙ ap (λ ds. compass h v ∷ ds) (sym (line_tall a' b' h' v' (omega arith)))

-- how many steps it has
line_of_length : (a b : ℕ) (h v : Offset) → length (line_of a b h v) ≡ gap a b + min a b
line_of_length a b h v = simp (length-append, length-replicate) (omega arith)

-- ---- the direct line of two places
-- the place one step from s toward t
abbrev pub nearer : Place → Place → Place
nearer s t = record { x = shift (toward s.x t.x) s.x; y = shift (toward s.y t.y) s.y }

-- the direct line has as many steps as its octile length
pub steps_octile : (s t : Place) → steps s t ≡ (octile s t).straight + (octile s t).diagonal
unfolding steps
steps_octile s t = line_of_length (gap s.x t.x) (gap s.y t.y) (toward s.x t.x) (toward s.y t.y)

-- the octile length of two cells, by their gaps as the code takes them
pub octile_cells : (x y u v a b : ℕ) → a ≡ gap x u → b ≡ gap y v → octile_of a b ≡ octile (at x y) (at u v)
octile_cells x y u v a b p q = ap₂ octile_of (p ∙ gap_suc x u) (q ∙ gap_suc y v)

module _ (x y u v a b : ℕ) (p : a ≡ gap x u) (q : b ≡ gap y v) where
  -- the steps of two cells
  steps_cells : gap a b + min a b ≡ steps (at x y) (at u v)
  steps_cells = ap (λ (l : Len). l.straight + l.diagonal) (octile_cells x y u v a b p q) ∙ sym (steps_octile (at x y) (at u v))

  -- are the greater of the columns and the rows between them
  pub steps_greater : max a b ≡ steps (at x y) (at u v)
  steps_greater = greater a b ∙ steps_cells
    where
      greater : (a b : ℕ) → max a b ≡ gap a b + min a b
      greater a b = omega arith

-- two numbers whose gap and lesser are not both 0 are not both 0
some_gap : (a b : ℕ) → 0 < gap a b + min a b → 0 < a + b
some_gap a b l = omega arith

module _ (s t : Place) (some : 0 < steps s t) where
  -- the two places are not the same
  differ : 0 < gap s.x t.x + gap s.y t.y
  differ = some_gap (gap s.x t.x) (gap s.y t.y) (rw (steps_octile s t) at some)

  -- so one of its ways moves
  one_moves : (moving (toward s.x t.x) || moving (toward s.y t.y)) ≡ true
  one_moves =
      ⊎_elim
      (λ (l : gap s.x t.x ≤ 0). or_right (moving (toward s.x t.x)) (moving (toward s.y t.y)) (way_moves s.y t.y (omega (arith, differ))))
      (λ l. or_left (moving (toward s.x t.x)) (moving (toward s.y t.y)) (way_moves s.x t.x l))
      (le_or_lt (gap s.x t.x) 0)

  -- The direct line's first step leads to the place one step nearer,
  pub first_there : go (diagonal_way s t) s ≡ nearer s t
  first_there =
      place_eq
      (ap (λ (o : Offset). shift o s.x) (compass_dx (toward s.x t.x) (toward s.y t.y)))
      (ap (λ (o : Offset). shift o s.y) (compass_dy (toward s.x t.x) (toward s.y t.y) one_moves))

  -- and what follows is the direct line from there.
  pub line_first : line s t ≡ diagonal_way s t ∷ line (nearer s t) t
  line_first =
      line_of_first _ _ _ _ _ _ _ _ differ (gap_nearer s.x t.x) (gap_nearer s.y t.y) (way_none s.x t.x) (way_none s.y t.y)
      (way_stays s.x t.x) (way_stays s.y t.y)

  -- It has one step less.
  pub steps_first : steps s t ≡ suc (steps (nearer s t) t)
  unfolding steps
  steps_first = ap length line_first

-- A line of no steps has none.
pub line_none : (s t : Place) → steps s t ≡ 0 → line s t ≡ []
unfolding steps
line_none s t e = empty (line s t) e
  where
    empty : (ds : List Dir) → length ds ≡ 0 → ds ≡ []
    empty [] e = refl
    empty (d ∷ ds) e = absurd (omega arith)
