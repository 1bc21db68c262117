-- The direct line of any two places leads from the one to the other, has their octile length, and is tame.
-- Assumes nothing.
use mathlib.Core.Path.{◌≡◌, refl, ◌∙◌, ap, ap₂, subst}
use mathlib.Core.Bool.{Bool, true, false, cond, ◌&&◌, ◌||◌}
use mathlib.Core.List.{List, [], ◌∷◌, ◌++◌}
use mathlib.Core.Logic.{◌⊎◌, inl, inr, ⊎_elim}
use Prim.Native.Nat.{ℕ, zero, suc, pred, ◌+◌, ◌-◌, min, ◌≤◌, ◌<◌}
use native.Mathlib.Omega.{arith}
use native.Mathlib.Nat.{le_of_lt}
use lib.Dec.{ltb}
use lib.ListN.{replicate}
use borrow.Author.Tests.{ltb-true, ltb-false}
use Rattle.lengths.specs.Lengths.{Len, pair, ◌⊕◌, gap}
use Rattle.floor.specs.Board.{Place, Dir, Offset, less, same, more, dx, dy, shift, moving, slanted}
use Rattle.ground.specs.Kind.{octile}
use Rattle.ground.specs.Walk.{end, len}
use Rattle.ground.specs.Line.{toward, compass, diagonal_way, straight_way, line}
use Rattle.ground.proofs.Logic.{true_or_false, not_both, and_both, and-false, or_left, or_right}
use Rattle.ground.proofs.Tables.{offset_pair}
use Rattle.ground.proofs.Walks.{place_eq, len_eq, len_append}
use Rattle.ground.proofs.Axes.{travel, end_x, end_y}

-- the direction that has two given offsets: its first offset
pub compass_dx : (h v : Offset) → dx (compass h v) ≡ h
compass_dx = offset_pair (λ h v. dx (compass h v) ≡ h) refl refl refl refl refl refl refl refl refl

-- its second one, if one of them moves
pub compass_dy : (h v : Offset) → (moving h || moving v) ≡ true → dy (compass h v) ≡ v
compass_dy =
    offset_pair (λ h v. (moving h || moving v) ≡ true → dy (compass h v) ≡ v)
    (λ m. refl) (λ m. refl) (λ m. refl) (λ m. refl) (λ m. not_both m refl) (λ m. refl) (λ m. refl) (λ m. refl) (λ m. refl)

-- it is diagonal when both offsets move
compass_slanted : (h v : Offset) → slanted (compass h v) ≡ (moving h && moving v)
compass_slanted = offset_pair (λ h v. slanted (compass h v) ≡ (moving h && moving v)) refl refl refl refl refl refl refl refl refl

-- n steps one way on an axis
abbrev pub hops : Offset → ℕ → ℕ → ℕ
hops less n m = m - n
hops same n m = m
hops more n m = m + n

-- with no hop one stays
hops_none : (o : Offset) (m : ℕ) → m ≡ hops o 0 m
hops_none less m = omega arith
hops_none same m = refl
hops_none more m = omega arith

-- n hops and k hops are n + k
hops_more : (o : Offset) (n k m : ℕ) → hops o k (hops o n m) ≡ hops o (n + k) m
hops_more less n k m = let e : (m - n) - k ≡ m - (n + k) = omega arith in e
hops_more same n k m = refl
hops_more more n k m = let e : (m + n) + k ≡ m + (n + k) = omega arith in e

-- one step and n hops are n + 1
hops_first : (o : Offset) (n m : ℕ) → hops o n (shift o m) ≡ hops o (suc n) m
hops_first less n m = let e : pred m - n ≡ m - suc n = omega arith in e
hops_first same n m = refl
hops_first more n m = let e : suc m + n ≡ m + suc n = omega arith in e

-- n steps of one direction are n hops on the axis
pub travel_replicate : (ax : Dir → Offset) (o : Offset) (n m : ℕ) (d : Dir) → (0 < n → ax d ≡ o) → travel ax m (replicate n d) ≡ hops o n m
travel_replicate ax o zero m d e = hops_none o m
travel_replicate ax o (suc n) m d e =
    travel_replicate ax o n (shift (ax d) m) d (λ h. e (omega arith))
    ∙ ap (λ (p : Offset). hops o n (shift p m)) (e (omega arith)) ∙ hops_first o n m

-- two lists in a row
travel_append : (ax : Dir → Offset) (m : ℕ) (u v : List Dir) → travel ax m (u ++ v) ≡ travel ax (travel ax m u) v
travel_append ax m [] v = refl
travel_append ax m (d ∷ u) v = travel_append ax (shift (ax d) m) u v

-- n steps of one direction and then k of another
travel_two : (ax : Dir → Offset) (o o' : Offset) (n k m : ℕ) (d c : Dir) → (0 < n → ax d ≡ o) → (0 < k → ax c ≡ o') →
    travel ax m (replicate n d ++ replicate k c) ≡ hops o' k (hops o n m)
travel_two ax o o' n k m d c p q =
    travel_append ax m (replicate n d) (replicate k c) ∙ travel_replicate ax o' k (travel ax m (replicate n d)) c q
    ∙ ap (hops o' k) (travel_replicate ax o n m d p)

-- The way from m to n, and that it leads there.
record Leads (m n : ℕ) : Type 0 where
  arrives : hops (toward m n) (gap m n) m ≡ n
  goes : 0 < gap m n → moving (toward m n) ≡ true

-- it does
leads : (m n : ℕ) → Leads m n
leads m n = by (true_or_false (ltb m n)) (true_or_false (ltb n m))
  where
    by : (ltb m n ≡ true) ⊎ (ltb m n ≡ false) → (ltb n m ≡ true) ⊎ (ltb n m ≡ false) → Leads m n
    by (inl p) q =
        let h = ltb-true m n p in
        record { arrives = rw p (let e : m + gap m n ≡ n = omega arith in e); goes = rw p (λ _. refl) }
    by (inr p) (inl q) =
        let h = ltb-true n m q in
        record { arrives = rw (p, q) (let e : m - gap m n ≡ n = omega arith in e); goes = rw (p, q) (λ _. refl) }
    by (inr p) (inr q) =
        let h = ltb-false m n p in
        let k = ltb-false n m q in
        record { arrives = rw (p, q) (let e : m ≡ n = omega arith in e); goes = λ a. absurd (omega arith) }

-- The diagonal steps cover the shorter offset, and all steps the longer one.
record Covers (long short n k : ℕ) : Type 0 where
  by_diagonals : n ≡ short
  by_all : n + k ≡ long

-- where the columns are further apart
covers_wide : (a b : ℕ) → b ≤ a → Covers a b (min a b) (gap a b)
covers_wide a b h = record { by_diagonals = omega arith; by_all = omega arith }

-- where the rows are further apart
covers_tall : (a b : ℕ) → a ≤ b → Covers b a (min a b) (gap a b)
covers_tall a b h = record { by_diagonals = omega arith; by_all = omega arith }

-- what is more than something is more than 0
positive : {a b : ℕ} → a < b → 0 < b
positive h = omega arith

-- a sum with something more than 0 is more than 0
positive_sum : (n : ℕ) {k : ℕ} → 0 < k → 0 < n + k
positive_sum n h = omega arith

module _ (s t : Place) where
  -- how far the columns are apart
  abbrev over_x : ℕ
  over_x = gap s.x t.x

  -- how far the rows are apart
  abbrev over_y : ℕ
  over_y = gap s.y t.y

  -- the way on the first axis
  abbrev h : Offset
  h = toward s.x t.x

  -- the way on the second axis
  abbrev v : Offset
  v = toward s.y t.y

  -- the number of diagonal steps
  abbrev n : ℕ
  n = (octile s t).diagonal

  -- the number of straight steps
  abbrev k : ℕ
  k = (octile s t).straight

  -- which axis is the longer
  abbrev Longer : Type 0
  Longer = (ltb over_y over_x ≡ true) ⊎ (ltb over_y over_x ≡ false)

  -- on a wide line the straight steps are level
  wide_way : ltb over_y over_x ≡ true → straight_way s t ≡ compass h same
  wide_way w = ap (λ (b : Bool). cond b (compass h same) (compass same v)) w

  -- on a tall one they are upright
  tall_way : ltb over_y over_x ≡ false → straight_way s t ≡ compass same v
  tall_way w = ap (λ (b : Bool). cond b (compass h same) (compass same v)) w

  -- the line leads to the column of t
  line_x : Longer → travel dx s.x (line s t) ≡ t.x
  line_x (inl w) =
      let c : Covers over_x over_y n k = covers_wide over_x over_y (le_of_lt (ltb-true over_y over_x w)) in
      travel_two dx h h n k s.x (diagonal_way s t) (straight_way s t) (λ _. compass_dx h v) (λ _. ap dx (wide_way w) ∙ compass_dx h same)
      ∙ hops_more h n k s.x ∙ ap (λ (m : ℕ). hops h m s.x) c.by_all ∙ (leads s.x t.x).arrives
  line_x (inr w) =
      let c : Covers over_y over_x n k = covers_tall over_x over_y (ltb-false over_y over_x w) in
      travel_two dx h same n k s.x (diagonal_way s t) (straight_way s t) (λ _. compass_dx h v) (λ _. ap dx (tall_way w) ∙ compass_dx same v)
      ∙ ap (λ (m : ℕ). hops h m s.x) c.by_diagonals ∙ (leads s.x t.x).arrives

  -- and to its row
  line_y : Longer → travel dy s.y (line s t) ≡ t.y
  line_y (inl w) =
      let c : Covers over_x over_y n k = covers_wide over_x over_y (le_of_lt (ltb-true over_y over_x w)) in
      let m : moving h ≡ true = (leads s.x t.x).goes (positive (ltb-true over_y over_x w)) in
      travel_two dy v same n k s.y (diagonal_way s t) (straight_way s t)
      (λ _. compass_dy h v (or_left (moving h) (moving v) m))
      (λ _. ap dy (wide_way w) ∙ compass_dy h same (or_left (moving h) (moving same) m))
      ∙ ap (λ (m : ℕ). hops v m s.y) c.by_diagonals ∙ (leads s.y t.y).arrives
  line_y (inr w) =
      let c : Covers over_y over_x n k = covers_tall over_x over_y (ltb-false over_y over_x w) in
      travel_two dy v v n k s.y (diagonal_way s t) (straight_way s t)
      (λ a. compass_dy h v (or_left (moving h) (moving v) ((leads s.x t.x).goes (subst (λ (m : ℕ). 0 < m) c.by_diagonals a))))
      (λ a. ap dy (tall_way w)
      ∙ compass_dy same v (or_right (moving same) (moving v) ((leads s.y t.y).goes (subst (λ (m : ℕ). 0 < m) c.by_all (positive_sum n a)))))
      ∙ hops_more v n k s.y ∙ ap (λ (m : ℕ). hops v m s.y) c.by_all ∙ (leads s.y t.y).arrives

  -- The direct line of s and t leads from s to t.
  pub line_end : end s (line s t) ≡ t
  line_end =
      place_eq (end_x s (line s t) ∙ line_x (true_or_false (ltb over_y over_x))) (end_y s (line s t) ∙ line_y (true_or_false (ltb over_y over_x)))

  -- where a diagonal step is taken both axes are gone along
  both_move : (a b : ℕ) → 0 < min a b → (0 < a) × (0 < b)
  both_move a b h = omega arith

  -- the direct line's diagonal direction is diagonal, if it is used
  pub line_diagonal : 0 < n → slanted (diagonal_way s t) ≡ true
  line_diagonal a =
      let (p, q) = both_move over_x over_y a in
      compass_slanted h v ∙ and_both ((leads s.x t.x).goes p) ((leads s.y t.y).goes q)

  -- and its straight direction straight
  pub line_straight : slanted (straight_way s t) ≡ false
  line_straight =
      ⊎_elim (λ w. ap slanted (wide_way w) ∙ compass_slanted h same ∙ and-false (moving h))
      (λ w. ap slanted (tall_way w) ∙ compass_slanted same v)
      (true_or_false (ltb over_y over_x))

-- the length of n steps in one direction, and of n diagonal and then k straight ones
len_replicate : (b : Bool) (n : ℕ) (d : Dir) → (0 < n → slanted d ≡ b) → len (replicate n d) ≡ cond b (pair 0 n) (pair n 0)
len_replicate true zero d h = refl
len_replicate false zero d h = refl
len_replicate true (suc n) d h =
    rw (h (omega arith)) (ap (λ (l : Len). pair 0 1 ⊕ l) (len_replicate true n d (λ p. h (omega arith))) ∙ len_eq (omega arith) (omega arith))
len_replicate false (suc n) d h =
    rw (h (omega arith)) (ap (λ (l : Len). pair 1 0 ⊕ l) (len_replicate false n d (λ p. h (omega arith))) ∙ len_eq (omega arith) (omega arith))

-- the length of n diagonal and then k straight steps
pub block_len : (d c : Dir) (n k : ℕ) → (0 < n → slanted d ≡ true) → (0 < k → slanted c ≡ false) →
    len (replicate n d ++ replicate k c) ≡ pair k n
block_len d c n k p q =
    len_append (replicate n d) (replicate k c) ∙ ap₂ ◌⊕◌ (len_replicate true n d p) (len_replicate false k c q)
    ∙ len_eq (omega arith) (omega arith)

-- The direct line has the octile length of its two places.
pub line_len : (s t : Place) → len (line s t) ≡ octile s t
line_len s t =
    block_len (diagonal_way s t) (straight_way s t) (octile s t).diagonal (octile s t).straight (line_diagonal s t) (λ _. line_straight s t)
