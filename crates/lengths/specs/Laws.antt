-- The laws of the order of lengths, each over all pairs of natural numbers. Assumes nothing.
--     ≼_refl ≼_antisym ≼_trans ≼_or-≻                a total order, and equal worth means the same pair
--     ≺_irrefl ≺_trans ≺-≼_trans ≼-≺_trans trichotomy     the strict order
--     ≺_worth_iff, ≼_by_worth, ≺_by_worth            the order as one of whole numbers n·a + m·b: how an order is shown by `omega`
--     weight, ≺_weight, ≼_weight                     the same with one pair of numerals, for fewer than 80,782 diagonal steps
--     ⊕_comm ⊕_assoc ⊕_zero ⊕_cancel ⊕-≺ ⊕-≼ ⊕_mono ⊕_mono-≺      sums
--     𝟎_least, straight_step, diagonal_step, ≼_both, ≺_straight, ≺_diagonal, steps_bounded, ≺_induction
--     over_straight, over_diagonal                   the signs first, then p² against 2q²
--     shorter-≺ .., compare_less .., decided         what the tests say
use Rattle.std.specs.Prelude.{ℕ, zero, suc, ◌+◌, ◌*◌, ◌-◌, ◌<◌, ◌≤◌, ◌≡◌, refl, ◌⊎◌, ◌↔◌, true, ℤ, pos, negsuc}
use Rattle.std.proofs.Math.Path.{ap}
use Rattle.std.proofs.Common.{ap₂, inl, inr, ⊎_elim, add_comm, add_assoc, add-zero, sub-eq-zero_of_le, mul-pos, mul-le-mul_left, mul-le-mul_right, le_refl, le_trans, le_antisymm, le_of_eq, le_of_lt, lt_irrefl, lt_of_not-le, not-le_of_lt, not-suc-le-zero, eq-zero-or-pos, ltb-true, lt-ltb, le-ltb}
use Rattle.std.proofs.Math.Logic.{⊎_map}
use Rattle.std.proofs.Math.Decide.{dec_le}
use Rattle.std.proofs.Math.Nat.{add_right_cancel, le_of_mul-le-mul_left}
use native.Mathlib.Omega.{arith}
use Rattle.lengths.specs.Lengths.{Len, pair, 𝟎, ◌⊕◌, over, ◌≺◌, ◌≼◌, shorter, compare_of}
use Rattle.lengths.specs.Fraction.{Near, Fraction, fraction, square_lt, root_zero, below, beyond, irrational}

-- of two numbers the first is at most the second, or the second is less
pub le_or_lt : (a b : ℕ) → (a ≤ b) ⊎ (b < a)
le_or_lt a b = elim (dec_le a b) [ yes h ↦ inl h | no h ↦ inr (lt_of_not-le h) ]

-- two lengths with the same counts are the same
pub same_pair : {x y : Len} → x.straight ≡ y.straight → x.diagonal ≡ y.diagonal → x ≡ y
same_pair p q = λ i. record { straight = p i; diagonal = q i }

-- of two numbers at most one has something over the other
one_side : (a c : ℕ) → (a - c ≡ 0) ⊎ (c - a ≡ 0)
one_side a c = ⊎_elim (λ h. inl (omega arith)) (λ h. inr (omega arith)) (le_or_lt a c)

-- a product with 0 is 0
times_zero : (k : ℕ) {a : ℕ} → a ≡ 0 → k * a ≡ 0
times_zero k e = omega (arith, ap (λ (t : ℕ). k * t) e)

-- where p² + 2q² is 0, both are
both_zero : (p q : ℕ) → p * p + 2 * (q * q) ≡ 0 → (p ≡ 0) × (q ≡ 0)
both_zero p q e = (root_zero p (omega arith), root_zero q (omega arith))

-- ---- what two lengths have over one another: p straight and q diagonal steps the one, p' and q' the other. Of each kind one is 0
module _ (p p' q q' : ℕ) where
  -- equal squares: the same counts are left on both sides
  same_left : (p ≡ 0) ⊎ (p' ≡ 0) → (q ≡ 0) ⊎ (q' ≡ 0) → p * p + 2 * (q * q) ≡ p' * p' + 2 * (q' * q') → (p ≡ p') × (q ≡ q')
  same_left (inl e) (inl d) h = let z = both_zero p' q' (omega (arith, times_zero p e, times_zero q d)) in omega arith
  same_left (inl e) (inr d) h = let z = irrational p' q (omega (arith, times_zero p e, times_zero q' d)) in omega arith
  same_left (inr e) (inl d) h = let z = irrational p q' (omega (arith, times_zero p' e, times_zero q d)) in omega arith
  same_left (inr e) (inr d) h = let z = both_zero p q (omega (arith, times_zero p' e, times_zero q' d)) in omega arith

  module _ {m n : ℕ} (f : Near m n) where
    -- squares above 0: what is left is worth something
    some_left : q < n → 0 < p' * p' + 2 * (q' * q') → 0 < n * p' + m * q'
    some_left small h =
        ⊎_elim
        (λ (z : p' ≡ 0). omega (arith, mul-pos {m = m} {n = q'} (omega arith) (square_lt 0 q' (omega (arith, times_zero p' z)))))
        (λ (l : 0 < p'). omega (arith, mul-pos {m = n} {n = p'} (omega arith) l))
        (eq-zero-or-pos p')

    -- smaller squares: what is left is worth less
    less_left : (p ≡ 0) ⊎ (p' ≡ 0) → (q ≡ 0) ⊎ (q' ≡ 0) → p * p + 2 * (q * q) < p' * p' + 2 * (q' * q') → q < n → n * p + m * q < n * p' + m * q'
    less_left (inl e) (inl d) h small =
        omega (arith, times_zero n e, times_zero m d, some_left small (omega (arith, times_zero p e, times_zero q d)))
    less_left (inl e) (inr d) h small =
        omega (arith, times_zero n e, times_zero m d, beyond f p' q (omega (arith, times_zero p e, times_zero q' d)) small)
    less_left (inr e) (inl d) h small =
        let l : p * p < 2 * (q' * q') = omega (arith, times_zero p' e, times_zero q d) in
        omega (arith, times_zero n e, times_zero m d, below f p q' (le_of_lt l) (omega arith))
    less_left (inr e) (inr d) h small = omega (arith, times_zero p' e, times_zero q' d)

-- ---- a total order
-- a length is at most itself
pub ≼_refl : (x : Len) → x ≼ x
≼_refl x = record { most = le_refl (over x x) }

-- two lengths that are at most each other are the same pair
pub ≼_antisym : {x y : Len} → x ≼ y → y ≼ x → x ≡ y
unfolding over
≼_antisym {x} {y} h k = same_pair (same x.straight y.straight left.0) (same x.diagonal y.diagonal left.1)
  where
    left : (x.straight - y.straight ≡ y.straight - x.straight) × (x.diagonal - y.diagonal ≡ y.diagonal - x.diagonal)
    left =
        same_left (x.straight - y.straight) (y.straight - x.straight) (x.diagonal - y.diagonal) (y.diagonal - x.diagonal) (one_side x.straight y.straight) (one_side x.diagonal y.diagonal)
        (le_antisymm h.most k.most)

    same : (a c : ℕ) → a - c ≡ c - a → a ≡ c
    same a c e = omega arith

-- no length is less than itself
pub ≺_irrefl : (x : Len) → ¬ (x ≺ x)
≺_irrefl x h = lt_irrefl (over x x) h.less

-- less is at most
pub ≺→≼ : {x y : Len} → x ≺ y → x ≼ y
≺→≼ h = record { most = le_of_lt h.less }

-- where x is less than y, y is not at most x
pub ≺→not-≽ : {x y : Len} → x ≺ y → ¬ (y ≼ x)
≺→not-≽ h k = not-le_of_lt h.less k.most

-- of two lengths the first is at most the second, or the second is less
pub ≼_or-≻ : (x y : Len) → (x ≼ y) ⊎ (y ≺ x)
≼_or-≻ x y = ⊎_map (λ h. record { most = h }) (λ h. record { less = h }) (le_or_lt (over x y) (over y x))

-- where y is not at most x, x is less than y
pub not-≽→≺ : {x y : Len} → ¬ (y ≼ x) → x ≺ y
not-≽→≺ {x} {y} n = ⊎_elim (λ h. absurd (n h)) (λ h. h) (≼_or-≻ y x)

-- at most is the same or less
pub ≼_split : {x y : Len} → x ≼ y → (x ≡ y) ⊎ (x ≺ y)
≼_split {x} {y} h = ⊎_map (λ k. ≼_antisym h k) (λ k. k) (≼_or-≻ y x)

-- less, the same or more
pub trichotomy : (x y : Len) → (x ≺ y) ⊎ (x ≡ y) ⊎ (y ≺ x)
trichotomy x y = ⊎_elim (λ h. ⊎_elim (λ e. inr (inl e)) inl (≼_split h)) (λ h. inr (inr h)) (≼_or-≻ x y)

-- ---- the order as one of whole numbers: n·a + m·b, with m / n just above √2 and n above the diagonal steps
abbrev pub worth : ℕ → ℕ → Len → ℕ
worth m n x = n * x.straight + m * x.diagonal

module _ {m n : ℕ} (f : Near m n) {x y : Len} where
  -- a smaller length is worth less
  pub worth-≺ : x.diagonal < n → x ≺ y → worth m n x < worth m n y
  unfolding over
  worth-≺ small h =
      omega (
        arith,
        less_left (x.straight - y.straight) (y.straight - x.straight) (x.diagonal - y.diagonal) (y.diagonal - x.diagonal) f (one_side x.straight y.straight) (one_side x.diagonal y.diagonal) h.less (omega arith),
        ap (λ (t : ℕ). n * t) (across x.straight y.straight),
        ap (λ (t : ℕ). m * t) (across x.diagonal y.diagonal),
      )
    where
      across : (a c : ℕ) → a + (c - a) ≡ c + (a - c)
      across a c = omega arith

  -- a length that is at most another is worth at most as much
  pub worth-≼ : x.diagonal < n → x ≼ y → worth m n x ≤ worth m n y
  worth-≼ small h = ⊎_elim (λ e. le_of_eq (ap (worth m n) e)) (λ l. le_of_lt (worth-≺ small l)) (≼_split h)

module _ {m n : ℕ} (f : Near m n) {x y : Len} (small : y.diagonal < n) where
  -- what is worth at most as much is at most the other length
  pub ≼_of_worth : worth m n x ≤ worth m n y → x ≼ y
  ≼_of_worth h = ⊎_elim (λ k. k) (λ l. absurd (not-le_of_lt (worth-≺ f small l) h)) (≼_or-≻ x y)

  -- what is worth less is less
  pub ≺_of_worth : worth m n x < worth m n y → x ≺ y
  ≺_of_worth h = not-≽→≺ (λ k. not-le_of_lt h (worth-≼ f small k))

-- so less is worth less, both ways
pub ≺_worth_iff : {m n : ℕ} → Near m n → (x y : Len) → x.diagonal < n → y.diagonal < n → x ≺ y ↔ worth m n x < worth m n y
≺_worth_iff f x y h k = (worth-≺ f h, ≺_of_worth f k)

-- and at most is worth at most
pub ≼_worth_iff : {m n : ℕ} → Near m n → (x y : Len) → x.diagonal < n → y.diagonal < n → x ≼ y ↔ worth m n x ≤ worth m n y
≼_worth_iff f x y h k = (worth-≼ f h, ≼_of_worth f k)

-- to show an order, show it of the whole numbers at every such fraction
pub ≼_by_worth : (x y : Len) → ((m n : ℕ) → Near m n → worth m n x ≤ worth m n y) → x ≼ y
≼_by_worth x y h = let f = fraction y.diagonal in ≼_of_worth f.near f.large (h f.m f.n f.near)

-- and so for less
pub ≺_by_worth : (x y : Len) → ((m n : ℕ) → Near m n → worth m n x < worth m n y) → x ≺ y
≺_by_worth x y h = let f = fraction y.diagonal in ≺_of_worth f.near f.large (h f.m f.n f.near)

-- at most, and at most again
pub ≼_trans : {x y z : Len} → x ≼ y → y ≼ z → x ≼ z
≼_trans {x} {y} {z} h k =
    let f = fraction (x.diagonal + y.diagonal + z.diagonal) in
    let l = f.large in
    ≼_of_worth f.near (omega arith) (le_trans (worth-≼ f.near (omega arith) h) (worth-≼ f.near (omega arith) k))

-- less, and at most
pub ≺-≼_trans : {x y z : Len} → x ≺ y → y ≼ z → x ≺ z
≺-≼_trans h k = not-≽→≺ (λ l. ≺→not-≽ h (≼_trans k l))

-- at most, and less
pub ≼-≺_trans : {x y z : Len} → x ≼ y → y ≺ z → x ≺ z
≼-≺_trans h k = not-≽→≺ (λ l. ≺→not-≽ k (≼_trans l h))

-- less, and less again
pub ≺_trans : {x y z : Len} → x ≺ y → y ≺ z → x ≺ z
≺_trans h k = ≺-≼_trans h (≺→≼ k)

-- one pair of numerals that serves every length of fewer than 80,782 diagonal steps, all pairs of 16-bit counts among them
abbrev pub weight : Len → ℕ
weight x = worth 114243 80782 x

-- 114,243 / 80,782 is a fraction just above √2
pub exact : Near 114243 80782
exact = record { above = refl; one = omega arith; two = omega arith }

-- a short length is less than another exactly where it weighs less
pub ≺_weight : (x y : Len) → x.diagonal < 80782 → y.diagonal < 80782 → x ≺ y ↔ weight x < weight y
≺_weight = ≺_worth_iff exact

-- and at most another exactly where it weighs at most as much
pub ≼_weight : (x y : Len) → x.diagonal < 80782 → y.diagonal < 80782 → x ≼ y ↔ weight x ≤ weight y
≼_weight = ≼_worth_iff exact

-- ---- sums
-- sums in either order are the same
pub ⊕_comm : (x y : Len) → x ⊕ y ≡ y ⊕ x
⊕_comm x y = same_pair (add_comm x.straight y.straight) (add_comm x.diagonal y.diagonal)

-- and so in either grouping
pub ⊕_assoc : (x y z : Len) → x ⊕ y ⊕ z ≡ x ⊕ (y ⊕ z)
⊕_assoc x y z = same_pair (add_assoc x.straight y.straight z.straight) (add_assoc x.diagonal y.diagonal z.diagonal)

-- no step adds nothing
pub ⊕_zero : (x : Len) → x ⊕ 𝟎 ≡ x
⊕_zero x = same_pair (add-zero x.straight) (add-zero x.diagonal)

-- what is added to both can be taken from both
pub ⊕_cancel : (x y z : Len) → x ⊕ z ≡ y ⊕ z → x ≡ y
⊕_cancel x y z e = same_pair (add_right_cancel z.straight (ap (λ (t : Len). t.straight) e)) (add_right_cancel z.diagonal (ap (λ (t : Len). t.diagonal) e))

-- what both have more makes no difference
over-⊕ : (x y z : Len) → over (x ⊕ z) (y ⊕ z) ≡ over x y
unfolding over
over-⊕ x y z = ap₂ (λ (s t : ℕ). s * s + 2 * (t * t)) (cancel x.straight y.straight z.straight) (cancel x.diagonal y.diagonal z.diagonal)
  where
    cancel : (a c e : ℕ) → (a + e) - (c + e) ≡ a - c
    cancel a c e = omega arith

-- what is added to both leaves less as it is
pub ⊕-≺ : (x y z : Len) → x ⊕ z ≺ y ⊕ z ↔ x ≺ y
⊕-≺ x y z = omega (arith, over-⊕ x y z, over-⊕ y x z)

-- and at most
pub ⊕-≼ : (x y z : Len) → x ⊕ z ≼ y ⊕ z ↔ x ≼ y
⊕-≼ x y z = omega (arith, over-⊕ x y z, over-⊕ y x z)

-- at most and at most make at most
pub ⊕_mono : {x y u v : Len} → x ≼ y → u ≼ v → x ⊕ u ≼ y ⊕ v
⊕_mono {x} {y} {u} {v} h k = ≼_trans ((⊕-≼ x y u).1 h) (rw (⊕_comm y u, ⊕_comm y v) ((⊕-≼ u v y).1 k))

-- less and at most make less
pub ⊕_mono-≺ : {x y u v : Len} → x ≺ y → u ≼ v → x ⊕ u ≺ y ⊕ v
⊕_mono-≺ {x} {y} {u} {v} h k = ≺-≼_trans ((⊕-≺ x y u).1 h) (⊕_mono (≼_refl y) k)

-- no length is less than that of no step
pub 𝟎_least : (x : Len) → 𝟎 ≼ x
𝟎_least x = ≼_by_worth 𝟎 x (λ m n f. omega arith)

-- a straight step more is more
pub straight_step : (x : Len) → x ≺ x ⊕ pair 1 0
straight_step x = ≺_by_worth x (x ⊕ pair 1 0) (λ m n f. omega arith)

-- and so is a diagonal one
pub diagonal_step : (x : Len) → x ≺ x ⊕ pair 0 1
diagonal_step x = ≺_by_worth x (x ⊕ pair 0 1) (λ m n f. omega arith)

-- ---- more steps of one kind, and no fewer of the other
module _ (x y : Len) where
  -- no more of either kind is at most
  pub ≼_both : x.straight ≤ y.straight → x.diagonal ≤ y.diagonal → x ≼ y
  ≼_both h k = ≼_by_worth x y (λ m n f. omega (arith, mul-le-mul_left n h, mul-le-mul_left m k))

  -- fewer straight steps and no more diagonal ones is less
  pub ≺_straight : x.straight < y.straight → x.diagonal ≤ y.diagonal → x ≺ y
  ≺_straight h k = ≺_by_worth x y (λ m n f. omega (arith, mul-le-mul_left n h, mul-le-mul_left m k))

  -- fewer diagonal steps and no more straight ones is less
  pub ≺_diagonal : x.straight ≤ y.straight → x.diagonal < y.diagonal → x ≺ y
  ≺_diagonal h k = ≺_by_worth x y (λ m n f. omega (arith, mul-le-mul_left n h, mul-le-mul_left m k))

-- a length at most y has few steps, so there are finitely many
pub steps_bounded : {x y : Len} → x ≼ y → x.straight + x.diagonal ≤ y.straight + 2 * y.diagonal
steps_bounded {x} {y} h =
    let f = fraction x.diagonal in
    let l = f.near in
    le_of_mul-le-mul_left {k = f.n}
    (omega (arith, worth-≼ l f.large h, mul-le-mul_right x.diagonal (le_of_lt l.one), mul-le-mul_right y.diagonal (le_of_lt l.two)))
    (omega arith)

-- induction by length: what holds of a length if it holds of each smaller one holds of all
pub ≺_induction {ℓ} : (P : Len → Type ℓ) → ((y : Len) → ((x : Len) → x ≺ y → P x) → P y) → (y : Len) → P y
≺_induction P step y = go (suc (worth f.m f.n y)) y (≼_refl y) (omega arith)
  where
    f : Fraction (y.straight + 2 * y.diagonal)
    f = fraction (y.straight + 2 * y.diagonal)

    go : (k : ℕ) (x : Len) → x ≼ y → worth f.m f.n x < k → P x
    go zero x h l = absurd (not-suc-le-zero l)
    go (suc k) x h l =
        step x
        (λ w s.
        let h' = ≼_trans (≺→≼ s) h in
        let b = steps_bounded h' in
        go k w h' (omega (arith, worth-≺ f.near (omega (arith, f.large)) s)))

-- ---- the signs first, then p² against 2q²
-- where x has no more diagonal steps, its straight ones alone are over
pub over_straight : (x y : Len) → x.diagonal ≤ y.diagonal → over x y ≡ (x.straight - y.straight) * (x.straight - y.straight)
unfolding over
over_straight x y h = omega (arith, times_zero (x.diagonal - y.diagonal) (sub-eq-zero_of_le h))

-- where x has no more straight steps, its diagonal ones alone are over
pub over_diagonal : (x y : Len) → x.straight ≤ y.straight → over x y ≡ 2 * ((x.diagonal - y.diagonal) * (x.diagonal - y.diagonal))
unfolding over
over_diagonal x y h = omega (arith, times_zero (x.straight - y.straight) (sub-eq-zero_of_le h))

-- x has p straight steps over y, and y has q diagonal ones over x, at least one: p² against 2q² decides, and they are never equal
module _ (x y : Len) (h : y.straight ≤ x.straight) (k : x.diagonal < y.diagonal) where
  -- where p² is less than 2q², x is less
  pub squares_less :
      (x.straight - y.straight) * (x.straight - y.straight) < 2 * ((y.diagonal - x.diagonal) * (y.diagonal - x.diagonal)) → x ≺ y
  squares_less l = record { less = omega (arith, over_straight x y (le_of_lt k), over_diagonal y x h) }

  -- where it is not, x is more
  pub squares_more :
      2 * ((y.diagonal - x.diagonal) * (y.diagonal - x.diagonal)) ≤ (x.straight - y.straight) * (x.straight - y.straight) → y ≺ x
  squares_more l =
      let most : y ≼ x = record { most = omega (arith, over_straight x y (le_of_lt k), over_diagonal y x h) } in
      ⊎_elim (λ (e : y ≡ x). absurd (let z = ap (λ (t : Len). t.diagonal) e in omega arith)) (λ s. s) (≼_split most)

-- ---- what the tests say
-- where the test says so, x is less than y
pub shorter-≺ : (x y : Len) → shorter x y ≡ true → x ≺ y
unfolding shorter
shorter-≺ x y e = record { less = ltb-true (over x y) (over y x) e }

-- where x is less than y, the test says so
pub ≺_shorter : {x y : Len} → x ≺ y → shorter x y ≡ true
unfolding shorter
≺_shorter {x} {y} h = lt-ltb (over x y) (over y x) h.less

-- -1 is for less
pub compare_less : {x y : Len} → x ≺ y → compare_of x y ≡ negsuc 0
unfolding compare_of
compare_less {x} {y} h = rw (lt-ltb (over x y) (over y x) h.less)

-- 0 for the same
pub compare_same : {x y : Len} → x ≡ y → compare_of x y ≡ pos 0
unfolding compare_of
compare_same {x} {y} e = rw (← e, le-ltb (over x x) (over x x) (le_refl (over x x)))

-- 1 for more
pub compare_more : {x y : Len} → y ≺ x → compare_of x y ≡ pos 1
unfolding compare_of
compare_more {x} {y} h = rw (le-ltb (over x y) (over y x) (le_of_lt h.less), lt-ltb (over y x) (over x y) h.less)

-- what each answer tells of x and y: there is no other
pub data Decided (x y : Len) : ℤ → Type 0 where
  less : x ≺ y → Decided x y (negsuc 0)
  same : x ≡ y → Decided x y (pos 0)
  more : y ≺ x → Decided x y (pos 1)

-- the comparing call decides
pub decided : (x y : Len) → Decided x y (compare_of x y)
decided x y =
    ⊎_elim
    (λ (h : x ≺ y). rw (compare_less h) (less h))
    (⊎_elim (λ (e : x ≡ y). rw (compare_same e) (same e)) (λ (h : y ≺ x). rw (compare_more h) (more h)))
    (trichotomy x y)

-- a straight step is less than a diagonal one
pub straight-≺_diagonal : pair 1 0 ≺ pair 0 1
unfolding shorter over
straight-≺_diagonal = shorter-≺ (pair 1 0) (pair 0 1) refl

-- a diagonal step is less than two straight ones
pub diagonal-≺_two : pair 0 1 ≺ pair 2 0
unfolding shorter over
diagonal-≺_two = shorter-≺ (pair 0 1) (pair 2 0) refl
