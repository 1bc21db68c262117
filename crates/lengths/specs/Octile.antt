-- Laws of the octile distance. Assumes nothing.
use Rattle.std.specs.Prelude.{ℕ, suc, ◌+◌, ◌*◌, ◌-◌, ◌<◌, ◌≤◌, ◌≡◌}
use Rattle.std.proofs.Common.{sym, ap, ap₂, ⊎_elim, mul-le-mul_left, mul-le-mul_right, sub-add_cancel, le_of_eq, le_of_lt, arith}
use Rattle.lengths.specs.Lengths.{pair, 𝟎, ◌⊕◌, ◌≼◌, octile_of, gap}
use Rattle.lengths.specs.Fraction.{Near}
use Rattle.lengths.specs.Laws.{le_or_lt, same_pair, worth, weight, ≼_by_worth, ≼_trans}

-- larger times larger and smaller times smaller make the larger sum
cross : {a b c d : ℕ} → a ≤ b → c ≤ d → a * d + b * c ≤ a * c + b * d
cross {a} {b} {c} {d} h k = omega (arith, mul-le-mul_right (d - c) h, ap (λ (t : ℕ). a * t) (sub-add_cancel k), ap (λ (t : ℕ). b * t) (sub-add_cancel k))

-- the two offsets may be exchanged
pub octile_comm : (dx dy : ℕ) → octile_of dx dy ≡ octile_of dy dx
octile_comm dx dy = same_pair (omega arith) (omega arith)

-- where dx is the smaller, dx steps are diagonal
pub octile_tall : {dx dy : ℕ} → dx ≤ dy → octile_of dx dy ≡ pair (dy - dx) dx
octile_tall h = same_pair (omega arith) (omega arith)

-- and where dy is
pub octile_wide : {dx dy : ℕ} → dy ≤ dx → octile_of dx dy ≡ pair (dx - dy) dy
octile_wide h = same_pair (omega arith) (omega arith)

-- With m / n just above √2, the octile distance is the larger of dx + (√2 − 1) dy and dy + (√2 − 1) dx
module _ {m n : ℕ} (f : Near m n) where
  -- what the octile distance is worth where dy is the smaller offset
  wide_worth : {dx dy : ℕ} → dy ≤ dx → worth m n (octile_of dx dy) + n * dy ≡ n * dx + m * dy
  wide_worth {dx} {dy} h =
      omega (arith, ap (worth m n) (octile_wide h), ap (λ (t : ℕ). n * t) (sub-add_cancel h))

  -- and it is never worth less than that
  least_worth : (dx dy : ℕ) → n * dx + m * dy ≤ worth m n (octile_of dx dy) + n * dy
  least_worth dx dy = ⊎_elim (λ h. le_of_eq (sym (wide_worth h))) steep (le_or_lt dy dx)
    where
      steep : dx < dy → n * dx + m * dy ≤ worth m n (octile_of dx dy) + n * dy
      steep h =
          omega (
            arith,
            ap (worth m n) (octile_tall (le_of_lt h)),
            ap (λ (t : ℕ). n * t) (sub-add_cancel (le_of_lt h)),
            ap (λ (t : ℕ). m * t) (sub-add_cancel (le_of_lt h)),
            mul-le-mul_right (dy - dx) (le_of_lt f.two),
          )

  -- two distances one after the other are worth no less than the distance of both, where this is wide
  triangle_wide : (dx dy ex ey : ℕ) → dy + ey ≤ dx + ex → worth m n (octile_of (dx + ex) (dy + ey)) ≤ worth m n (octile_of dx dy ⊕ octile_of ex ey)
  triangle_wide dx dy ex ey h = omega (arith, wide_worth h, least_worth dx dy, least_worth ex ey)

  -- larger offsets are worth no less, where the smaller ones are wide
  grow_wide : (dx dy ex ey : ℕ) → dx ≤ ex → dy ≤ ey → dy ≤ dx → worth m n (octile_of dx dy) ≤ worth m n (octile_of ex ey)
  grow_wide dx dy ex ey h k l = omega (arith, wide_worth l, least_worth ex ey, mul-le-mul_left n h, cross (le_of_lt f.one) k)

-- both offsets as in the statement, or turned round
turned : {A : Type 0} (dx dy : ℕ) → (dy ≤ dx → A) → (dx ≤ dy → A) → A
turned dx dy f g = ⊎_elim f (λ h. g (le_of_lt h)) (le_or_lt dy dx)

-- no way round is shorter, by offsets
pub octile_triangle : (dx dy ex ey : ℕ) → octile_of (dx + ex) (dy + ey) ≼ octile_of dx dy ⊕ octile_of ex ey
octile_triangle dx dy ex ey =
    ≼_by_worth _ _ (λ m n f. turned (dx + ex) (dy + ey) (triangle_wide f dx dy ex ey)
    (λ h. omega (
      arith,
      triangle_wide f dy dx ey ex h,
      ap (worth m n) (octile_comm (dx + ex) (dy + ey)),
      ap (worth m n) (octile_comm dx dy),
      ap (worth m n) (octile_comm ex ey),
    )))

-- larger offsets are no nearer
pub octile_grows : {dx dy ex ey : ℕ} → dx ≤ ex → dy ≤ ey → octile_of dx dy ≼ octile_of ex ey
octile_grows {dx} {dy} {ex} {ey} h k =
    ≼_by_worth _ _ (λ m n f. turned dx dy (grow_wide f dx dy ex ey h k)
    (λ l. omega (arith, grow_wide f dy dx ey ex k h l, ap (worth m n) (octile_comm dx dy), ap (worth m n) (octile_comm ex ey))))

-- where the octile distance weighs nothing, both offsets are 0
pub octile_none : (dx dy : ℕ) → weight (octile_of dx dy) ≤ 0 → (dx ≡ 0) × (dy ≡ 0)
octile_none dx dy h = omega arith

-- ---- the offset of two coordinates
-- it is the same both ways
pub gap_comm : (a b : ℕ) → gap a b ≡ gap b a
gap_comm a b = omega arith

-- and the same for the padded coordinates
pub gap_suc : (a b : ℕ) → gap a b ≡ gap (suc a) (suc b)
gap_suc a b = omega arith

-- where it is 0 the two are one
pub gap_none : (a b : ℕ) → gap a b ≡ 0 → a ≡ b
gap_none a b e = omega arith

-- ---- the distance of two places, by their coordinates
-- a place is at no distance from itself
pub distance_self : (ax ay : ℕ) → octile_of (gap ax ax) (gap ay ay) ≡ 𝟎
distance_self ax ay = same_pair (omega arith) (omega arith)

-- the distance is the same both ways
pub distance_comm : (ax ay bx by : ℕ) → octile_of (gap ax bx) (gap ay by) ≡ octile_of (gap bx ax) (gap by ay)
distance_comm ax ay bx by = ap₂ octile_of (gap_comm ax bx) (gap_comm ay by)

-- no way round is shorter
pub distance_triangle : (ax ay bx by cx cy : ℕ) →
    octile_of (gap ax cx) (gap ay cy) ≼ octile_of (gap ax bx) (gap ay by) ⊕ octile_of (gap bx cx) (gap by cy)
distance_triangle ax ay bx by cx cy =
    ≼_trans (octile_grows (omega arith) (omega arith)) (octile_triangle (gap ax bx) (gap ay by) (gap bx cx) (gap by cy))
