-- The masks of a floor's cells: of free ones, of those beside the cells of a mask, and of turning points. Assumes nothing.
use Prim.Native.Nat.{ℕ, zero, suc, pred, ◌+◌, ◌-◌, ◌*◌, ◌/◌, ◌%◌, ◌<◌, ◌≤◌}
use mathlib.Core.Bool.{Bool, false, not, ◌&&◌, ◌||◌, and-false, and_comm, and_assoc, and-or_distrib_left, or_assoc, or_comm}
use mathlib.Core.List.{List}
use mathlib.Core.Path.{◌≡◌, refl, sym, ap, ap₂, ◌∙◌}
use native.Mathlib.Decide.{dec_lt}
use native.Mathlib.Numerals.{add-one, sub-one}
use native.Mathlib.Omega.{arith}
use lib.Bits.{bit_and, bit_or}
use lib.ListN.{get_or}
use borrow.Author.Tests.{lt-ltb, le-ltb}
use Rattle.floor.specs.Board.{Board, corner, nook}
use Rattle.masks.specs.Masks.{bit_set, Mask, Next, Last, nook_test}
use Rattle.floor.specs.Words.{bit_clear, bit_free, row_words, row_of, free_in, board, IsRow, Floor}
use Rattle.masks.proofs.Bits.{none_mask, and_bit, or_bit}
use Rattle.floor.proofs.FreeCells.{row_used}
use Rattle.floor.proofs.Places.{free_in_past, free_inside}

-- what the masks of word j and of the next say of the cells one column further on
pub next_of : (g : ℕ → Bool) (j a b r : ℕ) → Next a b r → Mask (λ i. g (suc (64 * j + i))) a →
    Mask (λ i. g (suc (64 * (j + 1) + i))) b → Mask (λ i. g (suc (suc (64 * j + i)))) r
next_of g j a b r n ma mb i l =
    n (λ k. g (suc (64 * j + k))) ma (λ k m. mb k m ∙ ap (λ x. g (suc x)) (omega arith)) i l ∙ ap (λ x. g (suc x)) (omega arith)

-- what the masks of word j and of the one before say of the cells one column before
pub last_of : (g : ℕ → Bool) (j a b r : ℕ) → (j ≡ 0 → ⊥) → Last a b r → Mask (λ i. g (suc (64 * j + i))) a →
    Mask (λ i. g (suc (64 * (j - 1) + i))) b → Mask (λ i. g (64 * j + i)) r
last_of g j a b r z n ma mb i l =
    n (λ k. g (suc (64 * (j - 1) + k))) (λ k m. ma k m ∙ ap g (omega (arith, z))) mb i l ∙ ap g (omega (arith, z))

-- the same where there is none before: column 0 is outside
pub last_first : (g : ℕ → Bool) (j a r : ℕ) → j ≡ 0 → g 0 ≡ false → Last a 0 r → Mask (λ i. g (suc (64 * j + i))) a →
    Mask (λ i. g (64 * j + i)) r
last_first g j a r e z n ma i l =
    n (λ k. g (k - 63)) (λ k m. ma k m ∙ ap g (omega arith)) (none_mask _ (λ k m. sym z ∙ ap g (omega arith))) i l ∙ ap g (omega arith)

module _ (w h : ℕ) (words : List ℕ) where
  -- a place past the last column is outside
  pub free_beyond : (x y : ℕ) → w < x → false ≡ board w h words x y
  unfolding board
  free_beyond x zero l = refl
  free_beyond x (suc y) l = rw (← free_in_past w (row_of w words y) x l, and-false)

  -- a bit of a row's words is 0 where the cell is free, and 1 past the last cell
  bit_free_lem : Floor w h words → (x y : ℕ) → y < h → x < 64 * row_words w → bit_free (row_of w words y) x ≡ free_in w (row_of w words y) (suc x)
  unfolding free_in
  bit_free_lem f x y ly lx = by (dec_lt x w)
    where
      by : Dec (x < w) → bit_free (row_of w words y) x ≡ free_in w (row_of w words y) (suc x)
      by (yes l) = rw (lt-ltb x w l)
      by (no n) =
          let l : w ≤ x = omega (arith, n) in
          rw (le-ltb x w l) (row_used w h words f y ly x l lx)

  -- a bit of word j of row y that is not 1 is that of a free cell
  pub free_bit : (y j : ℕ) (row : List ℕ) → Floor w h words → (y ≡ 0 → ⊥) → y ≤ h → j < row_words w →
      IsRow w words (y - 1) row → (i : ℕ) → i < 64 → bit_clear (get_or row j 0) i ≡ board w h words (suc (64 * j + i)) y
  free_bit y j row f n ly lj r i l =
      let word : j ≡ (64 * j + i) / 64 = omega arith in
      let bit : i ≡ (64 * j + i) % 64 = omega arith in
      ap₂ (λ a b. bit_clear (get_or row a 0) b) word bit
      ∙ rw r.same (bit_free_lem f (64 * j + i) (y - 1) (omega (arith, n)) (omega arith))
      ∙ free_inside w h words y (row_of w words (y - 1)) n ly refl (suc (64 * j + i))

-- the order of three tests turned round
turn : (a b c : Bool) → (a && (b && c)) ≡ (c && (b && a))
turn a b c = and_comm a (b && c) ∙ ap (λ t. t && a) (and_comm b c) ∙ and_assoc c b a

-- the two nooks of a side
two_nooks : (side e w e' w' : Bool) → (side && (e && e' || w && w')) ≡ (e' && (e && side) || w' && (w && side))
two_nooks side e w e' w' = and-or_distrib_left side (e && e') (w && w') ∙ ap₂ ◌||◌ (turn side e e') (turn side w w')

-- four tests, the second last
second_last : (a b c d : Bool) → (a || d || (b || c)) ≡ (a || (b || (c || d)))
second_last a b c d = or_assoc a d (b || c) ∙ ap (λ t. a || t) (or_comm d (b || c) ∙ or_assoc b c d)

-- the nooks of the two sides are the four of a turning point, in its order
four_nooks : (n s e w ne se sw nw : Bool) →
    (n && (e && ne || w && nw) || s && (e && se || w && sw)) ≡ (ne && (e && n) || (se && (e && s) || (sw && (w && s) || nw && (w && n))))
four_nooks n s e w ne se sw nw =
    ap₂ ◌||◌ (two_nooks n e w ne nw) (two_nooks s e w se sw) ∙ second_last (ne && (e && n)) (se && (e && s)) (sw && (w && s)) (nw && (w && n))

-- a free place with a nook on its north or its south side is a turning point
corner_sides : (B : Board) (x y : ℕ) →
    (B (suc x) y
    && (nook_test (B (suc x) (pred y)) (B (suc (suc x)) y) (B x y) (B (suc (suc x)) (pred y)) (B x (pred y))
    || nook_test (B (suc x) (suc y)) (B (suc (suc x)) y) (B x y) (B (suc (suc x)) (suc y)) (B x (suc y))))
    ≡ corner B (record { x = suc x; y = y })
unfolding corner nook
corner_sides B x y =
    ap (λ t. B (suc x) y && t)
    (four_nooks (B (suc x) (pred y)) (B (suc x) (suc y)) (B (suc (suc x)) y) (B x y) (not (B (suc (suc x)) (pred y))) (not (B (suc (suc x)) (suc y)))
    (not (B x (suc y))) (not (B x (pred y))))

-- the same of the bits of words, m for the places themselves, n and s for the nooks on their two sides
pub corner_bit : (B : Board) (x y m n s i : ℕ) (e w : Bool) → bit_set m i ≡ B (suc x) y → e ≡ B (suc (suc x)) y → w ≡ B x y →
    bit_set n i ≡ nook_test (B (suc x) (y - 1)) e w (B (suc (suc x)) (y - 1)) (B x (y - 1)) →
    bit_set s i ≡ nook_test (B (suc x) (y + 1)) e w (B (suc (suc x)) (y + 1)) (B x (y + 1)) →
    bit_set (bit_and m (bit_or n s)) i ≡ corner B (record { x = suc x; y = y })
corner_bit B x y m n s i e w here east west north south =
    and_bit m (bit_or n s) i ∙ ap₂ ◌&&◌ here (or_bit n s i ∙ ap₂ ◌||◌ north south) ∙ rw (east, west, sub-one, add-one) (corner_sides B x y)
