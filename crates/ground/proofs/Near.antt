-- Two directions are near if they stand at no more than 45 degrees: on neither axis do they go opposite ways, and on one they go the same way.
-- Assumes nothing.
use mathlib.Core.Path.{◌≡◌, refl, ◌∙◌, ap}
use mathlib.Core.Bool.{Bool, true, false, ◌||◌}
use mathlib.Core.Logic.{◌⊎◌, inl, inr, ⊎_elim}
use Prim.Native.Nat.{ℕ, ◌<◌}
use Rattle.floor.specs.Board.{Place, Dir, Offset, less, same, more, dx, dy, shift, go, moving}
use Rattle.ground.proofs.Logic.{true_or_false, not_both, or_left, or_right}
use Rattle.ground.proofs.Tables.{each, offset}
use Rattle.ground.proofs.Cells.{back, back_undoes}
use Rattle.ground.proofs.Walks.{place_eq}

-- two offsets go opposite ways
abbrev pub opposite : Offset → Offset → Bool
opposite less less = false
opposite less same = false
opposite less more = true
opposite same o = false
opposite more less = true
opposite more same = false
opposite more more = false

-- two offsets move the same way
abbrev pub agree : Offset → Offset → Bool
agree less less = true
agree less same = false
agree less more = false
agree same o = false
agree more less = false
agree more same = false
agree more more = true

-- two directions stand at no more than 45 degrees
pub record Near (a b : Dir) : Type 0 where
  pub level : opposite (dx a) (dx b) ≡ false
  pub upright : opposite (dy a) (dy b) ≡ false
  pub along : (agree (dx a) (dx b) || agree (dy a) (dy b)) ≡ true

-- what it means to go opposite ways: each moves, and the second undoes the first
pub record Opposite (o o' : Offset) : Type 0 where
  pub is_back : o' ≡ back o
  pub first_moves : moving o ≡ true
  pub second_moves : moving o' ≡ true

-- opposite offsets are so
pub opposite_means : (o o' : Offset) → opposite o o' ≡ true → Opposite o o'
opposite_means less less h = not_both h refl
opposite_means less same h = not_both h refl
opposite_means less more h = record { is_back = refl; first_moves = refl; second_moves = refl }
opposite_means same o h = not_both h refl
opposite_means more less h = record { is_back = refl; first_moves = refl; second_moves = refl }
opposite_means more same h = not_both h refl
opposite_means more more h = not_both h refl

-- a step and one opposite to it lead back
pub home : (o o' : Offset) (n : ℕ) → opposite o o' ≡ true → 0 < n → shift o' (shift o n) ≡ n
home o o' n h p = ap (λ (k : Offset). shift k (shift o n)) (opposite_means o o' h).is_back ∙ back_undoes o p

-- what it means to move the same way
pub record Agree (o o' : Offset) : Type 0 where
  pub is_same : o ≡ o'
  pub first_moves : moving o ≡ true
  pub second_moves : moving o' ≡ true

-- offsets that agree do so
pub agree_means : (o o' : Offset) → agree o o' ≡ true → Agree o o'
agree_means less less h = record { is_same = refl; first_moves = refl; second_moves = refl }
agree_means less same h = not_both h refl
agree_means less more h = not_both h refl
agree_means same o h = not_both h refl
agree_means more less h = not_both h refl
agree_means more same h = not_both h refl
agree_means more more h = record { is_same = refl; first_moves = refl; second_moves = refl }

-- neither opposite nor the same way: one of the two stands still
pub one_still : (o o' : Offset) → opposite o o' ≡ false → agree o o' ≡ false → (moving o ≡ false) ⊎ (moving o' ≡ false)
one_still less less h k = not_both refl k
one_still less same h k = inr refl
one_still less more h k = not_both refl h
one_still same o h k = inl refl
one_still more less h k = not_both refl h
one_still more same h k = inr refl
one_still more more h k = not_both refl k

-- a way is kept: what moves and does not go against it goes along it
pub follows : (w o : Offset) → moving w ≡ true → opposite w o ≡ false → moving o ≡ true → o ≡ w
follows less less m h n = refl
follows less same m h n = not_both n refl
follows less more m h n = not_both refl h
follows same o m h n = not_both m refl
follows more less m h n = not_both refl h
follows more same m h n = not_both n refl
follows more more m h n = refl

-- two that do not go against one way are not opposite
pub same_way : (w o o' : Offset) → moving w ≡ true → opposite w o ≡ false → opposite w o' ≡ false → opposite o o' ≡ false
same_way w same o' m h k = refl
same_way less less o' m h k = k
same_way less more o' m h k = not_both refl h
same_way same less o' m h k = not_both m refl
same_way same more o' m h k = not_both m refl
same_way more less o' m h k = not_both refl h
same_way more more o' m h k = k

-- what moves agrees with itself
agree_self : (o : Offset) → moving o ≡ true → agree o o ≡ true
agree_self less m = refl
agree_self same m = m
agree_self more m = refl

-- two that move and do not go against one way agree
pub same_way_agrees : (w o o' : Offset) → moving w ≡ true → opposite w o ≡ false → opposite w o' ≡ false → moving o ≡ true →
    moving o' ≡ true → agree o o' ≡ true
same_way_agrees w o o' m h k p q = rw (follows w o m h p, follows w o' m k q) (agree_self w m)

-- offsets that are not opposite may change places
shift_exchange : (o o' : Offset) (n : ℕ) → opposite o o' ≡ false → shift o (shift o' n) ≡ shift o' (shift o n)
shift_exchange less less n h = refl
shift_exchange less same n h = refl
shift_exchange less more n h = not_both refl h
shift_exchange same o' n h = refl
shift_exchange more less n h = not_both refl h
shift_exchange more same n h = refl
shift_exchange more more n h = refl

-- steps that are on neither axis opposite lead to the same place in either order
pub unopposed_meet : (a b : Dir) (s : Place) → opposite (dx a) (dx b) ≡ false → opposite (dy a) (dy b) ≡ false → go a (go b s) ≡ go b (go a s)
unopposed_meet a b s p q = place_eq (shift_exchange (dx a) (dx b) s.x p) (shift_exchange (dy a) (dy b) s.y q)

-- so do near steps
pub near_meet : (a b : Dir) (s : Place) → Near a b → go a (go b s) ≡ go b (go a s)
near_meet a b s n = unopposed_meet a b s n.level n.upright

-- no direction stands still on both axes
pub x_moves : (d : Dir) → moving (dy d) ≡ false → moving (dx d) ≡ true
x_moves =
    each (λ d. moving (dy d) ≡ false → moving (dx d) ≡ true)
    (not_both refl) (λ h. refl) (not_both refl) (λ h. refl) (λ h. refl) (λ h. refl) (λ h. refl) (λ h. refl)

-- nor the other way round
pub y_moves : (d : Dir) → moving (dx d) ≡ false → moving (dy d) ≡ true
y_moves =
    each (λ d. moving (dx d) ≡ false → moving (dy d) ≡ true)
    (λ h. refl) (not_both refl) (λ h. refl) (not_both refl) (λ h. refl) (λ h. refl) (λ h. refl) (λ h. refl)

-- nothing is opposite to itself
opposite_self : (o : Offset) → opposite o o ≡ false
opposite_self = offset (λ o. opposite o o ≡ false) refl refl refl

-- every direction is near itself
pub near_self : (d : Dir) → Near d d
near_self d =
    record {
      level = opposite_self (dx d);
      upright = opposite_self (dy d);
      along = ⊎_elim (λ m. or_left (agree (dx d) (dx d)) (agree (dy d) (dy d)) (agree_self (dx d) m))
          (λ m. or_right (agree (dx d) (dx d)) (agree (dy d) (dy d)) (agree_self (dy d) (y_moves d m)))
          (true_or_false (moving (dx d)));
    }
