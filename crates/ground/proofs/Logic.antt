-- Small facts about tests.
-- Assumes nothing.
use mathlib.Core.Path.{◌≡◌, refl, sym, ◌∙◌}
use mathlib.Core.Bool.{Bool, true, false, ◌&&◌, ◌||◌, true≢false}
use mathlib.Core.Logic.{◌⊎◌, inl, inr}

-- a test passes or fails
pub true_or_false : (b : Bool) → (b ≡ true) ⊎ (b ≡ false)
true_or_false true = inl refl
true_or_false false = inr refl

-- and never both
pub not_both : {C : Type 0} {b : Bool} → b ≡ true → b ≡ false → C
not_both t f = absurd (true≢false (sym t ∙ f))

-- both pass, so the first does
pub and_left : (a b : Bool) → (a && b) ≡ true → a ≡ true
and_left true b h = refl
and_left false b h = h

-- both pass, so the second does
pub and_right : (a b : Bool) → (a && b) ≡ true → b ≡ true
and_right true b h = h
and_right false b h = not_both h refl

-- each passes, so both do
pub and_both : {a b : Bool} → a ≡ true → b ≡ true → (a && b) ≡ true
and_both h k = rw (h, k)

-- with one that fails both fail
pub and-false : (b : Bool) → (b && false) ≡ false
and-false true = refl
and-false false = refl

-- the first passes, so one does
pub or_left : (a b : Bool) → a ≡ true → (a || b) ≡ true
or_left a b h = rw h

-- the second passes, so one does
pub or_right : (a b : Bool) → b ≡ true → (a || b) ≡ true
or_right true b h = refl
or_right false b h = h

-- none passes, so the first does not
pub or_false_left : (a b : Bool) → (a || b) ≡ false → a ≡ false
or_false_left true b h = h
or_false_left false b h = refl

-- none passes, so the second does not
pub or_false_right : (a b : Bool) → (a || b) ≡ false → b ≡ false
or_false_right true b h = not_both refl h
or_false_right false b h = h

-- one passes: the first or the second
pub or_cases : (a b : Bool) → (a || b) ≡ true → (a ≡ true) ⊎ (b ≡ true)
or_cases true b h = inl refl
or_cases false b h = inr h
