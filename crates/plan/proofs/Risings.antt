-- Strictly ascending lists are told by what stands in them. Assumes nothing.
use Prim.Native.Nat.{ℕ, zero, suc, ◌≤◌, ◌<◌}
use mathlib.Core.Bool.{Bool, true, false, cond}
use mathlib.Core.List.{List, [], ◌∷◌}
use mathlib.Core.Logic.{◌⊎◌, inl, inr, ⊎_elim}
use mathlib.Core.Path.{◌≡◌, refl, ap, ap₂}
use native.Mathlib.Decide.{ℕ_discrete}
use native.Mathlib.Omega.{arith}
use lib.Dec.{ltb, eqb}
use lib.ListN.{length, get_or}
use borrow.Author.Tests.{ltb-true, ltb-false, eqb-true, eqb-false}
use Rattle.plan.specs.Rising.{In, Above, Rising, insertion}

-- an entry of a list stands in it
pub at_in : (xs : List ℕ) (i : ℕ) → i < length xs → In (get_or xs i 0) xs
at_in [] i l = absurd (omega arith)
at_in (x ∷ xs) zero l = inl refl
at_in (x ∷ xs) (suc i) l = inr (at_in xs i (omega arith))

-- what stands in a list whose entries are above a is above a
pub above_in : (a t : ℕ) (xs : List ℕ) → Above a xs → In t xs → a < t
above_in a t [] h i = absurd i
above_in a t (x ∷ xs) h (inl e) = rw e h.0
above_in a t (x ∷ xs) h (inr i) = above_in a t xs h.1 i

-- what is above b is above each number up to b
pub above_less : (a b : ℕ) (xs : List ℕ) → a ≤ b → Above b xs → Above a xs
above_less a b [] l h = tt
above_less a b (x ∷ xs) l h = let m = h.0 in (omega arith, above_less a b xs l h.1)

-- entries that are all above a
pub all_above : (a : ℕ) (xs : List ℕ) → ((t : ℕ) → In t xs → a < t) → Above a xs
all_above a [] f = tt
all_above a (x ∷ xs) f = (f x (inl refl), all_above a xs (λ t i. f t (inr i)))

-- in an ascending list each entry is below the later ones
pub rising_later : (xs : List ℕ) → Rising xs → (i j : ℕ) → i < j → j < length xs → get_or xs i 0 < get_or xs j 0
rising_later [] r i j l m = absurd (omega arith)
rising_later (x ∷ xs) r i zero l m = absurd (omega arith)
rising_later (x ∷ xs) r zero (suc j) l m = above_in x (get_or xs j 0) xs r.0 (at_in xs j (omega arith))
rising_later (x ∷ xs) r (suc i) (suc j) l m = rising_later xs r.1 i j (omega arith) (omega arith)

-- a list in which each entry is below the next ascends
pub steps_rising : (xs : List ℕ) → ((i : ℕ) → suc i < length xs → get_or xs i 0 < get_or xs (suc i) 0) → Rising xs
steps_rising [] f = tt
steps_rising (x ∷ []) f = (tt, tt)
steps_rising (x ∷ y ∷ ys) f =
    let l = f 0 (omega arith) in
    let r = steps_rising (y ∷ ys) (λ i m. f (suc i) (omega arith)) in
    ((l, above_less x y ys (omega arith) r.0), r)

-- the first of an ascending list that has all of another's entries is no later than the other's first
first_le : (x y : ℕ) (xs ys : List ℕ) → Above x xs → In y (x ∷ xs) → x ≤ y
first_le x y xs ys h (inl e) = omega arith
first_le x y xs ys h (inr i) = let l = above_in x y xs h i in omega arith

-- what stands after the first of an ascending list is not the first
pub in_tail : (x t : ℕ) (xs : List ℕ) → x < t → In t (x ∷ xs) → In t xs
in_tail x t xs l (inl e) = absurd (omega arith)
in_tail x t xs l (inr i) = i

-- two ascending lists in which the same numbers stand are the same
pub rising_same : (xs ys : List ℕ) → Rising xs → Rising ys → ((t : ℕ) → In t xs → In t ys) → ((t : ℕ) → In t ys → In t xs) → xs ≡ ys
rising_same [] [] p q f g = refl
rising_same [] (y ∷ ys) p q f g = absurd (g y (inl refl))
rising_same (x ∷ xs) [] p q f g = absurd (f x (inl refl))
rising_same (x ∷ xs) (y ∷ ys) p q f g =
    let l : y ≤ x = first_le y x ys xs q.0 (f x (inl refl)) in
    let m : x ≤ y = first_le x y xs ys p.0 (g y (inl refl)) in
    let e : x ≡ y = omega arith in
    ap₂ ◌∷◌ e
    (rising_same xs ys p.1 q.1
    (λ t i. in_tail y t ys (let k = above_in x t xs p.0 i in omega arith) (f t (inr i)))
    (λ t i. in_tail x t xs (let k = above_in y t ys q.0 i in omega arith) (g t (inr i))))

-- an ascending list all of whose entries stand in another is no longer
pub rising_fewer : (xs ys : List ℕ) → Rising xs → Rising ys → ((t : ℕ) → In t xs → In t ys) → length xs ≤ length ys
rising_fewer [] ys p q f = omega arith
rising_fewer (x ∷ xs) [] p q f = absurd (f x (inl refl))
rising_fewer (x ∷ xs) (y ∷ ys) p q f =
    let m : length xs ≤ length ys = rising_fewer xs ys p.1 q.1 (λ t i. in_tail y t ys (later t i) (f t (inr i))) in
    omega arith
  where
    -- what stands after the first of the one is above the first of the other
    later : (t : ℕ) → In t xs → y < t
    later t i =
        let k = above_in x t xs p.0 i in
        let l = first_le y x ys xs q.0 (f x (inl refl)) in
        omega arith

-- and it is the same where it is as long
pub rising_equal : (xs ys : List ℕ) → Rising xs → Rising ys → ((t : ℕ) → In t xs → In t ys) → length xs ≡ length ys → xs ≡ ys
rising_equal [] [] p q f e = refl
rising_equal [] (y ∷ ys) p q f e = absurd (omega arith)
rising_equal (x ∷ xs) [] p q f e = absurd (omega arith)
rising_equal (x ∷ xs) (y ∷ ys) p q f e =
    ap₂ ◌∷◌ same
    (rising_equal xs ys p.1 q.1 (λ t i. in_tail y t ys (let k = above_in x t xs p.0 i in omega (arith, first)) (f t (inr i))) (omega arith))
  where
    -- the first of the other is not above the first of the one
    first : y ≤ x
    first = first_le y x ys xs q.0 (f x (inl refl))

    -- if it were below, the one would be no longer than the other without its first
    fewer : y < x → length (x ∷ xs) ≤ length ys
    fewer l = rising_fewer (x ∷ xs) ys p q.1 (λ t i. in_tail y t ys (let k = first_le x t xs ys p.0 i in omega arith) (f t i))

    by : Dec (x ≡ y) → x ≡ y
    by (yes g) = g
    by (no n) = let few = fewer (omega (arith, n, first)) in absurd (omega arith)

    -- so both begin with the same number
    same : x ≡ y
    same = by (ℕ_discrete x y)

-- ---- a number put in its place
-- what stands in a list with t put in: t, and what stood there
pub in_inserted : (t : ℕ) (xs : List ℕ) → In t (insertion t xs)
unfolding insertion
in_inserted t [] = inl refl
in_inserted t (x ∷ xs) = by (in_inserted t xs) (ltb t x) (eqb t x) refl
  where
    by : In t (insertion t xs) → (b c : Bool) → eqb t x ≡ c → In t (cond b (t ∷ x ∷ xs) (cond c (x ∷ xs) (x ∷ insertion t xs)))
    by r true c e = inl refl
    by r false true e = inl (eqb-true t x e)
    by r false false e = inr r

-- what stood in the list still stands in it with t put in
pub still_in : (u t : ℕ) (xs : List ℕ) → In u xs → In u (insertion t xs)
unfolding insertion
still_in u t [] i = absurd i
still_in u t (x ∷ xs) i = by (λ k. still_in u t xs k) (ltb t x) (eqb t x) i
  where
    by : (In u xs → In u (insertion t xs)) → (b c : Bool) → In u (x ∷ xs) → In u (cond b (t ∷ x ∷ xs) (cond c (x ∷ xs) (x ∷ insertion t xs)))
    by r true c i = inr i
    by r false true i = i
    by r false false (inl e) = inl e
    by r false false (inr i) = inr (r i)

-- what stands in it with t put in is t, or stood there before
pub was_in : (u t : ℕ) (xs : List ℕ) → In u (insertion t xs) → (u ≡ t) ⊎ In u xs
unfolding insertion
was_in u t [] (inl e) = inl e
was_in u t [] (inr i) = absurd i
was_in u t (x ∷ xs) i = by (λ k. was_in u t xs k) (ltb t x) (eqb t x) i
  where
    by : (In u (insertion t xs) → (u ≡ t) ⊎ In u xs) → (b c : Bool) → In u (cond b (t ∷ x ∷ xs) (cond c (x ∷ xs) (x ∷ insertion t xs))) → (u ≡ t) ⊎ In u (x ∷ xs)
    by r true c (inl e) = inl e
    by r true c (inr i) = inr i
    by r false true i = inr i
    by r false false (inl e) = inr (inl e)
    by r false false (inr i) = ⊎_elim inl (λ k. inr (inr k)) (r i)

-- if it is new, the list has one entry more
pub inserted_longer : (t : ℕ) (xs : List ℕ) → ¬ (In t xs) → length (insertion t xs) ≡ suc (length xs)
unfolding insertion
inserted_longer t [] n = refl
inserted_longer t (x ∷ xs) n = by (inserted_longer t xs (λ i. n (inr i))) (ltb t x) (eqb t x) refl
  where
    by : length (insertion t xs) ≡ suc (length xs) → (b c : Bool) → eqb t x ≡ c →
        length (cond b (t ∷ x ∷ xs) (cond c (x ∷ xs) (x ∷ insertion t xs))) ≡ suc (suc (length xs))
    by r true c e = refl
    by r false true e = absurd (n (inl (eqb-true t x e)))
    by r false false e = ap suc r

-- put in its place, it leaves the list ascending
pub rising_inserted : (t : ℕ) (xs : List ℕ) → Rising xs → Rising (insertion t xs)
unfolding insertion
rising_inserted t [] p = (tt, tt)
rising_inserted t (x ∷ xs) p = by (rising_inserted t xs p.1) (ltb t x) (eqb t x) refl refl
  where
    by : Rising (insertion t xs) → (b c : Bool) → ltb t x ≡ b → eqb t x ≡ c → Rising (cond b (t ∷ x ∷ xs) (cond c (x ∷ xs) (x ∷ insertion t xs)))
    by r true c e f = let l = ltb-true t x e in ((l, above_less t x xs (omega arith) p.0), p)
    by r false true e f = p
    by r false false e f = (
      all_above x (insertion t xs)
          (λ u i. ⊎_elim (λ k. let l = ltb-false t x e in let n = eqb-false t x f in omega (arith, n)) (λ k. above_in x u xs p.0 k) (was_in u t xs i)),
      r,
    )
