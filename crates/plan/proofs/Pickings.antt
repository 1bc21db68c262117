-- What is picked from a list: which entries, that they ascend where the list does, and that there is just one such list. Assumes nothing.
use Prim.Native.Nat.{ℕ, zero, suc, ◌<◌}
use mathlib.Core.Bool.{Bool, true, false, cond}
use mathlib.Core.List.{List, [], ◌∷◌, ◌++◌, append-nil}
use mathlib.Core.Logic.{◌⊎◌, inl, inr, ⊎_elim}
use mathlib.Core.Path.{◌≡◌, refl, sym, ap, subst}
use native.Mathlib.Decide.{ℕ_discrete}
use native.Mathlib.Omega.{arith}
use Rattle.corners.specs.Lists.{select, Picked, none, taken, passed}
use Rattle.plan.specs.Rising.{In, Rising}
use Rattle.plan.proofs.Risings.{all_above, rising_same, above_in}

-- what stands in a list is decided by looking
pub in_dec : (t : ℕ) (xs : List ℕ) → Dec (In t xs)
in_dec t [] = no (λ i. i)
in_dec t (x ∷ xs) = by (ℕ_discrete t x) (in_dec t xs)
  where
    by : Dec (t ≡ x) → Dec (In t xs) → Dec ((t ≡ x) ⊎ In t xs)
    by (yes e) d = yes (inl e)
    by (no n) (yes i) = yes (inr i)
    by (no n) (no m) = no (⊎_elim n m)

module _ {P : ℕ → Type 0} where
  -- what is picked stood in the list and has the property
  pub picked_in : {xs ys : List ℕ} → Picked P xs ys → (t : ℕ) → In t ys → In t xs × P t
  picked_in none t i = absurd i
  picked_in (taken p k) t (inl e) = (inl e, subst P (sym e) p)
  picked_in (taken p k) t (inr i) = let r = picked_in k t i in (inr r.0, r.1)
  picked_in (passed n k) t i = let r = picked_in k t i in (inr r.0, r.1)

  -- what stands in the list and has the property is picked
  pub in_picked : {xs ys : List ℕ} → Picked P xs ys → (t : ℕ) → In t xs → P t → In t ys
  in_picked none t i p = i
  in_picked (taken q k) t (inl e) p = inl e
  in_picked (taken q k) t (inr i) p = inr (in_picked k t i p)
  in_picked (passed n k) t (inl e) p = absurd (n (subst P e p))
  in_picked (passed n k) t (inr i) p = in_picked k t i p

  -- one list is picked
  pub picked_unique : {xs ys zs : List ℕ} → Picked P xs ys → Picked P xs zs → ys ≡ zs
  picked_unique none none = refl
  picked_unique (taken {x = x} p k) (taken q l) = ap (λ (r : List ℕ). x ∷ r) (picked_unique k l)
  picked_unique (taken p k) (passed n l) = absurd (n p)
  picked_unique (passed n k) (taken p l) = absurd (n p)
  picked_unique (passed n k) (passed m l) = picked_unique k l

  -- from an ascending list an ascending one is picked
  pub picked_rising : {xs ys : List ℕ} → Picked P xs ys → Rising xs → Rising ys
  picked_rising none r = tt
  picked_rising (taken {x = x} {xs = xs} {ys = ys} p k) r =
      (all_above x ys (λ t i. above_in x t xs r.0 (picked_in k t i).0), picked_rising k r.1)
  picked_rising (passed n k) r = picked_rising k r.1

  -- where the property is decided, something is picked
  pub picked_exists : ((t : ℕ) → Dec (P t)) → (xs : List ℕ) → (ys : List ℕ) × Picked P xs ys
  picked_exists dec [] = ([], none)
  picked_exists dec (x ∷ xs) = by (dec x) (picked_exists dec xs)
    where
      by : Dec (P x) → ((ys : List ℕ) × Picked P xs ys) → (ys : List ℕ) × Picked P (x ∷ xs) ys
      by (yes p) r = (x ∷ r.0, taken p r.1)
      by (no n) r = (r.0, passed n r.1)

  -- an ascending list of just those entries that have the property is what is picked
  pub rising_picked : (xs ys : List ℕ) → Rising xs → Rising ys → ((t : ℕ) → In t ys → In t xs × P t) →
      ((t : ℕ) → In t xs → P t → In t ys) → Picked P xs ys
  rising_picked xs ys p q f g =
      subst (λ (l : List ℕ). Picked P xs l) (rising_same z.0 ys (picked_rising z.1 p) q there back) z.1
    where
      -- something is picked from numbers that all stand in xs, by looking for each in ys
      pick : (zs : List ℕ) → ((t : ℕ) → In t zs → In t xs) → (l : List ℕ) × Picked P zs l
      pick [] h = ([], none)
      pick (z ∷ zs) h = by (in_dec z ys) (pick zs (λ t i. h t (inr i)))
        where
          by : Dec (In z ys) → ((l : List ℕ) × Picked P zs l) → (l : List ℕ) × Picked P (z ∷ zs) l
          by (yes i) r = (z ∷ r.0, taken (f z i).1 r.1)
          by (no n) r = (r.0, passed (λ a. n (g z (h z (inl refl)) a)) r.1)

      -- so something is picked from xs
      z : (l : List ℕ) × Picked P xs l
      z = pick xs (λ t i. i)

      -- what was picked stands in ys
      there : (t : ℕ) → In t z.0 → In t ys
      there t i = let r = picked_in z.1 t i in g t r.0 r.1

      -- what stands in ys was picked
      back : (t : ℕ) → In t ys → In t z.0
      back t i = let r = f t i in in_picked z.1 t r.0 r.1

-- what stands in two lists one after the other
pub in_append : (t : ℕ) (xs ys : List ℕ) → In t (xs ++ ys) → In t xs ⊎ In t ys
in_append t [] ys i = inr i
in_append t (x ∷ xs) ys (inl e) = inl (inl e)
in_append t (x ∷ xs) ys (inr i) = ⊎_elim (λ k. inl (inr k)) inr (in_append t xs ys i)

-- what stands in the first of two lists stands in the two one after the other
pub in_first : (t : ℕ) (xs ys : List ℕ) → In t xs → In t (xs ++ ys)
in_first t [] ys i = absurd i
in_first t (x ∷ xs) ys (inl e) = inl e
in_first t (x ∷ xs) ys (inr i) = inr (in_first t xs ys i)

-- so does what stands in the second
pub in_second : (t : ℕ) (xs ys : List ℕ) → In t ys → In t (xs ++ ys)
in_second t [] ys i = i
in_second t (x ∷ xs) ys i = inr (in_second t xs ys i)

-- an ascending list with one more number behind it that is above them all
rising_snoc : (xs : List ℕ) (n : ℕ) → Rising xs → ((t : ℕ) → In t xs → t < n) → Rising (xs ++ (n ∷ []))
rising_snoc [] n r f = (tt, tt)
rising_snoc (x ∷ xs) n r f = (
  all_above x (xs ++ (n ∷ [])) (λ t i. ⊎_elim (λ k. above_in x t xs r.0 k) (⊎_elim (λ e. rw e (f x (inl refl))) absurd) (in_append t xs (n ∷ []) i)),
  rising_snoc xs n r.1 (λ t i. f t (inr i)),
)

-- ---- the numbers below n that pass a test
module _ (f : ℕ → Bool) where
  -- each of them is below n and passes the test
  pub select_in : (n t : ℕ) → In t (select f n) → (t < n) × (f t ≡ true)
  unfolding select
  select_in zero t i = absurd i
  select_in (suc n) t i = ⊎_elim (λ k. let r = select_in n t k in (omega (arith, r.0), r.1)) (last (f n) refl) (in_append t (select f n) (cond (f n) (n ∷ []) []) i)
    where
      -- so it is with what the last step adds: n where it passes the test, else nothing
      last : (b : Bool) → f n ≡ b → In t (cond b (n ∷ []) []) → (t < suc n) × (f t ≡ true)
      last true e (inl k) = (omega arith, rw k e)
      last true e (inr k) = absurd k
      last false e k = absurd k

  -- what is below n and passes the test is one of them
  pub in_select : (n t : ℕ) → t < n → f t ≡ true → In t (select f n)
  unfolding select
  in_select zero t l e = absurd (omega arith)
  in_select (suc n) t l e = by (λ m. in_select n t m e) (ℕ_discrete t n)
    where
      by : (t < n → In t (select f n)) → Dec (t ≡ n) → In t (select f n ++ cond (f n) (n ∷ []) [])
      by r (yes k) = in_second t (select f n) (cond (f n) (n ∷ []) []) (let g : f n ≡ true = rw (sym k) e in rw g (inl k))
      by r (no m) = in_first t (select f n) (cond (f n) (n ∷ []) []) (r (omega (arith, m)))

  -- they ascend
  pub select_rising : (n : ℕ) → Rising (select f n)
  unfolding select
  select_rising zero = tt
  select_rising (suc n) = by (select_rising n) (f n)
    where
      by : Rising (select f n) → (b : Bool) → Rising (select f n ++ cond b (n ∷ []) [])
      by r true = rising_snoc (select f n) n r (λ t i. (select_in n t i).0)
      by r false = subst Rising (sym (append-nil (select f n))) r
