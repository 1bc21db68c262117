-- The numbers below n that pass a test, one number at a time. Assumes nothing.
use Prim.Native.Nat.{ℕ, zero, suc, ◌+◌, ◌≤◌, ◌<◌}
use mathlib.Core.Bool.{Bool, true, false, cond}
use mathlib.Core.List.{List, [], ◌∷◌, ◌++◌, append-nil, append_assoc}
use mathlib.Core.Path.{◌≡◌, refl, sym, ap, ◌∙◌}
use native.Mathlib.Decide.{ℕ_discrete}
use native.Mathlib.Nat.{add-zero}
use native.Mathlib.Numerals.{add-one}
use native.Mathlib.Omega.{arith}
use lib.ListN.{length, get_or, set, take, drop, length-append, length-drop}
use lib.Seq.{drop-cons, append_snoc, set-append_seam, take-suc, get_or-append_seam}
use Rattle.corners.specs.Lists.{written, select}

module _ (f : ℕ → Bool) where
  -- none is below 0
  pub select_none : select f 0 ≡ []
  unfolding select
  select_none = refl

  -- the next number passes
  pub select_taken : (n : ℕ) → f n ≡ true → select f (n + 1) ≡ select f n ++ (n ∷ [])
  unfolding select
  select_taken n e = rw (add-one, e)

  -- the next number does not
  pub select_passed : (n : ℕ) → f n ≡ false → select f (n + 1) ≡ select f n
  unfolding select
  select_passed n e = rw (add-one, e, append-nil)

  -- those below m come first
  pub select_first : (m n : ℕ) → m ≤ n → (rest : List ℕ) × (select f n ≡ select f m ++ rest)
  unfolding select
  select_first m zero l = ([], let e : m ≡ 0 = omega arith in rw e)
  select_first m (suc n) l = by (λ k. select_first m n k) (ℕ_discrete m (suc n))
    where
      by : (m ≤ n → (rest : List ℕ) × (select f n ≡ select f m ++ rest)) → Dec (m ≡ suc n) → (rest : List ℕ) × (select f (suc n) ≡ select f m ++ rest)
      by g (yes e) = ([], rw (e, append-nil))
      by g (no k) = let (rest, e) = g (omega (arith, k)) in (rest ++ cond (f n) (n ∷ []) [], rw (e, append_assoc))

  -- where none of the next i numbers passes they are all
  pub select_same : (n i : ℕ) → ((j : ℕ) → j < i → f (n + j) ≡ false) → select f (n + i) ≡ select f n
  select_same n zero e = ap (select f) (add-zero n)
  select_same n (suc i) e =
      let next : n + suc i ≡ (n + i) + 1 = omega arith in
      ap (select f) next ∙ select_passed (n + i) (e i (omega arith)) ∙ select_same n i (λ j l. e j (omega arith))

  -- those below m are no more than those below n
  pub select_grows : (m n : ℕ) → m ≤ n → length (select f m) ≤ length (select f n)
  select_grows m n l = let (rest, e) = select_first m n l in omega (arith, ap length e, length-append (select f m) rest)

  -- there are at most n
  pub select_few : (n : ℕ) → length (select f n) ≤ n
  unfolding select
  select_few zero = omega arith
  select_few (suc n) = rw length-append (by (f n) (select_few n))
    where
      by : (b : Bool) → length (select f n) ≤ n → length (select f n) + length (cond b (n ∷ []) []) ≤ suc n
      by true l = omega arith
      by false l = omega arith

  -- then there is one more
  pub length_taken : (n : ℕ) → f n ≡ true → length (select f (n + 1)) ≡ length (select f n) + 1
  length_taken n e = ap length (select_taken n e) ∙ length-append (select f n) (n ∷ [])

  -- or there are as many
  pub length_passed : (n : ℕ) → f n ≡ false → length (select f (n + 1)) ≡ length (select f n)
  length_passed n e = ap length (select_passed n e)

  -- a number that passes stands after those below it
  pub select_split : (m n : ℕ) → m < n → f m ≡ true → (rest : List ℕ) × (select f n ≡ select f m ++ m ∷ rest)
  select_split m n l e =
      let (rest, s) = select_first (m + 1) n (omega arith) in
      (rest, s ∙ ap (λ xs. xs ++ rest) (select_taken m e) ∙ append_snoc (select f m) m rest)

  -- so they are fewer
  pub select_fewer : (m n : ℕ) → m < n → f m ≡ true → length (select f m) < length (select f n)
  select_fewer m n l e =
      let (rest, s) = select_split m n l e in
      omega (arith, ap length s, length-append (select f m) (m ∷ rest))

  -- and it is the entry at their number
  pub select_entry : (m n : ℕ) → m < n → f m ≡ true → get_or (select f n) (length (select f m)) 0 ≡ m
  select_entry m n l e =
      let (rest, s) = select_split m n l e in
      ap (λ xs. get_or xs (length (select f m)) 0) s ∙ get_or-append_seam (select f m) m rest 0

-- ---- one entry more of a list that is written, or read
-- a list keeps its length when its first entries are written over
pub written_long : (xs lent : List ℕ) → length xs ≤ length lent → length (written xs lent) ≡ length lent
written_long xs lent l = simp (length-append, length-drop) (omega arith)

-- writing the next entry
pub written_more : (xs lent : List ℕ) (n : ℕ) → length xs < length lent → set (written xs lent) (length xs) n ≡ written (xs ++ (n ∷ [])) lent
written_more xs lent n l =
    ap (λ t. set (xs ++ t) (length xs) n) (drop-cons lent (length xs) 0 l)
    ∙ set-append_seam xs (get_or lent (length xs) 0) (drop (suc (length xs)) lent) n
    ∙ ap (λ m. xs ++ n ∷ drop m lent) (sym (length-append xs (n ∷ []) ∙ add-one (length xs)))
    ∙ sym (append_snoc xs n (drop (length (xs ++ (n ∷ []))) lent))

-- reading the next entry
pub take_more : (xs ys : List ℕ) (k n : ℕ) → take k xs ≡ ys → k < length xs → get_or xs k 0 ≡ n → take (k + 1) xs ≡ ys ++ (n ∷ [])
take_more xs ys k n t l e = rw add-one (take-suc xs k 0 l ∙ rw (t, e))
