-- A number put in its place among ascending entries, by the place where it belongs. Assumes nothing.
use Prim.Native.Nat.{ℕ, zero, suc, ◌+◌, ◌-◌, ◌≤◌, ◌<◌}
use mathlib.Core.Bool.{false}
use mathlib.Core.List.{List, [], ◌∷◌, ◌++◌, append_assoc}
use mathlib.Core.Logic.{◌⊎◌, inl, inr}
use mathlib.Core.Path.{◌≡◌, refl, sym, ◌∙◌, ap, ap₂}
use native.Mathlib.Nat.{suc-sub-suc, sub-zero}
use native.Mathlib.Omega.{arith}
use lib.Dec.{ltb, eqb}
use lib.ListN.{length, get_or, take, drop, set, length-append, length-take, length-drop, take-append-drop}
use lib.Seq.{take-nil, take-take, take-add, drop-drop, get_or-take, get_or-drop, take-suc, set_at, length-take-le}
use borrow.Author.Tests.{lt-ltb, le-ltb, eq-eqb, ne_eqb}
use Rattle.corners.specs.Lists.{part}
use Rattle.std.specs.Prelude.{Some, None}
use Rattle.std.specs.List.{copy_within}
use Rattle.plan.specs.Rising.{Rising, insertion}
use Rattle.plan.specs.Inserting.{spliced, Inserted}
use Rattle.plan.proofs.Risings.{rising_later}

-- where t stands at place j behind smaller entries, it is there already
pub insertion_there : (t : ℕ) (xs : List ℕ) (j : ℕ) → j < length xs → ((i : ℕ) → i < j → get_or xs i 0 < t) → get_or xs j 0 ≡ t →
    insertion t xs ≡ xs
unfolding insertion
insertion_there t [] j l f e = absurd (omega arith)
insertion_there t (x ∷ xs) zero l f e =
    let p : ltb t x ≡ false = le-ltb t x (omega arith) in
    rw (p, eq-eqb t x (sym e))
insertion_there t (x ∷ xs) (suc j) l f e =
    let s : x < t = f 0 (omega arith) in
    let p : ltb t x ≡ false = le-ltb t x (omega arith) in
    let q : eqb t x ≡ false = ne_eqb t x (λ k. omega arith) in
    rw (p, q) (ap (λ (ys : List ℕ). x ∷ ys) (insertion_there t xs j (omega arith) (λ i m. f (suc i) (omega arith)) e))

-- where t goes to place j between smaller and larger entries
pub insertion_new : (t : ℕ) (xs : List ℕ) (j : ℕ) → j ≤ length xs → ((i : ℕ) → i < j → get_or xs i 0 < t) → (j < length xs → t < get_or xs j 0) →
    insertion t xs ≡ take j xs ++ (t ∷ drop j xs)
unfolding insertion
insertion_new t [] zero l f g = refl
insertion_new t [] (suc j) l f g = absurd (omega arith)
insertion_new t (x ∷ xs) zero l f g = rw (lt-ltb t x (g (omega arith)))
insertion_new t (x ∷ xs) (suc j) l f g =
    let s : x < t = f 0 (omega arith) in
    let p : ltb t x ≡ false = le-ltb t x (omega arith) in
    let q : eqb t x ≡ false = ne_eqb t x (λ k. omega arith) in
    rw (p, q) (ap (λ (ys : List ℕ). x ∷ ys) (insertion_new t xs j (omega arith) (λ i m. f (suc i) (omega arith)) (λ m. g (omega arith))))

-- what is left of the first n entries without the first j
pub drop_take : (j n : ℕ) (xs : List ℕ) → drop j (take n xs) ≡ take (n - j) (drop j xs)
drop_take zero n xs = rw sub-zero
drop_take (suc j) zero xs = let e : 0 - suc j ≡ 0 = omega arith in rw e
drop_take (suc j) (suc n) [] = sym (take-nil (suc n - suc j))
drop_take (suc j) (suc n) (x ∷ xs) = rw suc-sub-suc (drop_take j n xs)

module _ (list : List ℕ) (from m : ℕ) (l : from ≤ m) (k : m ≤ length list) where
  -- a part is as long as its ends are apart
  pub part_length : length (part list from m) ≡ m - from
  part_length = length-take-le (m - from) (drop from list) (rw length-drop (omega arith))

  -- entry i of the part is the list's entry i places on from `from`
  pub part_at : (i : ℕ) → i < m - from → get_or (part list from m) i 0 ≡ get_or list (from + i) 0
  part_at i h = rw (get_or-take (m - from) (drop from list) i 0 h, get_or-drop)

  -- the list is spliced with its own part
  pub spliced_self : spliced list from (part list from m) ≡ list
  spliced_self =
      let e : from + length (part list from m) ≡ m = omega (arith, part_length) in
      rw e (sym (append_assoc (take from list) (part list from m) (drop m list)) ∙ ap (λ (xs : List ℕ). xs ++ drop m list) joined ∙ whole)
    where
      -- what stands before the part, and the part, make the first m entries
      joined : take from list ++ part list from m ≡ take m list
      joined = let e : from + (m - from) ≡ m = omega arith in sym (take-add from (m - from) list) ∙ ap (λ (n : ℕ). take n list) e

      -- these and the rest make the list
      whole : take m list ++ drop m list ≡ list
      whole = take-append-drop m list

  -- t belongs at place `at` of the part: behind smaller entries and before larger ones
  module _ (t at : ℕ) (in_part : at ≤ length (part list from m)) (below : (j : ℕ) → j < at → get_or (part list from m) j 0 < t)
      (above : (j : ℕ) → at ≤ j → j < length (part list from m) → t < get_or (part list from m) j 0) where
    -- it goes between them
    found_new : insertion t (part list from m) ≡ take at (part list from m) ++ (t ∷ drop at (part list from m))
    found_new = insertion_new t (part list from m) at in_part below (λ h. above at (omega arith) h)

    -- it makes the part one longer
    new_length : suc m ≡ from + length (insertion t (part list from m))
    new_length =
        let p = part_length in
        let e : length (insertion t (part list from m)) ≡ suc (m - from) =
        ap length found_new ∙ length-append (take at (part list from m)) _
        ∙ (let a = length-take at (part list from m) in let b = length-drop at (part list from m) in let c = in_part in omega arith) in
        omega arith

    -- the place in the list
    place_in : from + at ≤ m
    place_in = omega (arith, part_length, in_part)

    -- the entries from there on moved one place on, and t put there: the part with t in its place
    put_there : m < length list →
        set (take (suc (from + at)) list ++ (part list (from + at) m ++ drop (suc m) list)) (from + at) t ≡ spliced list from (insertion t (part list from m))
    put_there h =
        ap (λ (xs : List ℕ). set xs (from + at) t) opened
        ∙ set_at (take (from + at) list) (get_or list (from + at) 0) (part list (from + at) m ++ drop (suc m) list) t (from + at)
        (length-take-le (from + at) list (omega (arith, place_in)))
        ∙ sym closed
      where
        -- once the entries are moved, the first of them still stands before those that were moved
        opened : take (suc (from + at)) list ++ (part list (from + at) m ++ drop (suc m) list)
            ≡ take (from + at) list ++ (get_or list (from + at) 0 ∷ (part list (from + at) m ++ drop (suc m) list))
        opened =
            rw (take-suc list (from + at) 0 (omega (arith, place_in)))
            (append_assoc (take (from + at) list) (get_or list (from + at) 0 ∷ []) (part list (from + at) m ++ drop (suc m) list))

        -- what stands before the part, and the part's entries before the place, are the list's entries before it
        before_place : take from list ++ take at (part list from m) ≡ take (from + at) list
        before_place =
            ap (λ (xs : List ℕ). take from list ++ xs) (take-take at (m - from) (drop from list) (omega (arith, place_in)))
            ∙ sym (take-add from at list)

        -- the part without them is the part from that place on
        behind_place : drop at (part list from m) ≡ part list (from + at) m
        behind_place =
            drop_take at (m - from) (drop from list)
            ∙ ap₂ (λ (n : ℕ) (xs : List ℕ). take n xs) (let e : (m - from) - at ≡ m - (from + at) = omega arith in e) (drop-drop at from list)

        -- the list with t in its part is what stands before the place, then t, what was moved, and the rest
        closed : spliced list from (insertion t (part list from m)) ≡ take (from + at) list ++ (t ∷ (part list (from + at) m ++ drop (suc m) list))
        closed =
            ap (λ (n : ℕ). take from list ++ (insertion t (part list from m) ++ drop n list)) (sym new_length)
            ∙ ap (λ (xs : List ℕ). take from list ++ (xs ++ drop (suc m) list)) found_new
            ∙ ap (λ (xs : List ℕ). take from list ++ xs) (append_assoc (take at (part list from m)) (t ∷ drop at (part list from m)) (drop (suc m) list))
            ∙ sym (append_assoc (take from list) (take at (part list from m)) (t ∷ drop at (part list from m) ++ drop (suc m) list))
            ∙ ap₂ (λ (xs ys : List ℕ). xs ++ (t ∷ (ys ++ drop (suc m) list))) before_place behind_place

    -- if there is no room for it, the list is left as it is
    pub inserted_full : (length list ≤ m) ⊎ (32768 ≤ m) → Inserted list from m t None list
    inserted_full h = (new_length, h, refl)

    -- if there is, the entries from that place on are moved and t is put there
    pub inserted_new : m < length list → m < 32768 → (moved : List ℕ) →
        moved ≡ copy_within list (from + at) m (from + at + 1) →
        Inserted list from m t (Some (m + 1)) (set moved (from + at) t)
    inserted_new h few moved e =
        let one : from + at + 1 ≡ suc (from + at) = omega arith in
        let all : from + at + 1 + (m - (from + at)) ≡ suc m = omega (arith, place_in) in (
          (let z : m + 1 ≡ suc m = omega arith in z ∙ new_length),
          (omega arith),
          inr (omega arith),
          ap (λ (xs : List ℕ). set xs (from + at) t) (rw (append_assoc, all, one) at e) ∙ put_there h,
        )

  -- if t stands in the part, which ascends, the list is left as it is
  pub inserted_there : (t at : ℕ) → Rising (part list from m) → at < length (part list from m) → get_or (part list from m) at 0 ≡ t →
      Inserted list from m t (Some m) list
  inserted_there t at rising h e =
      let same : insertion t (part list from m) ≡ part list from m =
      insertion_there t (part list from m) at h (λ j b. rw e at (rising_later (part list from m) rising j at b h)) e in
      let p = part_length in (
        (let z : m ≡ from + length (part list from m) = omega arith in z ∙ ap (λ (xs : List ℕ). from + length xs) (sym same)),
        k,
        inl refl,
        sym spliced_self ∙ ap (spliced list from) (sym same),
      )
