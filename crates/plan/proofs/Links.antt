-- Starts and neighbours, built one turning point after the other: this is what the definition says, and there is just one outcome.
-- Assumes nothing.
use Prim.Native.Nat.{ℕ, zero, suc, ◌+◌, ◌-◌, ◌≤◌, ◌<◌}
use mathlib.Core.List.{List, [], ◌∷◌, ◌++◌}
use mathlib.Core.Path.{◌≡◌, refl, sym, ◌∙◌, ap, ap₂, subst, subst₂}
use native.Mathlib.Decide.{ℕ_discrete}
use native.Mathlib.Nat.{le_trans}
use native.Mathlib.Omega.{arith}
use lib.ListN.{length, get_or, take, drop, length-append, length-drop, take-append-drop, get_or-append}
use lib.Seq.{take-suc, take_all, take-append-le, drop-append-le, drop-append_seam, get_or-take, get_or_at, length-take-le}
use Rattle.ground.specs.Kind.{Kind}
use Rattle.corners.specs.Lists.{part, Picked}
use Rattle.plan.specs.Plan.{LinkedCells, LinksTo}
use Rattle.plan.proofs.Pickings.{picked_unique, picked_exists}

-- a part of the first of two lists
part_append : (xs ys : List ℕ) (a e : ℕ) → a ≤ e → e ≤ length xs → part (xs ++ ys) a e ≡ part xs a e
part_append xs ys a e l m =
    let p : a ≤ length xs = omega arith in
    rw (drop-append-le a xs ys p) (take-append-le (e - a) (drop a xs) ys (rw (length-drop a xs) (omega arith)))

-- what is behind the first of two lists, up to the end
part_rest : (xs ys : List ℕ) → part (xs ++ ys) (length xs) (length (xs ++ ys)) ≡ ys
part_rest xs ys = rw (drop-append_seam xs ys) (take_all (length (xs ++ ys) - length xs) ys (omega (arith, length-append xs ys)))

-- no entry is above a later one if none is above the next
pub up_to : (xs : List ℕ) (n : ℕ) → ((k : ℕ) → k < n → get_or xs k 0 ≤ get_or xs (suc k) 0) → (k : ℕ) → k ≤ n → get_or xs k 0 ≤ get_or xs n 0
up_to xs n rising k l = up (n - k) k (omega arith)
  where
    -- the same, by how far k is from n
    up : (j k : ℕ) → j + k ≡ n → get_or xs k 0 ≤ get_or xs n 0
    up zero k e = let z : k ≡ n = omega arith in rw z (omega arith)
    up (suc j) k e = le_trans (rising k (omega arith)) (up j (suc k) (omega arith))

module _ (K : Kind) (w h : ℕ) (words corners : List ℕ) where
  -- the row of turning point n: those that are linked to it, in their order
  abbrev pub Row : ℕ → List ℕ → Type 0
  Row n row = Picked (LinkedCells K w h words (get_or corners n 0)) corners row

  -- no start is beyond the neighbours
  pub start_in : {n : ℕ} {starts ns : List ℕ} → LinksTo K w h words corners n starts ns → (k : ℕ) → k ≤ n → get_or starts k 0 ≤ length ns
  start_in {n} {starts} {ns} l k m = rw (← l.last) (up_to starts n l.rising k m)

  -- starts and neighbours of the first n turning points, built row by row
  pub data Built : ℕ → List ℕ → List ℕ → Type 0 where
    none : Built 0 (0 ∷ []) []
    more : {n : ℕ} {starts ns row : List ℕ} → Built n starts ns → Row n row → Built (suc n) (starts ++ (length (ns ++ row) ∷ [])) (ns ++ row)

  -- one more turning point's neighbours, behind those of the first n
  links_more : {n : ℕ} {starts ns row : List ℕ} → LinksTo K w h words corners n starts ns → Row n row →
      LinksTo K w h words corners (suc n) (starts ++ (length (ns ++ row) ∷ [])) (ns ++ row)
  links_more {n} {starts} {ns} {row} l r =
      record {
        one_more = length-append starts _ ∙ (let e = l.one_more in omega arith);
        first = old 0 (omega arith) ∙ l.first;
        last = new;
        rising = λ k m. rising k m (ℕ_discrete k n);
        row = λ k m. rows k m (ℕ_discrete k n);
      }
    where
      all : List ℕ
      all = starts ++ (length (ns ++ row) ∷ [])

      -- the starts up to n are as they were
      old : (k : ℕ) → k ≤ n → get_or (starts ++ (length (ns ++ row) ∷ [])) k 0 ≡ get_or starts k 0
      old k m = get_or-append starts (length (ns ++ row) ∷ []) 0 k (let e = l.one_more in omega arith)

      -- the new start is where the neighbours end
      new : get_or (starts ++ (length (ns ++ row) ∷ [])) (suc n) 0 ≡ length (ns ++ row)
      new = get_or_at starts (length (ns ++ row)) [] 0 (suc n) l.one_more

      -- no start is above the next
      rising : (k : ℕ) → k < suc n → Dec (k ≡ n) → get_or (starts ++ (length (ns ++ row) ∷ [])) k 0 ≤ get_or (starts ++ (length (ns ++ row) ∷ [])) (suc k) 0
      rising k m (yes e) = rw (e, old n (omega arith), new, l.last) (omega (arith, length-append ns row))
      rising k m (no d) = rw (old k (omega arith), old (suc k) (omega (arith, d))) (l.rising k (omega (arith, d)))

      -- each turning point up to n has its row
      rows : (k : ℕ) → k < suc n → Dec (k ≡ n) →
          Row k (part (ns ++ row) (get_or (starts ++ (length (ns ++ row) ∷ [])) k 0) (get_or (starts ++ (length (ns ++ row) ∷ [])) (suc k) 0))
      rows k m (yes e) = rw (e, old n (omega arith), new, l.last, part_rest ns row) r
      rows k m (no d) =
          let q : k < n = omega (arith, d) in
          rw (old k (omega arith), old (suc k) (omega arith), part_append ns row _ _ (l.rising k q) (start_in l (suc k) q)) (l.row k q)

  -- what is built is what the definition says
  pub built_links : {n : ℕ} {starts ns : List ℕ} → Built n starts ns → LinksTo K w h words corners n starts ns
  built_links none = record { one_more = refl; first = refl; last = refl; rising = λ k m. absurd (omega arith); row = λ k m. absurd (omega arith) }
  built_links (more b r) = links_more (built_links b) r

  -- the first n turning points' part of what n + 1 have
  links_fewer : (n : ℕ) (starts ns : List ℕ) → LinksTo K w h words corners (suc n) starts ns →
      LinksTo K w h words corners n (take (suc n) starts) (take (get_or starts n 0) ns)
  links_fewer n starts ns l =
      record {
        one_more = length-take-le (suc n) starts (let e = l.one_more in omega arith);
        first = same 0 (omega arith) ∙ l.first;
        last = same n (omega arith) ∙ sym (length-take-le (get_or starts n 0) ns (start_in l n (omega arith)));
        rising = λ k m. rw (same k (omega arith), same (suc k) m) (l.rising k (omega arith));
        row = λ k m. rw (same k (omega arith), same (suc k) m) (subst (Row k) (cut k m) (l.row k (omega arith)));
      }
    where
      -- the starts up to n are the same
      same : (k : ℕ) → k ≤ n → get_or (take (suc n) starts) k 0 ≡ get_or starts k 0
      same k m = get_or-take (suc n) starts k 0 (omega arith)

      -- none of them is above the last
      below : (k : ℕ) → k ≤ n → get_or starts k 0 ≤ get_or starts n 0
      below = up_to starts n (λ k m. l.rising k (omega arith))

      -- the rows of the first n are the same in what is left of the neighbours
      cut : (k : ℕ) → k < n → part ns (get_or starts k 0) (get_or starts (suc k) 0) ≡ part (take (get_or starts n 0) ns) (get_or starts k 0) (get_or starts (suc k) 0)
      cut k m =
          ap (λ (xs : List ℕ). part xs (get_or starts k 0) (get_or starts (suc k) 0)) (sym (take-append-drop (get_or starts n 0) ns))
          ∙ part_append (take (get_or starts n 0) ns) (drop (get_or starts n 0) ns) _ _ (l.rising k (omega arith))
          (rw (length-take-le (get_or starts n 0) ns (start_in l n (omega arith))) (below (suc k) m))

  -- and what the definition says is built
  pub links_built : (n : ℕ) (starts ns : List ℕ) → LinksTo K w h words corners n starts ns → Built n starts ns
  links_built zero starts ns l = subst₂ (λ (s m : List ℕ). Built 0 s m) (single starts l.one_more l.first) (nothing ns (sym l.last ∙ l.first)) none
    where
      -- a list with one entry that is 0 is the list of 0 alone
      single : (s : List ℕ) → length s ≡ 1 → get_or s 0 0 ≡ 0 → 0 ∷ [] ≡ s
      single [] e f = absurd (omega arith)
      single (x ∷ []) e f = ap (λ (y : ℕ). y ∷ []) (sym f)
      single (x ∷ y ∷ s) e f = absurd (omega arith)

      -- a list of length 0 is empty
      nothing : (s : List ℕ) → length s ≡ 0 → [] ≡ s
      nothing [] e = refl
      nothing (x ∷ s) e = absurd (omega arith)
  links_built (suc n) starts ns l =
      let b : Built n (take (suc n) starts) (take (get_or starts n 0) ns) = links_built n _ _ (links_fewer n starts ns l) in
      subst₂ (λ (s m : List ℕ). Built (suc n) s m) starts_whole whole (more b (l.row n (omega arith)))
    where
      -- the neighbours of the first n, and the last row, make all neighbours
      whole : take (get_or starts n 0) ns ++ part ns (get_or starts n 0) (get_or starts (suc n) 0) ≡ ns
      whole =
          ap (λ (xs : List ℕ). take (get_or starts n 0) ns ++ xs)
          (take_all (get_or starts (suc n) 0 - get_or starts n 0) (drop (get_or starts n 0) ns)
          (omega (arith, length-drop (get_or starts n 0) ns, l.last)))
          ∙ take-append-drop (get_or starts n 0) ns

      -- the starts up to n, and where the neighbours end, make all starts
      starts_whole : take (suc n) starts ++ (length (take (get_or starts n 0) ns ++ part ns (get_or starts n 0) (get_or starts (suc n) 0)) ∷ []) ≡ starts
      starts_whole =
          ap (λ (m : ℕ). take (suc n) starts ++ (m ∷ [])) (ap length whole ∙ sym l.last)
          ∙ sym (take-suc starts (suc n) 0 (let e = l.one_more in omega arith))
          ∙ take_all (suc (suc n)) starts (let e = l.one_more in omega arith)

  -- one outcome is built
  pub built_unique : {n : ℕ} {s t ns ms : List ℕ} → Built n s ns → Built n t ms → (s ≡ t) × (ns ≡ ms)
  built_unique none none = (refl, refl)
  built_unique (more {ns = ns} b r) (more {ns = ms} c q) =
      let (e, f) = built_unique b c in
      let g : _ = ap₂ ◌++◌ f (picked_unique r q) in
      (ap₂ (λ (x y : List ℕ). x ++ (length y ∷ [])) e g, g)

  -- the neighbours of more turning points are no fewer
  pub built_grows : (n m : ℕ) (s t ns ms : List ℕ) → n ≤ m → Built n s ns → Built m t ms → length ns ≤ length ms
  built_grows n zero s t ns ms l b c =
      let e : n ≡ 0 = omega arith in
      let u = built_unique (subst (λ (k : ℕ). Built k s ns) e b) c in
      omega (arith, ap length u.1)
  built_grows n (suc m) s t ns ms l b (more {starts = t'} {ns = ms'} {row = row} c r) =
      by (ℕ_discrete n (suc m)) (λ k. built_grows n m s t' ns ms' k b c)
    where
      by : Dec (n ≡ suc m) → (n ≤ m → length ns ≤ length ms') → length ns ≤ length (ms' ++ row)
      by (yes e) f =
          let u = built_unique (subst (λ (k : ℕ). Built k s ns) e b) (more c r) in
          omega (arith, ap length u.1)
      by (no d) f = let k = f (omega (arith, d)) in omega (arith, length-append ms' row)

  -- where links are decided, starts and neighbours exist
  pub built_exists : ((s t : ℕ) → Dec (LinkedCells K w h words s t)) → (n : ℕ) → (s : List ℕ) × (ns : List ℕ) × Built n s ns
  built_exists dec zero = (0 ∷ [], [], none)
  built_exists dec (suc n) =
      let (s, ns, b) = built_exists dec n in
      let (row, r) = picked_exists (dec (get_or corners n 0)) corners in
      (s ++ (length (ns ++ row) ∷ []), ns ++ row, more b r)
