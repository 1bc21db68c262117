-- On a bounded board every walk can be cut to one that visits no place twice, so it has fewer steps than the board has places.
-- So there is a shortest walk or none at all, and a shortest one has few steps.
-- Assumes nothing.
use mathlib.Core.Path.{◌≡◌, refl, sym, ◌∙◌, ap, subst}
use mathlib.Core.Bool.{true, Bool-discrete}
use mathlib.Core.List.{List, [], ◌∷◌}
use mathlib.Core.Logic.Dec
use mathlib.Core.Logic.{◌⊎◌, inl, inr, ⊎_elim, ⊎_map, ◌≢◌}
use Prim.Native.Nat.{ℕ, zero, suc, pred, ◌+◌, ◌*◌, ◌≤◌, ◌<◌}
use native.Mathlib.Omega.{arith}
use native.Mathlib.Nat.{mul-le-mul_right}
use native.Mathlib.Decide.{ℕ_discrete}
use lib.ListN.{length}
use Rattle.lengths.specs.Lengths.{Len, ◌≺◌, ◌≼◌, shorter}
use Rattle.lengths.specs.Laws.{le_or_lt, ≼_refl, ≼_trans, ≼_antisym, ≼_or-≻, ≺→≼, ⊕_mono, ≺_induction, shorter-≺, ≺_shorter}
use Rattle.floor.specs.Board.{Board, Place, Free, Dir, go}
use Rattle.ground.specs.Kind.{Kind}
use Rattle.ground.specs.Walk.{Legal, Walk, size, len, Shortest, NoWalk}
use Rattle.ground.specs.Within.{Within}
use Rattle.ground.proofs.Cells.{column_inside, row_inside}
use Rattle.ground.proofs.Walks.{place_eq, step_longer}
use Rattle.ground.proofs.Axes.{counts}
use Rattle.ground.proofs.Choose.{some_list, walk_dec}

-- ---- lists of numbers
-- k stands nowhere in a list
abbrev Fresh : ℕ → List ℕ → Type 0
Fresh k [] = Unit {0}
Fresh k (a ∷ l) = (k ≢ a) × Fresh k l

-- no two are the same
abbrev Distinct : List ℕ → Type 0
Distinct [] = Unit {0}
Distinct (a ∷ l) = Fresh a l × Distinct l

-- each is below n
abbrev Below : ℕ → List ℕ → Type 0
Below n [] = Unit {0}
Below n (a ∷ l) = (a < n) × Below n l

-- a list without the number n
record Without (n : ℕ) (l : List ℕ) : Type 0 where
  list : List ℕ
  distinct : Distinct list
  below : Below n list
  fresh : (k : ℕ) → Fresh k l → Fresh k list
  one_fewer : length l ≤ suc (length list)

-- numbers below n + 1 that are not n are below n
still_below : (n : ℕ) (l : List ℕ) → Fresh n l → Below (suc n) l → Below n l
still_below n [] f b = tt
still_below n (a ∷ l) f b = (let h : n ≢ a = f.0 in strict n a h b.0, still_below n l f.1 b.1)
  where
    strict : (n a : ℕ) → n ≢ a → a < suc n → a < n
    strict n a h l = ⊎_elim (λ k. absurd (h (omega arith))) (λ k. k) (le_or_lt n a)

-- of distinct numbers one at most is n
without : (n : ℕ) (l : List ℕ) → Distinct l → Below (suc n) l → Without n l
without n [] d b = record { list = []; distinct = tt; below = tt; fresh = λ k f. tt; one_fewer = omega arith }
without n (a ∷ l) d b = by (ℕ_discrete a n) (without n l d.1 b.1)
  where
    by : Dec (a ≡ n) → Without n l → Without n (a ∷ l)
    by (yes e) r =
        record {
          list = l;
          distinct = d.1;
          below = still_below n l (subst (λ (k : ℕ). Fresh k l) e d.0) b.1;
          fresh = λ k f. f.1;
          one_fewer = omega arith;
        }
    by (no h) r =
        record {
          list = a ∷ r.list;
          distinct = (r.fresh a d.0, r.distinct);
          below = (let k : a < suc n = b.0 in ⊎_elim (λ i. absurd (h (omega arith))) (λ i. i) (le_or_lt n a), r.below);
          fresh = λ k f. (f.0, r.fresh k f.1);
          one_fewer = let k = r.one_fewer in omega arith;
        }

-- there are at most n numbers below n
few : (n : ℕ) (l : List ℕ) → Distinct l → Below n l → length l ≤ n
few zero [] d b = omega arith
few zero (a ∷ l) d b = absurd (let h : a < 0 = b.0 in omega arith)
few (suc n) l d b =
    let r = without n l d b in
    let k = few n r.list r.distinct r.below in
    omega (arith, r.one_fewer)

-- ---- the number of a place, row by row
abbrev number : ℕ → Place → ℕ
number w p = pred p.y * w + pred p.x

-- a number of two digits tells them
same_digits : (w a b c d : ℕ) → b < w → d < w → a * w + b ≡ c * w + d → (a ≡ c) × (b ≡ d)
same_digits w a b c d h k e =
    let i : c ≤ a = above a b c d h e in
    let j : a ≤ c = above c d a b k (sym e) in
    let f : a ≡ c = omega arith in
    (f, omega (arith, ap (λ (t : ℕ). t * w) f))
  where
    above : (a b c d : ℕ) → b < w → a * w + b ≡ c * w + d → c ≤ a
    above a b c d h e = ⊎_elim (λ i. i) (λ i. absurd (omega (arith, mul-le-mul_right w i))) (le_or_lt c a)

-- the numbers of the places that a walk visits
abbrev visits : ℕ → Place → List Dir → List ℕ
visits w s [] = number w s ∷ []
visits w s (d ∷ ds) = number w s ∷ visits w (go d s) ds

-- there is one more place than steps
visits_length : (w : ℕ) (s : Place) (ds : List Dir) → length (visits w s ds) ≡ suc (length ds)
visits_length w s [] = refl
visits_length w s (d ∷ ds) = ap suc (visits_length w (go d s) ds)

module _ {w h : ℕ} {B : Board} (within : Within w h B) where
  -- the number of a free place is below w times h
  number_below : (p : Place) → Free B p → number w p < w * h
  number_below p f =
      let a : 0 < p.x = column_inside within.padded f in
      let b : 0 < p.y = row_inside within.padded f in
      let c : p.x ≤ w = within.wide p.x p.y f in
      let d : suc (pred p.y) ≤ h = let e : p.y ≤ h = within.high p.x p.y f in omega arith in
      omega (arith, mul-le-mul_right w d)

  -- two free places with one number are one place
  number_tells : (p q : Place) → Free B p → Free B q → number w p ≡ number w q → p ≡ q
  number_tells p q f g e =
      let a : 0 < p.x = column_inside within.padded f in
      let b : 0 < p.y = row_inside within.padded f in
      let c : 0 < q.x = column_inside within.padded g in
      let d : 0 < q.y = row_inside within.padded g in
      let i : p.x ≤ w = within.wide p.x p.y f in
      let j : q.x ≤ w = within.wide q.x q.y g in
      let (k, l) = same_digits w (pred p.y) (pred p.x) (pred q.y) (pred q.x) (omega arith) (omega arith) e in
      place_eq (omega arith) (omega arith)

  module _ (K : Kind) where
    -- the numbers of all places of a walk are below w times h
    visits_below : (s : Place) (ds : List Dir) → Legal K B s ds → Below (w * h) (visits w s ds)
    visits_below s [] l = (number_below s l, tt)
    visits_below s (d ∷ ds) l = (number_below s l.0, visits_below (go d s) ds l.2)

    -- a walk from s to t that visits no place twice, and is no longer than l
    record Trimmed (s t : Place) (l : Len) : Type 0 where
      path : List Dir
      walk : Walk K B s t path
      no_longer : len path ≼ l
      distinct : Distinct (visits w s path)

    -- a place on a walk that visits none twice: the walk from there on
    from_there : (p t : Place) → Free B p → (ds : List Dir) (q : Place) → Walk K B q t ds → Distinct (visits w q ds) →
        Trimmed p t (len ds) ⊎ Fresh (number w p) (visits w q ds)
    from_there p t f [] q v d = by (ℕ_discrete (number w p) (number w q))
      where
        by : Dec (number w p ≡ number w q) → Trimmed p t (len []) ⊎ Fresh (number w p) (visits w q [])
        by (yes e) = inl (record { path = []; walk = (f, number_tells p q f v.0 e ∙ v.1); no_longer = ≼_refl (len []); distinct = (tt, tt) })
        by (no n) = inr (n, tt)
    from_there p t f (e ∷ ds) q v d = by (ℕ_discrete (number w p) (number w q)) (from_there p t f ds (go e q) (v.0.2, v.1) d.1)
      where
        by : Dec (number w p ≡ number w q) → Trimmed p t (len ds) ⊎ Fresh (number w p) (visits w (go e q) ds) →
            Trimmed p t (len (e ∷ ds)) ⊎ Fresh (number w p) (visits w q (e ∷ ds))
        by (yes i) r =
            let same : q ≡ p = sym (number_tells p q f v.0.0 i) in
            inl (record {
              path = e ∷ ds;
              walk = subst (λ (x : Place). Walk K B x t (e ∷ ds)) same v;
              no_longer = ≼_refl (len (e ∷ ds));
              distinct = subst (λ (x : Place). Distinct (visits w x (e ∷ ds))) same d;
            })
        by (no n) (inr r) = inr (n, r)
        by (no n) (inl r) =
            inl (record { path = r.path; walk = r.walk; no_longer = ≼_trans r.no_longer (≺→≼ (step_longer e (len ds))); distinct = r.distinct })

    -- Every walk can be cut to one that visits no place twice.
    trim : (ds : List Dir) (s t : Place) → Walk K B s t ds → Trimmed s t (len ds)
    trim [] s t v = record { path = []; walk = v; no_longer = ≼_refl (len []); distinct = (tt, tt) }
    trim (d ∷ ds) s t v =
        let r = trim ds (go d s) t (v.0.2, v.1) in
        let longer : len ds ≼ len (d ∷ ds) = ≺→≼ (step_longer d (len ds)) in
        ⊎_elim
        (λ c. record { path = c.path; walk = c.walk; no_longer = ≼_trans c.no_longer (≼_trans r.no_longer longer); distinct = c.distinct })
        (λ n. record {
          path = d ∷ r.path;
          walk = ((v.0.0, v.0.1, r.walk.0), r.walk.1);
          no_longer = ⊕_mono (≼_refl (size d)) r.no_longer;
          distinct = (n, r.distinct);
        })
        (from_there s t v.0.0 r.path (go d s) r.walk r.distinct)

    -- Every walk can be cut to one that is no longer and has fewer steps than the board has places.
    pub short_walk : (ds : List Dir) (s t : Place) → Walk K B s t ds →
        (ws : List Dir) × Walk K B s t ws × (len ws ≼ len ds) × (length ws < w * h)
    short_walk ds s t v =
        let r = trim ds s t v in
        let k : length (visits w s r.path) ≤ w * h = few (w * h) (visits w s r.path) r.distinct (visits_below s r.path r.walk.0) in
        (r.path, r.walk, r.no_longer, rw (visits_length w s r.path) at k)

    -- A shortest walk has fewer steps than the board has places.
    pub few_steps : {s t : Place} {l : Len} → Shortest K B s t l → l.straight + l.diagonal < w * h
    few_steps {s} {t} {l} short =
        let (ds, v, e) = short.some in
        let (ws, u, k, n) = short_walk ds s t v in
        let same : len ws ≡ l = ≼_antisym (subst (λ (m : Len). len ws ≼ m) e k) (short.least ws u) in
        subst (λ (m : Len). m.straight + m.diagonal < w * h) same (omega (arith, (counts ws).steps))

    -- among the lists of fewer than n directions one has a property that can be decided, or none has
    some_short : (n : ℕ) (P : List Dir → Type 0) → ((ds : List Dir) → Dec (P ds)) →
        ((ds : List Dir) × P ds) ⊎ ((ds : List Dir) → length ds < n → ¬ (P ds))
    some_short zero P dec = inr (λ ds k p. omega arith)
    some_short (suc n) P dec =
        ⊎_elim inl (λ a. ⊎_map (λ r. r) (λ b ds k p. ⊎_elim (λ i. b ds (omega (arith, i)) p) (λ i. a ds (omega (arith, i)) p) (last_or_not ds k)) (some_list n P dec)) (some_short n P dec)
      where
        last_or_not : (ds : List Dir) → length ds < suc n → (length ds ≡ n) ⊎ (length ds < n)
        last_or_not ds k = ⊎_elim (λ i. inl (omega arith)) inr (le_or_lt n (length ds))

    -- from a walk down to a shortest one
    descend : (s t : Place) (l : Len) → ((m : Len) → m ≺ l → (ds : List Dir) → Walk K B s t ds → len ds ≡ m → (k : Len) × Shortest K B s t k) →
        (ds : List Dir) → Walk K B s t ds → len ds ≡ l → (k : Len) × Shortest K B s t k
    descend s t l down ds v e =
        ⊎_elim
        (λ r. down (len r.0) (shorter-≺ (len r.0) l r.1.1) r.0 r.1.0 refl)
        (λ none. (
          l,
          record {
            some = (ds, v, e);
            least = λ vs u.
                let (ws, x, k, n) = short_walk vs s t u in
                ⊎_elim (λ i. ≼_trans i k) (λ i. absurd (none ws n (x, ≺_shorter i))) (≼_or-≻ l (len ws));
          },
        ))
        (some_short (w * h) (λ ws. Walk K B s t ws × (shorter (len ws) l ≡ true))
        (λ ws. Dec.and (walk_dec K B s t ws) (Bool-discrete (shorter (len ws) l) true)))

    -- On a bounded board two places have a shortest walk, or none leads from the one to the other.
    pub shortest_or_none : (s t : Place) → ((l : Len) × Shortest K B s t l) ⊎ NoWalk K B s t
    shortest_or_none s t =
        ⊎_map
        (λ (ds, v). ≺_induction (λ l. (ds : List Dir) → Walk K B s t ds → len ds ≡ l → (k : Len) × Shortest K B s t k) (descend s t) (len ds) ds v refl)
        (λ none ds v. let (ws, u, k, n) = short_walk ds s t v in none ws n u)
        (some_short (w * h) (Walk K B s t) (walk_dec K B s t))
