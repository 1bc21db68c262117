-- Every place that is reached has a chain, and every trip with a walk a route.
-- Assumes nothing.
use Prim.Native.Nat.{ℕ, zero, suc, ◌*◌, ◌<◌, ◌≤◌}
use mathlib.Core.Path.{◌≡◌, refl, sym, ◌∙◌, ap, subst}
use mathlib.Core.Bool.{true, Bool-discrete}
use mathlib.Core.List.{List, [], ◌∷◌, ◌++◌}
use mathlib.Core.Logic.{◌⊎◌, inl, inr, ⊎_elim, ◌≢◌}
use native.Mathlib.Decide.{ℕ_discrete, dec_le, map_dec}
use native.Mathlib.Omega.{arith}
use Rattle.lengths.specs.Lengths.{Len, ◌⊕◌, ◌≺◌}
use Rattle.lengths.specs.Laws.{le_or_lt, ≺_induction}
use Rattle.floor.specs.Board.{corner}
use Rattle.floor.specs.Words.{board, place_of}
use Rattle.ground.specs.Kind.{walkers, octile}
use Rattle.ground.specs.Walk.{NoWalk}
use Rattle.ground.specs.Link.{Direct}
use Rattle.ground.specs.Line.{line}
use Rattle.ground.proofs.Joined.{direct_dec}
use Rattle.ground.proofs.Walks.{shortest_unique}
use Rattle.ground.proofs.Choose.{len_discrete, walk_dec}
use Rattle.ground.proofs.LineEnds.{line_end}
use Rattle.ground.proofs.Bounded.{shortest_or_none}
use Rattle.effort.specs.Effort.{PlaceCell, Far}
use Rattle.effort.specs.Net.{Startable, Joined, Precedes}
use Rattle.ground.proofs.Numbers.{within}
use Rattle.effort.proofs.Bridge.{goal_place}
use Rattle.effort.proofs.Before.{place_before, before_nearer}
use Rattle.line.specs.Cells.{after, legs}
use Rattle.chain.specs.Route.{LineClear, Before, ChainTo, here, back, RouteOf}

-- the least number with a property
pub record Least (P : ℕ → Type 0) : Type 0 where
  pub number : ℕ
  pub has : P number
  pub least : (t : ℕ) → P t → number ≤ t

-- where a property can be decided, there is a least number with it, or none below n has it
search_below : (P : ℕ → Type 0) → ((u : ℕ) → Dec (P u)) → (n : ℕ) → Least P ⊎ ((t : ℕ) → t < n → ¬ (P t))
search_below P dec zero = inr (λ t l. absurd (omega arith))
search_below P dec (suc n) = ⊎_elim inl (λ none. by none (dec n)) (search_below P dec n)
  where
    at_least : ((t : ℕ) → t < n → ¬ (P t)) → (t : ℕ) → P t → n ≤ t
    at_least none t q = ⊎_elim (λ l. l) (λ l. absurd (none t l q)) (le_or_lt n t)

    still : ((t : ℕ) → t < n → ¬ (P t)) → ¬ (P n) → (t : ℕ) → t < suc n → ¬ (P t)
    still none k t l q =
        let m : n ≤ t = at_least none t q in
        let e : t ≡ n = omega arith in
        k (subst P e q)

    by : ((t : ℕ) → t < n → ¬ (P t)) → Dec (P n) → Least P ⊎ ((t : ℕ) → t < suc n → ¬ (P t))
    by none (yes p) = inl (record { number = n; has = p; least = at_least none })
    by none (no k) = inr (still none k)

-- Where a property can be decided and a number has it, there is a least one.
pub least_of : (P : ℕ → Type 0) → ((u : ℕ) → Dec (P u)) → (u : ℕ) → P u → Least P
least_of P dec u p = ⊎_elim (λ l. l) (λ none. absurd (none u (omega arith) p)) (search_below P dec (suc u))

module _ (w h : ℕ) (words : List ℕ) (start goal : ℕ) where
  -- Whether a cell is a place can be decided.
  pub place_dec : (u : ℕ) → Dec (PlaceCell w h words start goal u)
  place_dec u =
      by (dec_le (suc u) (w * h)) (Bool-discrete (corner (board w h words) (place_of w u)) true) (ℕ_discrete u start) (ℕ_discrete u goal)
    where
      by :
          Dec (u < w * h) → Dec (corner (board w h words) (place_of w u) ≡ true) → Dec (u ≡ start) → Dec (u ≡ goal) →
          Dec (PlaceCell w h words start goal u)
      by (no k) c s g = no (λ p. k p.inside)
      by (yes i) (yes c) s g = yes (record { inside = i; one_of = inl c })
      by (yes i) (no c) (yes s) g = yes (record { inside = i; one_of = inr (inl s) })
      by (yes i) (no c) (no s) (yes g) = yes (record { inside = i; one_of = inr (inr g) })
      by (yes i) (no c) (no s) (no g) = no (λ p. ⊎_elim c (⊎_elim s g) p.one_of)

  -- Whether two cells are joined can be decided.
  pub joined_dec : (u v : ℕ) → Dec (Joined w h words start goal u v)
  joined_dec u v = by (place_dec u) (place_dec v) (ℕ_discrete u v) (direct_dec (within w h words).padded (place_of w u) (place_of w v))
    where
      by :
          Dec (PlaceCell w h words start goal u) → Dec (PlaceCell w h words start goal v) → Dec (u ≡ v) →
          Dec (Direct walkers (board w h words) (place_of w u) (place_of w v)) →
          Dec (Joined w h words start goal u v)
      by (no k) q e d = no (λ j. k j.from)
      by (yes p) (no k) e d = no (λ j. k j.to)
      by (yes p) (yes q) (yes e) d = no (λ j. j.two e)
      by (yes p) (yes q) (no k) (no d) = no (λ j. d j.direct)
      by (yes p) (yes q) (no k) (yes d) = yes (record { from = p; to = q; two = k; direct = d })

  -- Whether a cell precedes another can be decided.
  pub precedes_dec : (v : ℕ) (l : Len) (u : ℕ) → Dec ((m : Len) × Precedes w h words start goal v l u m)
  precedes_dec v l u = by (joined_dec u v) (shortest_or_none (within w h words) walkers (place_of w start) (place_of w u))
    where
      sums :
          Joined w h words start goal u v → (m : Len) → Far w h words start u m → Dec (m ⊕ octile (place_of w u) (place_of w v) ≡ l) →
          Dec ((m : Len) × Precedes w h words start goal v l u m)
      sums j m f (yes e) = yes (m, record { joined = j; far = f; sum = e })
      sums j m f (no k) =
          no
          (λ (n, p).
          k (ap (λ (x : Len). x ⊕ octile (place_of w u) (place_of w v)) (shortest_unique f p.far) ∙ p.sum))

      by :
          Dec (Joined w h words start goal u v) →
          ((m : Len) × Far w h words start u m) ⊎ NoWalk walkers (board w h words) (place_of w start) (place_of w u) →
          Dec ((m : Len) × Precedes w h words start goal v l u m)
      by (no k) r = no (λ (m, p). k p.joined)
      by (yes j) (inr none) = no (λ (m, p). let (ds, a, e) = p.far.some in none ds a)
      by (yes j) (inl (m, f)) = sums j m f (len_discrete (m ⊕ octile (place_of w u) (place_of w v)) l)

  -- Whether the direct line is legal can be decided.
  pub line_dec : Dec (LineClear w h words start goal)
  line_dec =
      let s = place_of w start in
      let t = place_of w goal in
      map_dec (λ a. a.0) (λ l. (l, line_end s t)) (walk_dec walkers (board w h words) s t (line s t))

module _ (w h : ℕ) (words : List ℕ) (start goal : ℕ) (trip : Startable w h words start goal) where
  -- A place that is reached, other than the start, has a place before it, which is nearer.
  pub before_exists :
      {v : ℕ} {l : Len} → PlaceCell w h words start goal v → v ≢ start → Far w h words start v l →
      (u : ℕ) × (b : Before w h words start goal v u) × (b.nearer ≺ l)
  before_exists {v} {l} p other f =
      let (u, m, b) = place_before w h words start goal trip p other f in
      let best = least_of (λ t. (k : Len) × Precedes w h words start goal v l t k) (precedes_dec w h words start goal v l) u (m, b) in (
        best.number,
        record {
          far = l;
          shortest = f;
          nearer = best.has.0;
          precedes = best.has.1;
          least = λ t k q. best.least t (k, q);
        },
        before_nearer w h words start goal trip f best.has.1,
      )

  -- A place that is reached has a chain.
  pub chain_exists :
      {v : ℕ} {l : Len} → PlaceCell w h words start goal v → Far w h words start v l →
      (places : List ℕ) × ChainTo w h words start goal v places
  chain_exists {v} {l} p f = ≺_induction Reached (λ y ih v p f. by y ih v p f (ℕ_discrete v start)) l v p f
    where
      Reached : Len → Type 0
      Reached l =
          (v : ℕ) → PlaceCell w h words start goal v → Far w h words start v l → (places : List ℕ) × ChainTo w h words start goal v places

      by :
          (y : Len) → ((x : Len) → x ≺ y → Reached x) → (v : ℕ) → PlaceCell w h words start goal v → Far w h words start v y →
          Dec (v ≡ start) →
          (places : List ℕ) × ChainTo w h words start goal v places
      by y ih v p f (yes e) = (start ∷ [], subst (λ (x : ℕ). ChainTo w h words start goal x (start ∷ [])) (sym e) here)
      by y ih v p f (no k) =
          let (u, b, less) = before_exists p k f in
          let (places, c) = ih b.nearer less u b.precedes.joined.from b.precedes.far in
          (places ++ (v ∷ []), back k b c)

  -- Where a walk leads to the goal there is a route.
  pub route_exists : {l : Len} → Far w h words start goal l → (cells : List ℕ) × RouteOf w h words start goal cells
  route_exists {l} f = by (line_dec w h words start goal)
    where
      by : Dec (LineClear w h words start goal) → (cells : List ℕ) × RouteOf w h words start goal cells
      by (yes clear) = (start ∷ after w (place_of w start) (line (place_of w start) (place_of w goal)), inl (clear, refl))
      by (no barred) =
          let (places, c) = chain_exists (goal_place w h words start goal trip) f in
          (start ∷ legs w places, inr (record { barred = barred; places = places; chain = c; walked = refl }))
