-- There is one place before another, one chain to a place and one route of a trip.
-- Assumes nothing.
use Prim.Native.Nat.{ℕ}
use mathlib.Core.Path.{◌≡◌, refl, sym, ◌∙◌, ap, subst}
use mathlib.Core.List.{List, [], ◌∷◌, ◌++◌}
use mathlib.Core.Logic.{◌⊎◌, inl, inr, ◌≢◌}
use native.Mathlib.Nat.{le_antisymm}
use Rattle.lengths.specs.Lengths.{Len}
use Rattle.ground.proofs.Walks.{shortest_unique}
use Rattle.effort.specs.Net.{Precedes}
use Rattle.line.specs.Cells.{legs}
use Rattle.chain.specs.Route.{Before, ChainTo, here, back, RouteOf}

module _ (w h : ℕ) (words : List ℕ) (start goal : ℕ) where
  -- There is one place before v at most.
  pub before_unique : {v u t : ℕ} → Before w h words start goal v u → Before w h words start goal v t → u ≡ t
  before_unique {v} {u} {t} p q =
      let e : p.far ≡ q.far = shortest_unique p.shortest q.shortest in
      le_antisymm
      (p.least t q.nearer (subst (λ (l : Len). Precedes w h words start goal v l t q.nearer) (sym e) q.precedes))
      (q.least u p.nearer (subst (λ (l : Len). Precedes w h words start goal v l u p.nearer) e p.precedes))

  -- the last step of a chain that does not end at the start
  record LastStep (v : ℕ) (places : List ℕ) : Type 0 where
    other : v ≢ start
    last : ℕ
    before : Before w h words start goal v last
    rest : List ℕ
    chain : ChainTo w h words start goal last rest
    whole : places ≡ rest ++ (v ∷ [])

  -- a chain is the start alone, or has a last step
  chain_last : {v : ℕ} {places : List ℕ} → ChainTo w h words start goal v places → ((v ≡ start) × (places ≡ start ∷ [])) ⊎ LastStep v places
  chain_last here = inl (refl, refl)
  chain_last (back {u = u} {places = places} n b c) =
      inr (record { other = n; last = u; before = b; rest = places; chain = c; whole = refl })

  -- There is one chain to v at most.
  pub chain_unique : {v : ℕ} {ps qs : List ℕ} → ChainTo w h words start goal v ps → ChainTo w h words start goal v qs → ps ≡ qs
  chain_unique {qs = qs} here d = by (chain_last d)
    where
      by : ((start ≡ start) × (qs ≡ start ∷ [])) ⊎ LastStep start qs → start ∷ [] ≡ qs
      by (inl e) = sym e.1
      by (inr s) = absurd (s.other refl)
  chain_unique {qs = qs} (back {v = v} {u = u} {places = places} n b c) d = by (λ rest e. chain_unique c e) (chain_last d)
    where
      by :
          ((rest : List ℕ) → ChainTo w h words start goal u rest → places ≡ rest) → ((v ≡ start) × (qs ≡ start ∷ [])) ⊎ LastStep v qs →
          places ++ (v ∷ []) ≡ qs
      by same (inl e) = absurd (n e.0)
      by same (inr s) =
          let e : s.last ≡ u = before_unique s.before b in
          ap (λ (ps : List ℕ). ps ++ (v ∷ [])) (same s.rest (subst (λ (x : ℕ). ChainTo w h words start goal x s.rest) e s.chain))
          ∙ sym s.whole

  -- There is one route at most.
  pub route_unique : {xs ys : List ℕ} → RouteOf w h words start goal xs → RouteOf w h words start goal ys → xs ≡ ys
  route_unique (inl p) (inl q) = p.1 ∙ sym q.1
  route_unique (inl p) (inr q) = absurd (q.barred p.0)
  route_unique (inr p) (inl q) = absurd (p.barred q.0)
  route_unique (inr p) (inr q) =
      p.walked ∙ ap (λ (ps : List ℕ). start ∷ legs w ps) (chain_unique p.chain q.chain) ∙ sym q.walked
