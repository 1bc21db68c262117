-- 000, Theorem 1: between two places that a walk joins there is a chain that is no longer, and every chain has a walk of its length.
-- Assumes nothing.
use mathlib.Core.Path.{◌≡◌, refl, sym, ◌∙◌, ap, subst}
use mathlib.Core.Bool.{true, Bool-discrete}
use mathlib.Core.List.{List, ◌∷◌, ◌++◌}
use mathlib.Core.Logic.{◌⊎◌, inl, inr, ⊎_elim, ◌≢◌}
use lib.ListN.{length}
use Rattle.lengths.specs.Lengths.{Len, 𝟎, ◌⊕◌, ◌≺◌, ◌≼◌}
use Rattle.lengths.specs.Laws.{⊕_assoc, ⊕_zero, ⊕-≺, ⊕_mono, ≼_refl, ≼_trans, ≼_antisym, ≺→≼, ≺→not-≽, ≺_induction}
use Rattle.floor.specs.Board.{Board, Padded, Place, Dir, corner}
use Rattle.ground.specs.Kind.{Kind}
use Rattle.ground.specs.Walk.{end, Walk, len, Shortest, passes}
use Rattle.ground.specs.Link.{Clear, Direct, Chain, last, join}
use Rattle.ground.proofs.Logic.{true_or_false}
use Rattle.ground.proofs.Walks.{𝟎-⊕, len_append, end_append, walk_append, legal_first, legal_rest, positive, ≺_left}
use Rattle.ground.proofs.Meets.{Met, met}
use Rattle.ground.proofs.Ways.{Tame, Ways}
use Rattle.ground.proofs.Tame.{tame_or_detour}
use Rattle.ground.proofs.Axes.{same_steps}
use Rattle.ground.proofs.Choose.{some_list, walk_dec, place_discrete, len_discrete, dec_three}

-- chains join at a turning point
pub append : {K : Kind} {B : Board} {s p t : Place} {l m : Len} → Chain K B s p l → corner B p ≡ true → Chain K B p t m → Chain K B s t (l ⊕ m)
append (last n d) c k = join n d c k
append {K} {B} {t = t} {m = m} (join {s = s} {p = q} {l = l} n d e r) c k =
    subst (λ (x : Len). Chain K B s t x) (sym (⊕_assoc (K.apart s q) l m)) (join n d e (append r c k))

-- Every chain has a walk of its length.
pub chain_walk : {K : Kind} {B : Board} {s t : Place} {l : Len} → Chain K B s t l → (ds : List Dir) × Walk K B s t ds × (len ds ≡ l)
chain_walk (last n d) = d.reached
chain_walk {K} {B} (join {s = s} {p = p} {t = t} {l = l} n d c k) =
    let (u, v, e) = d.reached in
    let (ds, w, f) = chain_walk k in
    let both = walk_append K B s p t u ds v w in
    (u ++ ds, both.0, both.1 ∙ ap (λ (x : Len). x ⊕ len ds) e ∙ ap (λ (x : Len). K.apart s p ⊕ x) f)

-- a walk from s to t of this length that passes a turning point
abbrev pub Passing : Kind → Board → Place → Place → Len → Type 0
Passing K B s t l = (ws : List Dir) × Walk K B s t ws × (len ws ≡ l) × (passes B s ws ≡ true)

-- C, decided: some walk of that length passes a turning point, or none does.
pub passing_or_clear : (K : Kind) (B : Board) (s t : Place) (ds : List Dir) → Passing K B s t (len ds) ⊎ Clear K B s t (len ds)
passing_or_clear K B s t ds =
    ⊎_elim (λ r. inl (r.0, r.1.0, r.1.1, r.1.2))
    (λ no-list. inr (λ ws w e.
    ⊎_elim (λ m. absurd (no-list ws (same_steps ws ds e) (w, e, m))) (λ f. f) (true_or_false (passes B s ws))))
    (some_list (length ds) (λ ws. Walk K B s t ws × (len ws ≡ len ds) × (passes B s ws ≡ true))
    (λ ws. dec_three (walk_dec K B s t ws) (len_discrete (len ws) (len ds)) (Bool-discrete (passes B s ws) true)))

module _ {K : Kind} (W : Ways K) {B : Board} (padded : Padded B) where
  -- a tame walk joins its ends directly, where no walk of its length passes a turning point
  tame_direct : (s t : Place) (ds : List Dir) → Walk K B s t ds → Tame W.Mates ds → Clear K B s t (len ds) →
      Direct K B s t × (len ds ≡ K.apart s t)
  tame_direct s t ds w m c =
      let e : len ds ≡ K.apart s t = W.tame_apart padded s ds w.0 m ∙ ap (K.apart s) w.1 in
      (record { reached = (ds, w, e); clear = subst (λ (l : Len). Clear K B s t l) e c }, e)

  -- a chain from s to t that is no longer than m
  abbrev pub Chained : Place → Place → Len → Type 0
  Chained s t m = (l : Len) × Chain K B s t l × (l ≼ m)

  -- a chain no longer than m is no longer than what is longer
  within : {s t : Place} {m n : Len} → m ≼ n → Chained s t m → Chained s t n
  within h c = (c.0, c.1, ≼_trans c.2 h)

  -- what is shown of all walks of a length
  abbrev Chains : Len → Type 0
  Chains l = (ds : List Dir) (s t : Place) → len ds ≡ l → s ≢ t → Walk K B s t ds → Chained s t l

  -- a walk cut at a turning point, which may also be one of its ends
  through : (l : Len) → ((k : Len) → k ≺ l → Chains k) → (ws : List Dir) (s t : Place) → len ws ≡ l → s ≢ t → Walk K B s t ws → Met B s ws →
      Chained s t l
  through l shorter ws s t is-l two w m = by (place_discrete s p) (place_discrete p t)
    where
      u : List Dir
      u = m.first ∷ m.before

      v : List Dir
      v = m.next ∷ m.after

      p : Place
      p = end s u

      sum : len u ⊕ len v ≡ l
      sum = sym (len_append u v) ∙ sym (ap len m.whole) ∙ is-l

      cut : Walk K B s t (u ++ v)
      cut = subst (λ (x : List Dir). Walk K B s t x) m.whole w

      rest : Walk K B p t v
      rest = (legal_rest K B s u v cut.0, sym (end_append s u v) ∙ cut.1)

      u_short : len u ≺ l
      u_short = rw (← sum) (subst (λ (k : Len). k ≺ (len u ⊕ len v)) (⊕_zero (len u)) (≺_left (len u) (positive m.next m.after)))

      v_short : len v ≺ l
      v_short = rw (← sum) (subst (λ (k : Len). k ≺ (len u ⊕ len v)) (𝟎-⊕ (len v)) ((⊕-≺ 𝟎 (len u) (len v)).1 (positive m.first m.before)))

      by : Dec (s ≡ p) → Dec (p ≡ t) → Chained s t l
      by (yes e) d = within (≺→≼ v_short) (shorter (len v) v_short v s t refl two (subst (λ (q : Place). Walk K B q t v) (sym e) rest))
      by (no i) (yes e) = within (≺→≼ u_short) (shorter (len u) u_short u s t refl two (legal_first K B s u v cut.0, e))
      by (no i) (no j) =
          let x : Chained s p (len u) = shorter (len u) u_short u s p refl i (legal_first K B s u v cut.0, refl) in
          let y : Chained p t (len v) = shorter (len v) v_short v p t refl j rest in
          (x.0 ⊕ y.0, append x.1 m.turns y.1, subst (λ (k : Len). (x.0 ⊕ y.0) ≼ k) sum (⊕_mono x.2 y.2))

  -- what holds of all shorter walks holds of this one: it passes a turning point, or is tame, or has a detour
  chains : (l : Len) → ((k : Len) → k ≺ l → Chains k) → Chains l
  chains l shorter ds s t is-l two w =
      ⊎_elim
      (λ (ws, v, e, m). through l shorter ws s t (e ∙ is-l) two v (met B ws s m))
      (λ c. ⊎_elim
      (λ m. let d = tame_direct s t ds w m c in (K.apart s t, last two d.0, subst (λ (k : Len). k ≼ l) (sym is-l ∙ d.1) (≼_refl l)))
      (λ d. let h : len d.walk ≺ l = subst (λ (k : Len). len d.walk ≺ k) is-l d.shorter in
      within (≺→≼ h) (shorter (len d.walk) h d.walk s t refl two (d.legal, d.same_end ∙ w.1)))
      (tame_or_detour W padded ds s w.0 (subst (λ (q : Place). Clear K B s q (len ds)) (sym w.1) c)))
      (passing_or_clear K B s t ds)

  -- D. Theorem 1: between two places that a walk joins there is a chain that is no longer than the walk.
  pub walk_chain : (ds : List Dir) (s t : Place) → s ≢ t → Walk K B s t ds → (l : Len) × Chain K B s t l × (l ≼ len ds)
  walk_chain ds s t two w = ≺_induction Chains chains (len ds) ds s t refl two w

  -- A shortest walk has a chain of its length.
  pub shortest_chain : (s t : Place) (l : Len) → s ≢ t → Shortest K B s t l → Chain K B s t l
  shortest_chain s t l two h =
      let (ds, w, e) = h.some in
      let (m, c, k) = walk_chain ds s t two w in
      let (ws, v, f) = chain_walk c in
      subst (λ (x : Len). Chain K B s t x) (≼_antisym (subst (λ (x : Len). m ≼ x) e k) (subst (λ (x : Len). l ≼ x) f (h.least ws v))) c

  -- C. The dichotomy: a shortest walk may be exchanged for one that passes a turning point, or its ends are joined directly.
  pub dichotomy : (s t : Place) (l : Len) → Shortest K B s t l → Passing K B s t l ⊎ (Direct K B s t × (l ≡ K.apart s t))
  dichotomy s t l h =
      let (ds, w, e) = h.some in
      ⊎_elim (λ p. inl (p.0, p.1, p.2 ∙ e, p.3))
      (λ c. inr (⊎_elim
      (λ m. let d = tame_direct s t ds w m c in (d.0, sym e ∙ d.1))
      (λ d. absurd (≺→not-≽ (subst (λ (k : Len). len d.walk ≺ k) e d.shorter) (h.least d.walk (d.legal, d.same_end ∙ w.1))))
      (tame_or_detour W padded ds s w.0 (subst (λ (q : Place). Clear K B s q (len ds)) (sym w.1) c))))
      (passing_or_clear K B s t ds)
