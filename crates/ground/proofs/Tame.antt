-- A tame list has every two of its directions mates. Where no walk of its length passes a turning point, a tame walk may be rearranged at
-- will, and a walk that is not tame has a shorter one.
-- Assumes nothing.
use mathlib.Core.Path.{◌≡◌, refl, sym, ◌∙◌, ap, subst}
use mathlib.Core.Bool.{true, false, ◌&&◌}
use mathlib.Core.List.{List, [], ◌∷◌, ◌++◌}
use mathlib.Core.Logic.{◌⊎◌, inl, inr, ⊎_elim}
use Rattle.lengths.specs.Lengths.{Len, ◌⊕◌, ◌≺◌}
use Rattle.floor.specs.Board.{Board, Padded, Place, Free, Dir, go, step, corner}
use Rattle.ground.specs.Kind.{Kind}
use Rattle.ground.specs.Walk.{end, Legal, Walk, size, len, passes}
use Rattle.ground.specs.Link.{Clear}
use Rattle.ground.proofs.Logic.{or_false_left, or_false_right}
use Rattle.ground.proofs.Walks.{⊕_swap, ≺_left}
use Rattle.ground.proofs.Ways.{AllMates, Tame, Detour, Ways}

-- b stands in the first list, and the second is what is left without it; and the rearrangements of a list.
pub data Pick (b : Dir) : List Dir → List Dir → Type 0 where
  here : {ρ : List Dir} → Pick b (b ∷ ρ) ρ
  later : {e : Dir} {ρ σ : List Dir} → Pick b ρ σ → Pick b (e ∷ ρ) (e ∷ σ)

-- the rearrangements of a list: one direction after the other is taken out
pub data Rearranged : List Dir → List Dir → Type 0 where
  empty : Rearranged [] []
  put : {b : Dir} {ρ σ τ : List Dir} → Pick b ρ σ → Rearranged σ τ → Rearranged ρ (b ∷ τ)

-- taking a direction out leaves the length of the others
pub picked_len : {b : Dir} {ρ σ : List Dir} → Pick b ρ σ → size b ⊕ len σ ≡ len ρ
picked_len here = refl
picked_len {b} (later {e = e} {σ = σ} k) = ⊕_swap (size b) (size e) (len σ) ∙ ap (λ (l : Len). size e ⊕ l) (picked_len k)

module _ (Mates : Dir → Dir → Type 0) where
  -- a mate of all is a mate of each
  pub mates_picked : {b : Dir} {ρ σ : List Dir} (e : Dir) → Pick b ρ σ → AllMates Mates e ρ → Mates e b
  mates_picked e here n = n.0
  mates_picked e (later k) n = mates_picked e k n.1

  -- a mate of all is a mate of those that are left
  all_mates_left : {b : Dir} {ρ σ : List Dir} (e : Dir) → Pick b ρ σ → AllMates Mates e ρ → AllMates Mates e σ
  all_mates_left e here n = n.1
  all_mates_left e (later k) n = (n.0, all_mates_left e k n.1)

  -- what is left of a tame list is tame
  tame_left : {b : Dir} {ρ σ : List Dir} → Pick b ρ σ → Tame Mates ρ → Tame Mates σ
  tame_left here t = t.1
  tame_left (later {e = e} k) t = (all_mates_left e k t.0, tame_left k t.1)

  -- one answer for all directions of a list: each is a mate, or there is an X
  all_mates_or : (X : Type 0) (a : Dir) (ρ : List Dir) → ((b : Dir) (σ : List Dir) → Pick b ρ σ → Mates a b ⊎ X) → AllMates Mates a ρ ⊎ X
  all_mates_or X a [] f = inl tt
  all_mates_or X a (b ∷ ρ) f = both (f b ρ here) (all_mates_or X a ρ (λ c σ k. f c (b ∷ σ) (later k)))
    where
      both : Mates a b ⊎ X → AllMates Mates a ρ ⊎ X → (Mates a b × AllMates Mates a ρ) ⊎ X
      both (inr x) q = inr x
      both (inl n) (inr x) = inr x
      both (inl n) (inl m) = inl (n, m)

  -- the parts of a tame list are tame
  all_mates_part : (a : Dir) (μ ν : List Dir) → AllMates Mates a (μ ++ ν) → AllMates Mates a μ
  all_mates_part a [] ν n = tt
  all_mates_part a (b ∷ μ) ν n = (n.0, all_mates_part a μ ν n.1)

  -- the first part of a tame list is tame
  pub tame_part : (μ ν : List Dir) → Tame Mates (μ ++ ν) → Tame Mates μ
  tame_part [] ν t = tt
  tame_part (a ∷ μ) ν t = (all_mates_part a μ ν t.0, tame_part μ ν t.1)

  -- and so is the rest
  pub tame_rest : (μ ν : List Dir) → Tame Mates (μ ++ ν) → Tame Mates ν
  tame_rest [] ν t = t
  tame_rest (a ∷ μ) ν t = tame_rest μ ν t.1

-- where a walk passes no turning point, neither does what is left after its first step
later_plain : (B : Board) (a : Dir) (ds : List Dir) (s : Place) → passes B s (a ∷ ds) ≡ false → passes B (go a s) ds ≡ false
later_plain B a [] s h = refl
later_plain B a (b ∷ ds) s h = or_false_right (corner B (go a s)) (passes B (go a s) (b ∷ ds)) h

module _ {K : Kind} (W : Ways K) where
  -- a tame list leads to the same place in every order
  picked_end : {b : Dir} {ρ σ : List Dir} → Pick b ρ σ → Tame W.Mates ρ → (s : Place) → end s (b ∷ σ) ≡ end s ρ
  picked_end here m s = refl
  picked_end {b} (later {e = e} {σ = σ} k) m s =
      ap (λ (p : Place). end p σ) (W.meet e b s (mates_picked W.Mates e k m.0)) ∙ picked_end k m.1 (go e s)

  -- so does every rearrangement
  pub rearranged_end : {ρ τ : List Dir} → Rearranged ρ τ → Tame W.Mates ρ → (s : Place) → end s τ ≡ end s ρ
  rearranged_end empty m s = refl
  rearranged_end (put {b = b} k r) m s = rearranged_end r (tame_left W.Mates k m) (go b s) ∙ picked_end k m s

  module _ {B : Board} (padded : Padded B) where
    -- after a first step the rest is clear
    clear_later : (a : Dir) (s t : Place) (l : Len) → Free B s → (K.permits a && step B a s) ≡ true → Clear K B s t (size a ⊕ l) →
        Clear K B (go a s) t l
    clear_later a s t l f h c = λ ds w e. later_plain B a ds s (c (a ∷ ds) ((f, h, w.0), w.1) (ap (λ (k : Len). size a ⊕ k) e))

    -- where no walk of the length passes a turning point, the place after the first step is none
    clear_between : (a b : Dir) (ρ : List Dir) (s t : Place) (l : Len) → Clear K B s t l → Walk K B s t (a ∷ b ∷ ρ) → len (a ∷ b ∷ ρ) ≡ l →
        corner B (go a s) ≡ false
    clear_between a b ρ s t l c w e = or_false_left (corner B (go a s)) (passes B (go a s) (b ∷ ρ)) (c (a ∷ b ∷ ρ) w e)

    -- any direction of a tame walk may be taken first
    bring : {b : Dir} {ρ σ : List Dir} → Pick b ρ σ → (s t : Place) → Walk K B s t ρ → Tame W.Mates ρ → Clear K B s t (len ρ) →
        Walk K B s t (b ∷ σ)
    bring here s t w m c = w
    bring {b} (later {e = e} {ρ = ρ} {σ = σ} k) s t w m c =
        let r : Walk K B (go e s) t (b ∷ σ) = bring k (go e s) t (w.0.2, w.1) m.1 (clear_later e s t (len ρ) w.0.0 w.0.1 c) in
        let l : Legal K B s (e ∷ b ∷ σ) = (w.0.0, w.0.1, r.0) in
        let plain : corner B (go e s) ≡ false =
        clear_between e b σ s t (size e ⊕ len ρ) c (l, r.1) (ap (λ (l : Len). size e ⊕ l) (picked_len k)) in
        let mates : W.Mates e b = mates_picked W.Mates e k m.0 in
        (W.swap padded e b σ s mates plain l, ap (λ (p : Place). end p σ) (W.meet e b s mates) ∙ r.1)

    -- A. Every rearrangement of a tame walk is a walk, and no longer, where no walk of its length passes a turning point.
    pub rearrange : {ρ τ : List Dir} → Rearranged ρ τ → (s t : Place) → Walk K B s t ρ → Tame W.Mates ρ → Clear K B s t (len ρ) →
        Walk K B s t τ × (len τ ≡ len ρ)
    rearrange empty s t w m c = (w, refl)
    rearrange (put {b = b} {ρ = ρ} {σ = σ} {τ = τ} k r) s t w m c =
        let v : Walk K B s t (b ∷ σ) = bring k s t w m c in
        let n : Walk K B (go b s) t τ × (len τ ≡ len σ) =
        rearrange r (go b s) t (v.0.2, v.1) (tame_left W.Mates k m)
        (clear_later b s t (len σ) v.0.0 v.0.1 (subst (λ (l : Len). Clear K B s t l) (sym (picked_len k)) c)) in
        (((v.0.0, v.0.1, n.0.0), n.0.1), ap (λ (l : Len). size b ⊕ l) n.1 ∙ picked_len k)

    -- the turns and the swaps together: the first direction of a walk is a mate of every other one, or there is a detour
    mates_or_detour : (a : Dir) (ρ : List Dir) (s : Place) → Legal K B s (a ∷ ρ) → Clear K B s (end s (a ∷ ρ)) (len (a ∷ ρ)) → Tame W.Mates ρ →
        (b : Dir) (σ : List Dir) → Pick b ρ σ → W.Mates a b ⊎ Detour K B s (a ∷ ρ)
    mates_or_detour a ρ s l c m b σ k =
        let t : Place = end s (a ∷ ρ) in
        let v : Walk K B (go a s) t (b ∷ σ) = bring k (go a s) t (l.2, refl) m (clear_later a s t (len ρ) l.0 l.1 c) in
        let w : Legal K B s (a ∷ b ∷ σ) = (l.0, l.1, v.0) in
        let e : len (a ∷ b ∷ σ) ≡ len (a ∷ ρ) = ap (λ (l : Len). size a ⊕ l) (picked_len k) in
        ⊎_elim inl
        (λ d. inr (record {
          walk = d.walk;
          legal = d.legal;
          same_end = d.same_end ∙ v.1;
          shorter = subst (λ (l : Len). len d.walk ≺ l) e d.shorter;
        }))
        (W.turn padded a b σ s w (clear_between a b σ s t (len (a ∷ ρ)) c (w, v.1) e))

    -- C. Where no walk of its length passes a turning point, a walk is tame or there is a shorter one.
    pub tame_or_detour : (ds : List Dir) (s : Place) → Legal K B s ds → Clear K B s (end s ds) (len ds) → Tame W.Mates ds ⊎ Detour K B s ds
    tame_or_detour [] s l c = inl tt
    tame_or_detour (a ∷ ρ) s l c =
        ⊎_elim
        (λ m. ⊎_elim (λ n. inl (n, m)) inr (all_mates_or W.Mates (Detour K B s (a ∷ ρ)) a ρ (mates_or_detour a ρ s l c m)))
        (λ d. inr (record {
          walk = a ∷ d.walk;
          legal = (l.0, l.1, d.legal);
          same_end = d.same_end;
          shorter = ≺_left (size a) d.shorter;
        }))
        (tame_or_detour ρ (go a s) l.2 (clear_later a s (end s (a ∷ ρ)) (len ρ) l.0 l.1 c))
