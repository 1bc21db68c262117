-- Walks put one after the other, and the laws of adding lengths.
-- Assumes nothing.
use mathlib.Core.Path.{◌≡◌, refl, sym, ◌∙◌, ap, subst}
use mathlib.Core.Bool.{Bool, true, false, cond}
use mathlib.Core.List.{List, [], ◌∷◌, ◌++◌}
use Prim.Native.Nat.{ℕ}
use native.Mathlib.Omega.{arith}
use Rattle.lengths.specs.Lengths.{Len, pair, 𝟎, ◌⊕◌, ◌≺◌, ◌≼◌}
use Rattle.lengths.specs.Laws.{⊕_comm, ⊕_assoc, ⊕-≺, ≼_antisym, ≼-≺_trans, 𝟎_least, straight_step, diagonal_step}
use Rattle.floor.specs.Board.{Board, Place, Free, Dir, go, slanted}
use Rattle.ground.specs.Kind.{Kind}
use Rattle.ground.specs.Walk.{end, Legal, Walk, size, len, Shortest}

-- places and lengths are equal by their two numbers
pub place_eq : {a b c d : ℕ} → a ≡ c → b ≡ d → ◌≡◌ {A = Place} (record { x = a; y = b }) (record { x = c; y = d })
place_eq p q = λ i. record { x = p i; y = q i }

-- so are lengths
pub len_eq : {a b c d : ℕ} → a ≡ c → b ≡ d → pair a b ≡ pair c d
len_eq p q = λ i. pair (p i) (q i)

-- no step adds nothing
pub 𝟎-⊕ : (a : Len) → 𝟎 ⊕ a ≡ a
𝟎-⊕ a = len_eq (omega arith) (omega arith)

-- two summands change places
pub ⊕_swap : (a b c : Len) → a ⊕ (b ⊕ c) ≡ b ⊕ (a ⊕ c)
⊕_swap a b c = len_eq (omega arith) (omega arith)

-- the length of two walks in a row
pub len_append : (u v : List Dir) → len (u ++ v) ≡ len u ⊕ len v
len_append [] v = sym (𝟎-⊕ (len v))
len_append (d ∷ u) v = ap (λ (l : Len). size d ⊕ l) (len_append u v) ∙ sym (⊕_assoc (size d) (len u) (len v))

-- where two walks in a row lead
pub end_append : (s : Place) (u v : List Dir) → end s (u ++ v) ≡ end (end s u) v
end_append s [] v = refl
end_append s (d ∷ u) v = end_append (go d s) u v

module _ (K : Kind) (B : Board) where
  -- a walk begins and ends on free places
  pub start_free : (s : Place) (ds : List Dir) → Legal K B s ds → Free B s
  start_free s [] l = l
  start_free s (d ∷ ds) l = l.0

  -- and ends on one
  pub end_free : (s : Place) (ds : List Dir) → Legal K B s ds → Free B (end s ds)
  end_free s [] l = l
  end_free s (d ∷ ds) l = end_free (go d s) ds l.2

  -- two legal lists in a row are legal, and so are the parts of one
  pub legal_append : (s : Place) (u v : List Dir) → Legal K B s u → Legal K B (end s u) v → Legal K B s (u ++ v)
  legal_append s [] v l m = m
  legal_append s (d ∷ u) v l m = (l.0, l.1, legal_append (go d s) u v l.2 m)

  -- the first part of a legal list is legal
  pub legal_first : (s : Place) (u v : List Dir) → Legal K B s (u ++ v) → Legal K B s u
  legal_first s [] v l = start_free s v l
  legal_first s (d ∷ u) v l = (l.0, l.1, legal_first (go d s) u v l.2)

  -- and so is the rest
  pub legal_rest : (s : Place) (u v : List Dir) → Legal K B s (u ++ v) → Legal K B (end s u) v
  legal_rest s [] v l = l
  legal_rest s (d ∷ u) v l = legal_rest (go d s) u v l.2

  -- Walks join, and their lengths add.
  pub walk_append : (s p t : Place) (u v : List Dir) → Walk K B s p u → Walk K B p t v → Walk K B s t (u ++ v) × (len (u ++ v) ≡ len u ⊕ len v)
  walk_append s p t u v a b = (
    (
      legal_append s u v a.0 (subst (λ (q : Place). Legal K B q v) (sym a.1) b.0),
      end_append s u v ∙ ap (λ (q : Place). end q v) a.1 ∙ b.1,
    ),
    len_append u v,
  )

-- Two places have one shortest length at most.
pub shortest_unique : {K : Kind} {B : Board} {s t : Place} {l m : Len} → Shortest K B s t l → Shortest K B s t m → l ≡ m
shortest_unique {K} {B} {s} {t} {l} {m} h k =
    let (ds, w, e) = h.some in
    let (ws, v, f) = k.some in
    ≼_antisym (subst (λ (x : Len). l ≼ x) f (h.least ws v)) (subst (λ (x : Len). m ≼ x) e (k.least ds w))

-- the same in front keeps an order
pub ≺_left : {a b : Len} (c : Len) → a ≺ b → (c ⊕ a) ≺ (c ⊕ b)
≺_left {a} {b} c h = rw (⊕_comm c a, ⊕_comm c b) ((⊕-≺ a b c).1 h)

-- a step makes a walk longer
pub step_longer : (d : Dir) (l : Len) → l ≺ (size d ⊕ l)
step_longer d l = rw (⊕_comm (size d) l) (by (slanted d))
  where
    by : (b : Bool) → l ≺ (l ⊕ cond b (pair 0 1) (pair 1 0))
    by true = diagonal_step l
    by false = straight_step l

-- a walk that takes a step has a length
pub positive : (d : Dir) (ds : List Dir) → 𝟎 ≺ len (d ∷ ds)
positive d ds = ≼-≺_trans (𝟎_least (len ds)) (step_longer d (len ds))
