-- Among the finitely many lists of n directions one has a property that can be decided, or 𝟎 has.
-- Assumes nothing.
use mathlib.Core.Path.{◌≡◌, ap}
use mathlib.Core.Bool.{true, ◌&&◌, Bool-discrete}
use mathlib.Core.List.{List, [], ◌∷◌}
use mathlib.Core.Logic.Dec
use mathlib.Core.Logic.{◌⊎◌, inl, inr, ⊎_elim}
use Prim.Native.Nat.{ℕ, zero, suc}
use native.Mathlib.Decide.{ℕ_discrete}
use native.Mathlib.Omega.{arith}
use lib.ListN.{length}
use Rattle.lengths.specs.Lengths.{Len}
use Rattle.floor.specs.Board.{Board, Place, Dir, N, E, S, W, NE, SE, SW, NW, go, step}
use Rattle.ground.specs.Kind.{Kind}
use Rattle.ground.specs.Walk.{end, Legal, Walk}
use Rattle.ground.proofs.Tables.{each}
use Rattle.ground.proofs.Walks.{place_eq, len_eq}

module _ (Q R : Dir → Type 0) where
  -- one direction has Q, or all have R
  some_dir : ((d : Dir) → Q d ⊎ R d) → ((d : Dir) × Q d) ⊎ ((d : Dir) → R d)
  some_dir f =
      ⊎_elim (λ q. inl (N, q)) (λ n.
      ⊎_elim (λ q. inl (E, q)) (λ e.
      ⊎_elim (λ q. inl (S, q)) (λ s.
      ⊎_elim (λ q. inl (W, q)) (λ w.
      ⊎_elim (λ q. inl (NE, q)) (λ ne.
      ⊎_elim (λ q. inl (SE, q)) (λ se.
      ⊎_elim (λ q. inl (SW, q)) (λ sw.
      ⊎_elim (λ q. inl (NW, q)) (λ nw. inr (each R n e s w ne se sw nw))
      (f NW)) (f SW)) (f SE)) (f NE)) (f W)) (f S)) (f E)) (f N)

-- One list of n directions has a property that can be decided, or none has.
pub some_list : (n : ℕ) (P : List Dir → Type 0) → ((ds : List Dir) → Dec (P ds)) →
    ((ds : List Dir) × P ds) ⊎ ((ds : List Dir) → length ds ≡ n → ¬ (P ds))
some_list zero P dec = by (dec [])
  where
    only : ¬ (P []) → (ds : List Dir) → length ds ≡ zero → ¬ (P ds)
    only h [] e = h
    only h (d ∷ ds) e = absurd (omega arith)

    by : Dec (P []) → ((ds : List Dir) × P ds) ⊎ ((ds : List Dir) → length ds ≡ zero → ¬ (P ds))
    by (yes p) = inl ([], p)
    by (no h) = inr (only h)
some_list (suc n) P dec =
    ⊎_elim (λ r. inl (r.0 ∷ r.1.0, r.1.1)) (λ h. inr (longer h))
    (some_dir (λ d. (ds : List Dir) × P (d ∷ ds)) (λ d. (ds : List Dir) → length ds ≡ n → ¬ (P (d ∷ ds)))
    (λ d. some_list n (λ ds. P (d ∷ ds)) (λ ds. dec (d ∷ ds))))
  where
    longer : ((d : Dir) (ds : List Dir) → length ds ≡ n → ¬ (P (d ∷ ds))) → (ds : List Dir) → length ds ≡ suc n → ¬ (P ds)
    longer h [] e = absurd (omega arith)
    longer h (d ∷ ds) e = h d ds (omega arith)

-- whether two places are the same can be decided
pub place_discrete : Discrete Place
place_discrete p q = by (ℕ_discrete p.x q.x) (ℕ_discrete p.y q.y)
  where
    by : Dec (p.x ≡ q.x) → Dec (p.y ≡ q.y) → Dec (p ≡ q)
    by (no h) d = no (λ e. h (ap (λ (r : Place). r.x) e))
    by (yes e) (no h) = no (λ e. h (ap (λ (r : Place). r.y) e))
    by (yes e) (yes f) = yes (place_eq e f)

-- and whether two lengths are
pub len_discrete : Discrete Len
len_discrete p q = by (ℕ_discrete p.straight q.straight) (ℕ_discrete p.diagonal q.diagonal)
  where
    by : Dec (p.straight ≡ q.straight) → Dec (p.diagonal ≡ q.diagonal) → Dec (p ≡ q)
    by (no h) d = no (λ e. h (ap (λ (r : Len). r.straight) e))
    by (yes e) (no h) = no (λ e. h (ap (λ (r : Len). r.diagonal) e))
    by (yes e) (yes f) = yes (len_eq e f)

-- three things that can be decided can be decided together
pub dec_three : {X Y Z : Type 0} → Dec X → Dec Y → Dec Z → Dec (X × Y × Z)
dec_three (no h) e f = no (λ t. h t.0)
dec_three (yes x) (no h) f = no (λ t. h t.1)
dec_three (yes x) (yes y) (no h) = no (λ t. h t.2)
dec_three (yes x) (yes y) (yes z) = yes (x, y, z)

-- whether a list is legal, and whether it is a walk from s to t, can be decided
module _ (K : Kind) (B : Board) where
  -- whether a list is legal
  legal_dec : (s : Place) (ds : List Dir) → Dec (Legal K B s ds)
  legal_dec s [] = Bool-discrete (B s.x s.y) true
  legal_dec s (d ∷ ds) =
      dec_three (Bool-discrete (B s.x s.y) true) (Bool-discrete (K.permits d && step B d s) true) (legal_dec (go d s) ds)

  -- whether it is a walk from s to t
  pub walk_dec : (s t : Place) (ds : List Dir) → Dec (Walk K B s t ds)
  walk_dec s t ds = Dec.and (legal_dec s ds) (place_discrete (end s ds) t)
