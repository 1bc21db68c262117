-- The test by rows tells whether two places are joined directly.
-- Assumes nothing.
use mathlib.Core.Path.{◌≡◌, refl, sym}
use mathlib.Core.Bool.{Bool, true, false, not, ◌&&◌, Bool-discrete}
use mathlib.Core.List.{List, [], ◌∷◌}
use mathlib.Core.Logic.{◌↔◌, ◌⊎◌, inl, inr}
use Prim.Native.Nat.{ℕ, zero, suc, ◌+◌, ◌≤◌, ◌<◌}
use native.Mathlib.Omega.{arith}
use native.Mathlib.Decide.{dec_le, map_dec}
use lib.Dec.{ltb}
use lib.ListN.{replicate}
use borrow.Author.Tests.{lt-ltb, ltb-true}
use Rattle.floor.specs.Board.{Board, Padded, Place, Free, Dir, go, step, corner}
use Rattle.ground.specs.Kind.{octile, walkers}
use Rattle.ground.specs.Walk.{Legal}
use Rattle.ground.specs.Link.{Direct}
use Rattle.ground.specs.Line.{diagonal_way, straight_way}
use Rattle.ground.specs.Rows.{cell, Rows}
use Rattle.ground.specs.Test.{upto, legal, fine, rows, joined}
use Rattle.ground.proofs.Logic.{true_or_false, and_left, and_right, and_both}
use Rattle.ground.proofs.RowTest.{direct_iff_rows}

-- what passes up to n passes at each number up to n
pub upto_at : (n : ℕ) (f : ℕ → Bool) → upto n f ≡ true → (i : ℕ) → i ≤ n → f i ≡ true
upto_at zero f h i p = let e : i ≡ 0 = omega arith in rw e h
upto_at (suc n) f h i p = by (upto_at n f (and_left (upto n f) (f (suc n)) h) i) (dec_le i n)
  where
    by : (i ≤ n → f i ≡ true) → Dec (i ≤ n) → f i ≡ true
    by r (yes q) = r q
    by r (no q) = let e : i ≡ suc n = omega arith in rw e (and_right (upto n f) (f (suc n)) h)

-- and the other way round
upto_all : (n : ℕ) (f : ℕ → Bool) → ((i : ℕ) → i ≤ n → f i ≡ true) → upto n f ≡ true
upto_all zero f h = h 0 (omega arith)
upto_all (suc n) f h = and_both (upto_all n f (λ i p. h i (omega arith))) (h (suc n) (omega arith))

module _ (B : Board) where
  -- the test of a list tells that it is legal
  legal_is : (p : Place) (ds : List Dir) → legal B p ds ≡ true → Legal walkers B p ds
  legal_is p [] h = h
  legal_is p (d ∷ ds) h =
      let r = and_right (B p.x p.y) (step B d p && legal B (go d p) ds) h in (
        and_left (B p.x p.y) (step B d p && legal B (go d p) ds) h,
        and_left (step B d p) (legal B (go d p) ds) r,
        legal_is (go d p) ds (and_right (step B d p) (legal B (go d p) ds) r),
      )

  -- and a legal list passes it
  is_legal : (p : Place) (ds : List Dir) → Legal walkers B p ds → legal B p ds ≡ true
  is_legal p [] l = l
  is_legal p (d ∷ ds) l = and_both l.0 (and_both l.1 (is_legal (go d p) ds l.2))

  -- a cell that is fine is free
  fine_free : (p : Place) (m a : ℕ) → fine B p m a ≡ true → Free B p
  fine_free p m a h = and_left (B p.x p.y) (not (ltb 0 m && (ltb m a && corner B p))) h

  -- and no turning point, if it is between the two ends
  fine_plain : (p : Place) (m a : ℕ) → fine B p m a ≡ true → 0 < m → m < a → corner B p ≡ false
  fine_plain p m a h q r =
      not-true (corner B p)
      (rw (lt-ltb 0 m q, lt-ltb m a r) at (and_right (B p.x p.y) (not (ltb 0 m && (ltb m a && corner B p))) h))
    where
      not-true : (b : Bool) → not b ≡ true → b ≡ false
      not-true true h = sym h
      not-true false h = refl

  -- and the other way round
  is_fine : (p : Place) (m a : ℕ) → Free B p → (0 < m → m < a → corner B p ≡ false) → fine B p m a ≡ true
  is_fine p m a f h = and_both f (by (true_or_false (ltb 0 m)) (true_or_false (ltb m a)))
    where
      by : (ltb 0 m ≡ true) ⊎ (ltb 0 m ≡ false) → (ltb m a ≡ true) ⊎ (ltb m a ≡ false) → not (ltb 0 m && (ltb m a && corner B p)) ≡ true
      by (inr q) r = rw q
      by (inl q) (inr r) = rw (q, r)
      by (inl q) (inl r) = rw (q, r, h (ltb-true 0 m q) (ltb-true m a r))

  -- the test by rows is E's conditions
  rows_iff : (s : Place) (d c : Dir) (n k : ℕ) → (rows B s d c n k ≡ true) ↔ Rows B s d c n k
  rows_iff s d c n k = (λ h. there h, λ r. and_both (is_legal s (replicate n d) r.ray) (upto_all n (row_fine) (λ i p. upto_all k (cell_fine i) (λ j q. is_fine (cell s d c i j) (i + j) (n + k) (r.free i j p q) (r.plain i j p q)))))
    where
      cell_fine : ℕ → ℕ → Bool
      cell_fine i j = fine B (cell s d c i j) (i + j) (n + k)

      row_fine : ℕ → Bool
      row_fine i = upto k (cell_fine i)

      one : rows B s d c n k ≡ true → (i j : ℕ) → i ≤ n → j ≤ k → fine B (cell s d c i j) (i + j) (n + k) ≡ true
      one h i j p q = upto_at k (cell_fine i) (upto_at n row_fine (and_right (legal B s (replicate n d)) (upto n row_fine) h) i p) j q

      there : rows B s d c n k ≡ true → Rows B s d c n k
      there h =
          record {
            ray = legal_is s (replicate n d) (and_left (legal B s (replicate n d)) (upto n row_fine) h);
            free = λ i j p q. fine_free (cell s d c i j) (i + j) (n + k) (one h i j p q);
            plain = λ i j p q a b. fine_plain (cell s d c i j) (i + j) (n + k) (one h i j p q) a b;
          }

-- E, as a program uses it.
pub joined_iff_direct : {B : Board} → Padded B → (s t : Place) → (joined B s t ≡ true) ↔ Direct walkers B s t
unfolding joined
joined_iff_direct {B} padded s t =
    let r = rows_iff B s (diagonal_way s t) (straight_way s t) (octile s t).diagonal (octile s t).straight in
    let d = direct_iff_rows padded s t in
    (λ h. d.1 (r.0 h), λ h. r.1 (d.0 h))

-- Whether two places are joined directly can be decided.
pub direct_dec : {B : Board} → Padded B → (s t : Place) → Dec (Direct walkers B s t)
direct_dec {B} padded s t =
    let i = joined_iff_direct padded s t in map_dec (λ h. i.0 h) (λ d. i.1 d) (Bool-discrete (joined B s t) true)
