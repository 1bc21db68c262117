-- A certified claim gives every place that is reached its shortest length at most, and claims every place that is reached.
-- So where a walk is as long as the claim, it is shortest, and no walk leads to a place that is not claimed.
-- Assumes nothing.
use mathlib.Core.Path.{◌≡◌, sym, ◌∙◌, ap, subst}
use mathlib.Core.Bool.{Bool, true, false, not, cond, ◌&&◌}
use mathlib.Core.List.{List, [], ◌∷◌}
use mathlib.Core.Logic.{⊎_elim}
use Prim.Native.Nat.{ℕ, ◌≤◌}
use native.Mathlib.Omega.{arith}
use lib.Dec.{eqb}
use borrow.Author.Tests.{eqb-true}
use Rattle.lengths.specs.Lengths.{Len, ◌⊕◌, ◌≼◌, shorter}
use Rattle.lengths.specs.Laws.{same_pair, ⊕_zero, ⊕_assoc, ⊕-≼, ≼_refl, ≼_trans, ≼_or-≻, ≺_shorter}
use Rattle.floor.specs.Board.{Board, Place, Dir, dir_at, go}
use Rattle.ground.specs.Kind.{Kind}
use Rattle.ground.specs.Walk.{end, Legal, Walk, size, len, Shortest, NoWalk}
use Rattle.ground.specs.Test.{upto}
use Rattle.ground.specs.Within.{Within}
use Rattle.ground.specs.Certificate.{Claim, Certified, every, onward, certifies}
use Rattle.ground.proofs.Logic.{not_both, and_left, and_right, and_both}
use Rattle.ground.proofs.Tables.{each}
use Rattle.ground.proofs.Walks.{𝟎-⊕}
use Rattle.ground.proofs.Joined.{upto_at}

module _ {K : Kind} {B : Board} {s : Place} {c : Claim} (certified : Certified K B s c) where
  -- along a walk from a claimed place the claims grow by no more than its length
  along : (ds : List Dir) (p : Place) → Legal K B p ds → c.reached p ≡ true →
      (c.reached (end p ds) ≡ true) × (c.far (end p ds) ≼ c.far p ⊕ len ds)
  along [] p l r = (r, subst (λ (m : Len). c.far p ≼ m) (sym (⊕_zero (c.far p))) (≼_refl (c.far p)))
  along (d ∷ ds) p l r =
      let (q, k) = certified.onward p d l.0 l.1 r in
      let (e, m) = along ds (go d p) l.2 q in (
        e,
        ≼_trans m (subst (λ (x : Len). (c.far (go d p) ⊕ len ds) ≼ x) (⊕_assoc (c.far p) (size d) (len ds))
            ((⊕-≼ (c.far (go d p)) (c.far p ⊕ size d) (len ds)).1 k)),
      )

  -- Every walk leads to a claimed place, and is no shorter than its claim.
  pub certified_least : (t : Place) (ds : List Dir) → Walk K B s t ds → (c.reached t ≡ true) × (c.far t ≼ len ds)
  certified_least t ds w =
      let (r, k) = along ds s w.0 certified.start in
      let zero : c.far s ⊕ len ds ≡ len ds = ap (λ (l : Len). l ⊕ len ds) certified.zero ∙ 𝟎-⊕ (len ds) in
      subst (λ (p : Place). (c.reached p ≡ true) × (c.far p ≼ len ds)) w.1 (r, subst (λ (l : Len). c.far (end s ds) ≼ l) zero k)

  -- A walk as long as the claim is shortest.
  pub certified_shortest : (t : Place) (ds : List Dir) → Walk K B s t ds → len ds ≡ c.far t → Shortest K B s t (c.far t)
  certified_shortest t ds w e = record { some = (ds, w, e); least = λ ws v. (certified_least t ws v).1 }

  -- No walk leads to a place that is not claimed.
  pub certified_none : (t : Place) → c.reached t ≡ false → NoWalk K B s t
  certified_none t f ds w = not_both (certified_least t ds w).0 f

-- ---- the test
-- what all eight directions pass, each passes
every_at : (f : Dir → Bool) → every f ≡ true → (d : Dir) → f d ≡ true
every_at f h =
    each (λ d. f d ≡ true) (nth 0 (omega arith)) (nth 1 (omega arith)) (nth 2 (omega arith)) (nth 3 (omega arith)) (nth 4 (omega arith))
    (nth 5 (omega arith)) (nth 6 (omega arith)) (nth 7 (omega arith))
  where
    nth : (n : ℕ) → n ≤ 7 → f (dir_at n) ≡ true
    nth = upto_at 7 (λ n. f (dir_at n)) h

-- what is not shorter is no less
not_shorter : (x y : Len) → not (shorter y x) ≡ true → x ≼ y
not_shorter x y h = ⊎_elim (λ k. k) (λ k. absurd (not_both h (ap not (≺_shorter k)))) (≼_or-≻ x y)

module _ (K : Kind) {B : Board} {w h : ℕ} (within : Within w h B) (s : Place) (c : Claim) where
  -- A claim that passes the test on a bounded board is certified.
  pub certifies_certified : certifies K B w h s c ≡ true → Certified K B s c
  unfolding certifies
  certifies_certified t =
      let all : ℕ → Bool = λ x. upto h (λ y. every (onward K B c (record { x = x; y = y }))) in
      let zero : Bool = eqb (c.far s).straight 0 && eqb (c.far s).diagonal 0 in
      let rest : (zero && upto w all) ≡ true = and_right (c.reached s) (zero && upto w all) t in
      let z : zero ≡ true = and_left zero (upto w all) rest in
      record {
        start = and_left (c.reached s) (zero && upto w all) t;
        zero =
            same_pair (eqb-true (c.far s).straight 0 (and_left (eqb (c.far s).straight 0) (eqb (c.far s).diagonal 0) z))
            (eqb-true (c.far s).diagonal 0 (and_right (eqb (c.far s).straight 0) (eqb (c.far s).diagonal 0) z));
        onward = λ p d f l r.
            let column : upto h (λ y. every (onward K B c (record { x = p.x; y = y }))) ≡ true =
            upto_at w all (and_right zero (upto w all) rest) p.x (within.wide p.x p.y f) in
            let here : onward K B c p d ≡ true =
            every_at (onward K B c p) (upto_at h (λ y. every (onward K B c (record { x = p.x; y = y }))) column p.y (within.high p.x p.y f)) d in
            let both : (c.reached (go d p) && not (shorter (c.far p ⊕ size d) (c.far (go d p)))) ≡ true =
            subst (λ (b : Bool). cond b (c.reached (go d p) && not (shorter (c.far p ⊕ size d) (c.far (go d p)))) true ≡ true)
            (and_both f (and_both l r)) here in (
              and_left (c.reached (go d p)) _ both,
              not_shorter (c.far (go d p)) (c.far p ⊕ size d) (and_right (c.reached (go d p)) _ both),
            );
      }
