-- Every walk of octile length is made of the direct line's two directions, so where two places are joined directly, their direct line is a walk.
-- Assumes nothing.
use mathlib.Core.Path.{◌≡◌, refl, sym, ◌∙◌, ap, ap₂, subst}
use mathlib.Core.Bool.{Bool, true, false, cond}
use mathlib.Core.List.{List, [], ◌∷◌, ◌++◌}
use mathlib.Core.Logic.{◌⊎◌, inl, inr, ⊎_elim}
use Prim.Native.Nat.{ℕ, suc, ◌+◌, ◌<◌}
use native.Mathlib.Omega.{arith}
use lib.Dec.{ltb}
use lib.ListN.{length, replicate}
use borrow.Author.Tests.{lt-ltb, le-ltb}
use Rattle.lengths.specs.Lengths.{Len, pair, ◌⊕◌, gap}
use Rattle.floor.specs.Board.{Board, Padded, Place, Dir, Offset, less, same, more, dx, dy, moving, slanted}
use Rattle.ground.specs.Kind.{octile, walkers}
use Rattle.ground.specs.Walk.{end, Walk, len}
use Rattle.ground.specs.Link.{Clear, Direct}
use Rattle.ground.specs.Line.{toward, compass, diagonal_way, straight_way, line}
use Rattle.ground.proofs.Logic.{true_or_false, not_both}
use Rattle.ground.proofs.Tables.{each}
use Rattle.ground.proofs.Cells.{is_same}
use Rattle.ground.proofs.Near.{Near, opposite, follows, x_moves}
use Rattle.ground.proofs.Walks.{len_eq}
use Rattle.ground.proofs.Ways.{Tame}
use Rattle.ground.proofs.Tame.{Pick, here, later, Rearranged, empty, put, rearrange}
use Rattle.ground.proofs.Axes.{travel, moves, one_if, end_x, end_y, Inside, Inner, legal_within, Never, OneWay, ahead, behind, gap_moves, all_move, tame_one_way, moves_le}
use Rattle.ground.proofs.Octile.{tame_main, octile_tame}
use Rattle.ground.proofs.Walkers.{walker_ways}

-- What a direction that stands in a walk says of the walk's axis.
picked_moves : (ax : Dir → Offset) {a : Dir} {ds σ : List Dir} → Pick a ds σ → moving (ax a) ≡ true → 0 < moves ax ds
picked_moves ax here m = rw m (omega arith)
picked_moves ax (later k) m = let h = picked_moves ax k m in omega (arith, h)

-- one direction that stands still: not all move
picked_still : (ax : Dir → Offset) {a : Dir} {ds σ : List Dir} → Pick a ds σ → moving (ax a) ≡ false → moves ax ds < length ds
picked_still ax (here {ρ = ρ}) m = rw m (let h = moves_le ax ρ in omega arith)
picked_still ax (later {e = e} {ρ = ρ} k) m = by (moving (ax e)) (picked_still ax k m)
  where
    by : (b : Bool) → moves ax ρ < length ρ → one_if b + moves ax ρ < suc (length ρ)
    by true h = omega arith
    by false h = omega arith

-- a direction of a list that never goes against w does not go against w
picked_never : (ax : Dir → Offset) (w : Offset) {a : Dir} {ds σ : List Dir} → Pick a ds σ → Never w ax ds → opposite w (ax a) ≡ false
picked_never ax w here n = n.0
picked_never ax w (later k) n = picked_never ax w k n.1

-- the way to a larger number
pub toward_more : {m n : ℕ} → m < n → toward m n ≡ more
toward_more {m} {n} h = rw (lt-ltb m n h)

-- the way to a smaller number
pub toward_less : {m n : ℕ} → n < m → toward m n ≡ less
toward_less {m} {n} h = let e : ltb m n ≡ false = le-ltb m n (omega arith) in rw (e, lt-ltb n m h)

-- a list that goes one way and moves goes toward its end
toward_way : (ax : Dir → Offset) (n : ℕ) (ds : List Dir) (w : OneWay ax ds) → Inside ax n ds → 0 < moves ax ds → toward n (travel ax n ds) ≡ w.0
toward_way ax n ds w i h = by w.0 w.1 w.2
  where
    by : (o : Offset) → moving o ≡ true → Never o ax ds → toward n (travel ax n ds) ≡ o
    by less m k = let e = behind ax n ds k i in toward_less {m = n} {n = travel ax n ds} (omega (arith, e))
    by same m k = not_both m refl
    by more m k = let e = ahead ax n ds k in toward_more {m = n} {n = travel ax n ds} (omega (arith, e))

-- so does each of its directions that moves
picked_toward : (ax : Dir → Offset) (n : ℕ) {a : Dir} {ds σ : List Dir} → Pick a ds σ → OneWay ax ds → Inside ax n ds → moving (ax a) ≡ true →
    toward n (travel ax n ds) ≡ ax a
picked_toward ax n {ds = ds} k w i m =
    toward_way ax n ds w i (picked_moves ax k m) ∙ sym (follows w.0 (ax _) w.1 (picked_never ax w.0 k w.2) m)

-- a direction is the one with its two offsets
compass_of : (d : Dir) → compass (dx d) (dy d) ≡ d
compass_of = each (λ d. compass (dx d) (dy d) ≡ d) refl refl refl refl refl refl refl refl

-- the direct line's direction of a kind, diagonal or straight
abbrev pub way_of : Place → Place → Bool → Dir
way_of s t b = cond b (diagonal_way s t) (straight_way s t)

module _ (s : Place) (ds : List Dir) (within : Inner s ds) (tame : Tame Near ds) where
  -- a tame walk goes one way by columns
  on_x : OneWay dx ds
  on_x = tame_one_way Near dx (λ a b n. n.level) ds tame

  -- and by rows
  on_y : OneWay dy ds
  on_y = tame_one_way Near dy (λ a b n. n.upright) ds tame

  -- its moves by columns are the gap of columns
  gap_x : gap s.x (end s ds).x ≡ moves dx ds
  gap_x = rw (end_x s ds) (gap_moves dx s.x ds on_x within.0)

  -- its moves by rows are the gap of rows
  gap_y : gap s.y (end s ds).y ≡ moves dy ds
  gap_y = rw (end_y s ds) (gap_moves dy s.y ds on_y within.1)

  module _ {a : Dir} {σ : List Dir} (k : Pick a ds σ) where
    -- a direction that moves by columns moves toward the end
    toward_x : moving (dx a) ≡ true → toward s.x (end s ds).x ≡ dx a
    toward_x m = rw (end_x s ds) (picked_toward dx s.x k on_x within.0 m)

    -- and so by rows
    toward_y : moving (dy a) ≡ true → toward s.y (end s ds).y ≡ dy a
    toward_y m = rw (end_y s ds) (picked_toward dy s.y k on_y within.1 m)

    -- a level direction stands only in a walk that is wide
    wide : moving (dy a) ≡ false → ltb (gap s.y (end s ds).y) (gap s.x (end s ds).x) ≡ true
    wide m = ⊎_elim
        (λ x. let e = all_move dx ds x in let h = picked_still dy k m in rw (gap_x, gap_y) (lt-ltb (moves dy ds) (moves dx ds) (omega (arith, e, h))))
        (λ y. let e = all_move dy ds y in let h = picked_still dy k m in absurd (omega (arith, e, h)))
        (tame_main ds tame)

    -- an upright one only in a walk that is tall
    tall : moving (dx a) ≡ false → ltb (gap s.y (end s ds).y) (gap s.x (end s ds).x) ≡ false
    tall m = ⊎_elim
        (λ x. let e = all_move dx ds x in let h = picked_still dx k m in absurd (omega (arith, e, h)))
        (λ y. let e = all_move dy ds y in let h = picked_still dx k m in rw (gap_x, gap_y) (le-ltb (moves dy ds) (moves dx ds) (omega (arith, e, moves_le dx ds))))
        (tame_main ds tame)

    -- every direction of the walk is the direct line's of its kind
    pub letter : a ≡ way_of s (end s ds) (slanted a)
    letter = by (true_or_false (moving (dx a))) (true_or_false (moving (dy a)))
      where
        by : (moving (dx a) ≡ true) ⊎ (moving (dx a) ≡ false) → (moving (dy a) ≡ true) ⊎ (moving (dy a) ≡ false) → a ≡ way_of s (end s ds) (slanted a)
        by (inl p) (inl q) = rw (p, q) (sym (ap₂ compass (toward_x p) (toward_y q) ∙ compass_of a))
        by (inl p) (inr q) = rw (p, q, wide q) (sym (ap₂ compass (toward_x p) (is_same (dy a) q) ∙ compass_of a))
        by (inr p) (inl q) = rw (p, tall p) (sym (ap₂ compass (is_same (dx a) p) (toward_y q) ∙ compass_of a))
        by (inr p) (inr q) = not_both (x_moves a q) p

-- Every direction is the one of its kind: D if it is diagonal, C if it is straight. Then all that are D may be put first.
abbrev pub Over : (Bool → Dir) → List Dir → Type 0
Over way [] = Unit {0}
Over way (a ∷ ρ) = (a ≡ way (slanted a)) × Over way ρ

-- it is enough to know each direction of the list
over_picked : (way : Bool → Dir) (ds : List Dir) → ((a : Dir) (σ : List Dir) → Pick a ds σ → a ≡ way (slanted a)) → Over way ds
over_picked way [] f = tt
over_picked way (a ∷ ρ) f = (f a ρ here, over_picked way ρ (λ b σ k. f b (a ∷ σ) (later k)))

-- a tame walk is made of the direct line's two directions
pub tame_over : (s : Place) (ds : List Dir) → Inner s ds → Tame Near ds → Over (way_of s (end s ds)) ds
tame_over s ds w t = over_picked (way_of s (end s ds)) ds (λ a σ k. letter s ds w t k)

-- a direction may be put anywhere into a rearrangement
insert : (b : Dir) (μ ν : List Dir) {ρ : List Dir} → Rearranged ρ (μ ++ ν) → Rearranged (b ∷ ρ) (μ ++ (b ∷ ν))
insert b [] ν r = put here r
insert b (c ∷ μ) ν (put k r) = put (later k) (insert b μ ν r)

-- the diagonal steps first, then the straight ones
abbrev pub sorted : (Bool → Dir) → Len → List Dir
sorted way l = replicate l.diagonal (way true) ++ replicate l.straight (way false)

-- one more diagonal step
one_diagonal : (l : Len) → pair l.straight (suc l.diagonal) ≡ pair 0 1 ⊕ l
one_diagonal l = len_eq (omega arith) (omega arith)

-- one more straight step
one_straight : (l : Len) → pair (suc l.straight) l.diagonal ≡ pair 1 0 ⊕ l
one_straight l = len_eq (omega arith) (omega arith)

-- a list of two directions may be sorted
pub sort : (way : Bool → Dir) (ds : List Dir) → Over way ds → Rearranged ds (sorted way (len ds))
sort way [] o = empty
sort way (a ∷ ρ) o = by (slanted a) o.0 (sort way ρ o.1)
  where
    by : (b : Bool) → a ≡ way b → Rearranged ρ (sorted way (len ρ)) →
        Rearranged (a ∷ ρ) (sorted way (cond b (pair 0 1) (pair 1 0) ⊕ len ρ))
    by true e r =
        subst (λ (l : Len). Rearranged (a ∷ ρ) (sorted way l))
        (one_diagonal (len ρ))
        (subst (λ (c : Dir). Rearranged (a ∷ ρ) (c ∷ sorted way (len ρ))) e (put here r))
    by false e r =
        subst (λ (l : Len). Rearranged (a ∷ ρ) (sorted way l))
        (one_straight (len ρ))
        (subst (λ (c : Dir). Rearranged (a ∷ ρ) (replicate (len ρ).diagonal (way true) ++ (c ∷ replicate (len ρ).straight (way false)))) e
        (insert a (replicate (len ρ).diagonal (way true)) (replicate (len ρ).straight (way false)) r))

-- What is known of any walk of octile length between two places that are joined directly.
pub record Octile_walk (B : Board) (s t : Place) (ds : List Dir) : Type 0 where
  pub walk : Walk walkers B s t ds
  pub is_octile : len ds ≡ octile s t
  pub tame : Tame Near ds
  pub over : Over (way_of s t) ds

module _ {B : Board} (padded : Padded B) (s t : Place) where
  -- a walk of octile length has all this
  pub octile_walk : (ds : List Dir) → Walk walkers B s t ds → len ds ≡ octile s t → Octile_walk B s t ds
  octile_walk ds w e =
      let m : Tame Near ds = octile_tame s ds (e ∙ ap (λ (q : Place). octile s q) (sym w.1)) in
      record {
        walk = w;
        is_octile = e;
        tame = m;
        over = subst (λ (q : Place). Over (way_of s q) ds) w.1 (tame_over s ds (legal_within walkers padded s ds w.0) m);
      }

  -- every rearrangement of a walk of octile length is a walk, between places that are joined directly
  pub direct_rearrange : Direct walkers B s t → {ds τ : List Dir} → Octile_walk B s t ds → Rearranged ds τ → Octile_walk B s t τ
  direct_rearrange d {ds} {τ} o r =
      let v : Walk walkers B s t τ × (len τ ≡ len ds) =
      rearrange walker_ways padded r s t o.walk o.tame (subst (λ (l : Len). Clear walkers B s t l) (sym o.is_octile) d.clear) in
      octile_walk τ v.0 (v.1 ∙ o.is_octile)

  -- so the direct line is one such walk
  pub line_walk : Direct walkers B s t → Octile_walk B s t (line s t)
  line_walk d =
      let (ds, w, e) = d.reached in
      let o : Octile_walk B s t ds = octile_walk ds w e in
      direct_rearrange d o (subst (λ (l : Len). Rearranged ds (sorted (way_of s t) l)) e (sort (way_of s t) ds o.over))

  -- A. The direct line of two places that are joined directly is a walk, and has their octile length.
  pub direct_line : Direct walkers B s t → Walk walkers B s t (line s t) × (len (line s t) ≡ octile s t)
  direct_line d = ((line_walk d).walk, (line_walk d).is_octile)
