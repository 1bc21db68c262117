-- A walk may be gone backwards, so what is shortest, joined directly or chained is so the other way round.
-- Assumes nothing.
use mathlib.Core.Path.{◌≡◌, refl, sym, ◌∙◌, ap, subst}
use mathlib.Core.Bool.{true, false, ◌&&◌}
use mathlib.Core.List.{List, [], ◌∷◌, ◌++◌, append_assoc, append-nil}
use mathlib.Core.Logic.{⊎_elim}
use native.Mathlib.Omega.{arith}
use Rattle.lengths.specs.Lengths.{Len, ◌⊕◌, ◌≼◌}
use Rattle.lengths.specs.Laws.{⊕_comm}
use Rattle.floor.specs.Board.{Board, Padded, Place, Free, Dir, Offset, dx, dy, shift, go, step, corner}
use Rattle.ground.specs.Kind.{Kind}
use Rattle.ground.specs.Walk.{end, Legal, Walk, size, len, Shortest, passes}
use Rattle.ground.specs.Link.{Direct, Chain, last, join}
use Rattle.ground.proofs.Logic.{true_or_false, not_both, and_left, and_right, and_both}
use Rattle.ground.proofs.Tables.{each}
use Rattle.ground.proofs.Cells.{back, back_undoes, column_inside, row_inside, Cells, step_cells, cells_step}
use Rattle.ground.proofs.Walks.{place_eq, len_eq, len_append, end_append, legal_append, legal_rest, start_free}
use Rattle.ground.proofs.Meets.{Met, met, passes_none_at}
use Rattle.ground.proofs.Ways.{opposite_of, Returns, Ways}
use Rattle.ground.proofs.Axes.{same_steps}
use Rattle.ground.proofs.Chains.{append}

-- the direction back has the offsets back, and the same length
opposed_x : (d : Dir) → dx (opposite_of d) ≡ back (dx d)
opposed_x = each (λ d. dx (opposite_of d) ≡ back (dx d)) refl refl refl refl refl refl refl refl

-- the offset by rows
opposed_y : (d : Dir) → dy (opposite_of d) ≡ back (dy d)
opposed_y = each (λ d. dy (opposite_of d) ≡ back (dy d)) refl refl refl refl refl refl refl refl

-- the length
opposed_size : (d : Dir) → size (opposite_of d) ≡ size d
opposed_size = each (λ d. size (opposite_of d) ≡ size d) refl refl refl refl refl refl refl refl

-- a list gone backwards
abbrev pub backwards : List Dir → List Dir
backwards [] = []
backwards (d ∷ ds) = backwards ds ++ (opposite_of d ∷ [])

-- two lists in a row go backwards in the other order
backwards_append : (u v : List Dir) → backwards (u ++ v) ≡ backwards v ++ backwards u
backwards_append [] v = sym (append-nil (backwards v))
backwards_append (d ∷ u) v =
    ap (λ (l : List Dir). l ++ (opposite_of d ∷ [])) (backwards_append u v) ∙ append_assoc (backwards v) (backwards u) (opposite_of d ∷ [])

-- it is as long
pub backwards_len : (ds : List Dir) → len (backwards ds) ≡ len ds
backwards_len [] = refl
backwards_len (d ∷ ds) =
    len_append (backwards ds) (opposite_of d ∷ []) ∙ ⊕_comm (len (backwards ds)) (len (opposite_of d ∷ []))
    ∙ ap (λ (l : Len). len (opposite_of d ∷ []) ⊕ l) (backwards_len ds)
    ∙ ap (λ (l : Len). (l ⊕ len []) ⊕ len ds) (opposed_size d) ∙ len_eq (omega arith) (omega arith)

module _ {K : Kind} (returns : Returns K) {B : Board} (padded : Padded B) where
  module _ (d : Dir) (p : Place) (free : Free B p) where
    -- a step and the step back lead to the same column
    back_x : shift (dx (opposite_of d)) (shift (dx d) p.x) ≡ p.x
    back_x = ap (λ (o : Offset). shift o (shift (dx d) p.x)) (opposed_x d) ∙ back_undoes (dx d) (column_inside padded free)

    -- and to the same row
    back_y : shift (dy (opposite_of d)) (shift (dy d) p.y) ≡ p.y
    back_y = ap (λ (o : Offset). shift o (shift (dy d) p.y)) (opposed_y d) ∙ back_undoes (dy d) (row_inside padded free)

    -- a step and the step back lead home, and where the one is legal so is the other
    go_back : go (opposite_of d) (go d p) ≡ p
    go_back = place_eq back_x back_y

    -- where a step is legal so is the step back
    step_back : (K.permits d && step B d p) ≡ true → (K.permits (opposite_of d) && step B (opposite_of d) (go d p)) ≡ true
    step_back h =
        let c : Cells B (dx d) (dy d) p.x p.y = step_cells B d p free (and_right (K.permits d) (step B d p) h) in
        and_both (returns.permits_back d (and_left (K.permits d) (step B d p) h))
        (cells_step B (opposite_of d) (go d p) (rw (back_x, back_y) free, rw back_x c.2, rw back_y c.1))

  -- a legal list gone backwards is a walk home
  backwards_walk : (s : Place) (ds : List Dir) → Legal K B s ds → Walk K B (end s ds) s (backwards ds)
  backwards_walk s [] l = (l, refl)
  backwards_walk s (d ∷ ds) l =
      let r : Walk K B (end (go d s) ds) (go d s) (backwards ds) = backwards_walk (go d s) ds l.2 in
      let home : go (opposite_of d) (go d s) ≡ s = go_back d s l.0 in
      let final : Legal K B (go d s) (opposite_of d ∷ []) =
      (start_free K B (go d s) ds l.2, step_back d s l.0 l.1, subst (λ (p : Place). Free B p) (sym home) l.0) in (
        legal_append K B (end (go d s) ds) (backwards ds) (opposite_of d ∷ []) r.0
            (subst (λ (p : Place). Legal K B p (opposite_of d ∷ [])) (sym r.1) final),
        end_append (end (go d s) ds) (backwards ds) (opposite_of d ∷ []) ∙ ap (go (opposite_of d)) r.1 ∙ home,
      )

  -- A walk gone backwards is a walk of the same length.
  pub walk_back : (s t : Place) (ds : List Dir) → Walk K B s t ds → Walk K B t s (backwards ds) × (len (backwards ds) ≡ len ds)
  walk_back s t ds w = (subst (λ (p : Place). Walk K B p s (backwards ds)) w.1 (backwards_walk s ds w.0), backwards_len ds)

  -- The shortest length is the same both ways.
  pub shortest_back : {s t : Place} {l : Len} → Shortest K B s t l → Shortest K B t s l
  shortest_back {s} {t} {l} h =
      let (ds, w, e) = h.some in
      let b = walk_back s t ds w in
      record {
        some = (backwards ds, b.0, b.1 ∙ e);
        least = λ ws v. let c = walk_back t s ws v in subst (λ (m : Len). l ≼ m) c.1 (h.least (backwards ws) c.0);
      }

module _ {K : Kind} (ways : Ways K) {B : Board} (padded : Padded B) where
  -- Joined directly is the same both ways.
  pub direct_back : (s t : Place) → Direct K B s t → Direct K B t s
  direct_back s t d =
      let (ds, w, e) = d.reached in
      let b = walk_back ways.returns padded s t ds w in
      record {
        reached = (backwards ds, b.0, b.1 ∙ e ∙ ways.apart_comm s t);
        clear = λ ws w e. ⊎_elim (λ m. none_met ws w e (met B ws t m)) (λ f. f) (true_or_false (passes B t ws));
      }
    where
      none_met : (ws : List Dir) → Walk K B t s ws → len ws ≡ K.apart t s → Met B t ws → passes B t ws ≡ false
      none_met ws w e m =
          let μ : List Dir = m.first ∷ m.before in
          let ν : List Dir = m.next ∷ m.after in
          let w' : Walk K B t s (μ ++ ν) = subst (λ (x : List Dir). Walk K B t s x) m.whole w in
          let r = walk_back ways.returns padded t s (μ ++ ν) w' in
          let plain : passes B s (backwards ν ++ backwards μ) ≡ false =
          subst (λ (x : List Dir). passes B s x ≡ false) (backwards_append μ ν)
          (d.clear (backwards (μ ++ ν)) r.0 (r.1 ∙ sym (ap len m.whole) ∙ e ∙ ways.apart_comm t s)) in
          let k : Walk K B s (end t μ) (backwards ν) =
          (walk_back ways.returns padded (end t μ) s ν (legal_rest K B t μ ν w'.0, sym (end_append t μ ν) ∙ w'.1)).0 in
          not_both m.turns
          (subst (λ (p : Place). corner B p ≡ false) k.1
          (passes_none_at B s (backwards ν) (backwards μ)
          (let e = same_steps (backwards ν) ν (backwards_len ν) in omega (arith, e))
          (let e = same_steps (backwards μ) μ (backwards_len μ) in omega (arith, e)) plain))

  -- So a chain may be gone backwards.
  pub chain_back : {s t : Place} {l : Len} → Chain K B s t l → Chain K B t s l
  chain_back (last {s = s} {t = t} n d) =
      subst (λ (l : Len). Chain K B t s l) (ways.apart_comm t s) (last (λ e. n (sym e)) (direct_back s t d))
  chain_back (join {s = s} {p = p} {t = t} {l = l} n d c k) =
      subst (λ (m : Len). Chain K B t s m) (⊕_comm l (K.apart p s) ∙ ap (λ (m : Len). m ⊕ l) (ways.apart_comm p s))
      (append (chain_back k) c (last (λ e. n (sym e)) (direct_back s p d)))
