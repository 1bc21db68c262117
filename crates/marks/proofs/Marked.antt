-- A pass over the cells writes the entries of one direction, one entry at a time. Assumes nothing.
use Prim.Native.Nat.{ℕ, suc, ◌+◌, ◌*◌, ◌/◌, ◌≤◌, ◌<◌}
use mathlib.Core.Bool.{Bool, true, false}
use mathlib.Core.List.{List}
use mathlib.Core.Logic.{◌≢◌}
use mathlib.Core.Path.{◌≡◌, sym, ap, ap₂, subst, ◌∙◌}
use native.Mathlib.Decide.{ℕ_discrete}
use native.Mathlib.Nat.{suc-mul, zero-add}
use native.Mathlib.Omega.{arith}
use lib.ListN.{length, get_or, set, length-set}
use lib.Seq.{get_or-set_same, get_or-set_other}
use Rattle.std.specs.Bool.{MatchBool}
use Rattle.std.specs.List.{range_with_len, AllWithin, HoldsAt}
use Rattle.std.proofs.lemmas.List.FromFn.{length-range_with_len, get_or-range_with_len}
use Rattle.floor.specs.Refusals.{Tells}
use Rattle.floor.proofs.Tables.{found, missing}
use Rattle.floor.specs.Board.{Free, dir_at, go}
use Rattle.floor.specs.Words.{board, place_of, Floor}
use Rattle.floor.proofs.Below.{below}
use Rattle.ground.proofs.Logic.{and_right}
use Rattle.ground.proofs.Cells.{column_inside, row_inside}
use Rattle.marks.specs.Marks.{ClearanceAt, ClearedAt}
use Rattle.corners.specs.Chunks.{Chunk}
use Rattle.marks.specs.declared.Step.{Step}
use Rattle.marks.specs.declared.Steps.{Steps}
use Rattle.marks.specs.Marking.{steps_to, turns_to, by_bits, by_next, NextIn, AreSteps, IsStep, rank, Marking, MarkedAll}
use Rattle.ground.proofs.Numbers.{number_of_cell, within, free_cell}
use Rattle.marks.proofs.Recurrence.{clearance_small}
use Rattle.corners.proofs.Chunks.{chunk_ends, row_told}
use Rattle.marks.proofs.Orders.{row_above, rank_below, rank_tells, next_right}

-- the entries of another cell are others
other_cell : (c k d f : ℕ) → d < 4 → f < 4 → k ≢ c → 4 * k + f ≢ 4 * c + d
other_cell c k d f l m n e = n (omega arith)

-- and so are those of another direction
other_way : (c k d f : ℕ) → d < 4 → f < 4 → f ≢ d → 4 * k + f ≢ 4 * c + d
other_way c k d f l m n e = n (omega arith)

-- an entry that did not change is as right as it was
unchanged : (w h : ℕ) (words a b : List ℕ) (c d : ℕ) → get_or b (4 * c + d) 0 ≡ get_or a (4 * c + d) 0 → ClearedAt w h words a c d → ClearedAt w h words b c d
unchanged w h words a b c d e s = subst (ClearanceAt (board w h words) (dir_at d) (place_of w c)) (sym e) s

module _ (w h : ℕ) (words : List ℕ) where
  -- where the next place is free it is that of a cell with an entry
  next_in : (size c d : ℕ) → 4 * (w * h) ≤ size → d < 4 → Free (board w h words) (go (dir_at d) (place_of w c)) → NextIn w size c d
  next_in size c d long l =
      below (λ d. Free (board w h words) (go (dir_at d) (place_of w c)) → NextIn w size c d) 4 (
        λ f. record {
          number = omega (arith, number_of_cell w c, row_above w (c / w) (row_inside (within w h words).padded f));
          entry_in = omega (arith, free_cell (within w h words) _ f);
        },
        (
          λ f. record { number = omega (arith, number_of_cell w c); entry_in = omega (arith, free_cell (within w h words) _ f) },
          (
            λ f. record { number = omega (arith, number_of_cell w c, suc-mul (c / w) w); entry_in = omega (arith, free_cell (within w h words) _ f) },
            (
              λ f. record {
                number = omega (arith, number_of_cell w c, column_inside (within w h words).padded f);
                entry_in = omega (arith, free_cell (within w h words) _ f);
              },
              tt,
            ),
          ),
        ),
      ) d l

module _ {w h : ℕ} {words : List ℕ} where
  module _ {d r : ℕ} {entry now : List ℕ} (i : Marking w h words d r entry now) (c : ℕ) (k : c < w * h) (here : rank (w * h) d c ≡ r) (l : d < 4) where
    -- what the next entry makes of this one is right
    right_here : ClearanceAt (board w h words) (dir_at d) (place_of w c) (by_next (board w h words) w now (place_of w c) d)
    right_here = next_right w h words now d r c l i.right k (omega arith)

    -- and fits a byte
    mark_small : Floor w h words → by_next (board w h words) w now (place_of w c) d ≤ 255
    mark_small f =
        let small = clearance_small (within w h words) f.sized.wide f.sized.high (dir_at d) (place_of w c) _ right_here in
        omega arith

    -- one entry more is marked
    mark_more : 4 * (w * h) ≤ length entry → (next : List ℕ) → next ≡ set now (4 * c + d) (by_next (board w h words) w now (place_of w c) d) →
        (r' : ℕ) → r' ≡ suc r → Marking w h words d r' entry next
    mark_more long next eq r' up =
        record {
          as_long = ap length eq ∙ length-set now (4 * c + d) v ∙ i.as_long;
          right = record { each = λ k' o p. first k' o p (ℕ_discrete k' c) };
          others = λ k' f o p a. kept (4 * k' + f) (other_way c k' d f l p a) ∙ i.others k' f o p a;
          beyond = λ j o. kept j (λ q. omega arith) ∙ i.beyond j o;
        }
      where
        v : ℕ
        v = by_next (board w h words) w now (place_of w c) d

        kept : (j : ℕ) → j ≢ 4 * c + d → get_or next j 0 ≡ get_or now j 0
        kept j o = rw eq (get_or-set_other now (4 * c + d) j v 0 o)

        written : get_or next (4 * c + d) 0 ≡ v
        written = rw eq (get_or-set_same now (4 * c + d) v 0 (omega arith))

        first : (k' : ℕ) → k' < w * h → rank (w * h) d k' < r' → Dec (k' ≡ c) → ClearedAt w h words next k' d
        first k' o p (yes q) = subst (λ t. ClearedAt w h words next t d) (sym q) (subst (ClearanceAt (board w h words) (dir_at d) (place_of w c)) (sym written) right_here)
        first k' o p (no q) =
            let apart : rank (w * h) d k' ≢ r = λ j. q (rank_tells (w * h) d k' c l o k (j ∙ sym here)) in
            unchanged w h words now next k' d (kept (4 * k' + d) (other_cell c k' d d l l q)) (i.right.each k' o (omega (arith, apart)))

  -- after a pass its direction is right
  all_right : {d : ℕ} {entry now : List ℕ} → d < 4 → Marking w h words d (w * h) entry now → (c : ℕ) → c < w * h → ClearedAt w h words now c d
  all_right {d} l s c k = s.right.each c k (rank_below (w * h) d c l k)

  -- and another direction is as right as it was
  still_right : {d f : ℕ} {entry now : List ℕ} → f < 4 → f ≢ d → Marking w h words d (w * h) entry now →
      ((c : ℕ) → c < w * h → ClearedAt w h words entry c f) → (c : ℕ) → c < w * h → ClearedAt w h words now c f
  still_right {d} {f} {entry} {now} m n s a c k = unchanged w h words entry now c f (s.others c f k m n) (a c k)

  -- the four passes mark all
  pub four_marked : (a b c d e : List ℕ) → Marking w h words 0 (w * h) a b → Marking w h words 1 (w * h) b c → Marking w h words 2 (w * h) c d →
      Marking w h words 3 (w * h) d e → MarkedAll w h words a e
  four_marked a b c d e n o p q =
      let n' = still_right (omega arith) (λ z. omega arith) q (still_right (omega arith) (λ z. omega arith) p (still_right (omega arith) (λ z. omega arith) o (all_right (omega arith) n))) in
      let o' = still_right (omega arith) (λ z. omega arith) q (still_right (omega arith) (λ z. omega arith) p (all_right (omega arith) o)) in
      let p' = still_right (omega arith) (λ z. omega arith) q (all_right (omega arith) p) in
      record {
        as_long = q.as_long ∙ p.as_long ∙ o.as_long ∙ n.as_long;
        cleared = λ k f m l. below (ClearedAt w h words e k) 4 (n' k m, (o' k m, (p' k m, (all_right (omega arith) q k m, tt)))) f l;
        beyond = λ i l. q.beyond i l ∙ p.beyond i l ∙ o.beyond i l ∙ n.beyond i l;
      }

-- ---- a test of the numbers below n
-- that all pass tells that P holds of all
pub tells_all : (n : ℕ) (P : ℕ → Type 0) (r : Bool) →
    let all = range_with_len 0 n in
    MatchBool r (AllWithin P all 0 (length all)) ((k : ℕ) × (k < length all) × HoldsAt (λ x. ¬ (P x)) all k) → Tells ((k : ℕ) → k < n → P k) r
tells_all n P true m =
    found (λ k l. subst P (get_or-range_with_len 0 n k 0 l ∙ zero-add k) (m k 0 (omega arith) (rw length-range_with_len l)))
tells_all n P false m =
    let l : m.0 < n = rw length-range_with_len at m.1 in
    missing (λ a. subst (λ x. ¬ (P x)) (get_or-range_with_len 0 n m.0 0 l ∙ zero-add m.0) (m.2 0) (a m.0 l))

-- ---- one step of a chunk's, that from cell c + i
module _ {w h : ℕ} {words : List ℕ} {d c n : ℕ} (k : Chunk w h c n) {s : Steps} (are : AreSteps w h words d c s)
    {t : Step} {i : ℕ} (l : i < n) (is : IsStep s i t) where
  -- it is legal
  step_told : t.legal ≡ steps_to (board w h words) (place_of w (c + i)) d
  step_told = row_told k (λ m. steps_to (board w h words) (place_of w m) d) s.legal are.legal t.legal i l is.legal

  -- it leads to a turning point
  turn_told : t.turns ≡ turns_to (board w h words) (place_of w (c + i)) d
  turn_told = row_told k (λ m. turns_to (board w h words) (place_of w m) d) s.turns are.turns t.turns i l is.turns

  -- what it makes of the next entry
  pub bits_next : (clear : List ℕ) → by_bits t.legal t.turns w clear (place_of w (c + i)) d ≡ by_next (board w h words) w clear (place_of w (c + i)) d
  bits_next clear = ap₂ (λ x y. by_bits x y w clear (place_of w (c + i)) d) step_told turn_told

  -- where it is legal, the next cell has an entry
  pub bits_in : (size : ℕ) → 4 * (w * h) ≤ size → d < 4 → t.legal ≡ true → NextIn w size (c + i) d
  bits_in size long m e =
      next_in w h words size (c + i) d long m (and_right (board w h words (place_of w (c + i)).x (place_of w (c + i)).y) _ (sym step_told ∙ e))

  -- the cell is one of the floor's
  pub bits_inside : c + i < w * h
  bits_inside = omega (arith, chunk_ends k)

  -- with an entry
  pub bits_ready : Floor w h words → (size : ℕ) → 4 * (w * h) ≤ size → d < 4 → (c + i < 16384) × ((w < 256) × (4 * (c + i) + d < size))
  bits_ready f size long m =
      let x = bits_inside in
      (omega (arith, f.few_cells), (omega (arith, f.sized.wide), omega arith))

  module _ {r : ℕ} {entry now : List ℕ} (o : Marking w h words d r entry now) (here : rank (w * h) d (c + i) ≡ r) (m : d < 4) where
    -- what is written fits a byte
    pub bits_small : Floor w h words → by_bits t.legal t.turns w now (place_of w (c + i)) d ≤ 255
    bits_small f = rw (bits_next now) (mark_small o (c + i) bits_inside here m f)

    -- one entry more is marked
    pub bits_marked : 4 * (w * h) ≤ length entry →
        (next : List ℕ) → next ≡ set now (4 * (c + i) + d) (by_bits t.legal t.turns w now (place_of w (c + i)) d) →
        (r' : ℕ) → r' ≡ suc r → Marking w h words d r' entry next
    bits_marked long next e = mark_more o (c + i) bits_inside here m long next (e ∙ ap (set now (4 * (c + i) + d)) (bits_next now))
