-- The tree of keys over the places of a trip: how it stays right after a store.
-- Assumes nothing.
use mathlib.Core.Path.{◌≡◌, sym, ◌∙◌}
use mathlib.Core.Bool.{true, false}
use mathlib.Core.List.{List}
use Prim.Native.Nat.{ℕ, ◌+◌, ◌*◌, ◌≤◌, ◌<◌}
use native.Mathlib.Omega.{arith}
use native.Mathlib.Decide.{ℕ_discrete, dec_lt}
use borrow.Author.Tests.{lt-ltb, le-ltb}
use lib.ListN.{length, get_or, set}
use lib.Seq.{get_or-set_same, get_or-set_other}
use Rattle.tree.specs.Keys.{key_of, nobody, Changed}
use Rattle.tree.proofs.Keys.{key_lower}
use Rattle.places.specs.declared.Trip.{Trip}
use Rattle.places.specs.Columns.{column_of, Label, Settled, Put}
use Rattle.places.specs.Places.{cell_at}
use Rattle.places.proofs.Columns.{column_length}
use Rattle.offers.specs.Tree.{waits_at, leaf_of, Right}

-- ---- leaves
module _ (D F : List ℕ) (cell : ℕ → ℕ) where
  -- The leaf of one that waits holds its key.
  pub leaf_waits : (p : ℕ) → waits_at D F p ≡ true → leaf_of D F cell p ≡ key_of (get_or D p 0) (cell p) p
  unfolding leaf_of
  leaf_waits p q = rw q

  -- The leaf of one that does not holds nobody.
  pub leaf_nobody : (p : ℕ) → waits_at D F p ≡ false → leaf_of D F cell p ≡ nobody
  unfolding leaf_of
  leaf_nobody p q = rw q

  -- A change of p's entry changes no other leaf.
  leaf_label : (p e x : ℕ) → (x ≡ p → ⊥) → leaf_of (set D p e) F cell x ≡ leaf_of D F cell x
  unfolding leaf_of
  leaf_label p e x n = rw (get_or-set_other D p x e 0 n)

  -- A change of p's flag changes no other leaf.
  leaf_settled : (p e x : ℕ) → (x ≡ p → ⊥) → leaf_of D (set F p e) cell x ≡ leaf_of D F cell x
  unfolding leaf_of
  leaf_settled p e x n = rw (get_or-set_other F p x e 0 n)

  -- One that is not settled and has an entry waits.
  waits_open : (p : ℕ) → get_or F p 0 ≤ 0 → 0 < get_or D p 0 → waits_at D F p ≡ true
  waits_open p h l = rw (le-ltb 0 (get_or F p 0) h) (lt-ltb 0 (get_or D p 0) l)

  -- One that is not settled and has no entry does not.
  pub waits_blank : (p : ℕ) → get_or F p 0 ≤ 0 → get_or D p 0 ≤ 0 → waits_at D F p ≡ false
  waits_blank p h l = rw (le-ltb 0 (get_or F p 0) h) (le-ltb 0 (get_or D p 0) l)

  -- One that is settled does not.
  waits_settled : (p : ℕ) → 0 < get_or F p 0 → waits_at D F p ≡ false
  waits_settled p h = rw (lt-ltb 0 (get_or F p 0) h)

module _ {C : List ℕ} {t : Trip} where
  module _ {W T : List ℕ} (right : Right C t W T) where
    -- A lower label gives a key that is no more than what the leaf holds.
    pub key_fits :
        (v best : ℕ) → v < t.k + 2 → get_or (column_of (t.k + 2) W Settled) v 0 ≤ 0 → (0 < get_or (column_of (t.k + 2) W Label) v 0 → best ≤ get_or (column_of (t.k + 2) W Label) v 0) →
        key_of best (cell_at C t v) v ≤ nobody →
        key_of best (cell_at C t v) v ≤ get_or T (t.k + 2 + v) 0
    key_fits v best h free less fits = go (dec_lt 0 (get_or D v 0))
      where
        D : List ℕ
        D = column_of (t.k + 2) W Label

        F : List ℕ
        F = column_of (t.k + 2) W Settled

        go : Dec (0 < get_or D v 0) → key_of best (cell_at C t v) v ≤ get_or T (t.k + 2 + v) 0
        go (yes l) = rw (right.leaf v h, leaf_waits D F (cell_at C t) v (waits_open D F (cell_at C t) v free l)) (key_lower best (get_or D v 0) (cell_at C t v) v (less l))
        go (no l) = rw (right.leaf v h, leaf_nobody D F (cell_at C t) v (waits_blank D F (cell_at C t) v free (omega arith))) fits

    module _ {W' : List ℕ} where
      -- A new label of a place that is not settled, with its key in the tree.
      pub right_label :
          {v best : ℕ} {T' : List ℕ} → 6 * (t.k + 2) ≤ length W → v < t.k + 2 → get_or (column_of (t.k + 2) W Settled) v 0 ≤ 0 → 0 < best →
          Put (t.k + 2) W Label v best W' →
          Changed (t.k + 2) T v (key_of best (cell_at C t v) v) T' →
          Right C t W' T'
      right_label {v} {best} {T'} room h free pos s c = record {
        small = right.small;
        keyed = c.keyed;
        leaf = λ p l. rw (s.here, s.only.others Settled (λ q. omega arith)) (go p l (ℕ_discrete p v));
      }
        where
          D : List ℕ
          D = column_of (t.k + 2) W Label

          F : List ℕ
          F = column_of (t.k + 2) W Settled

          new : get_or (set D v best) v 0 ≡ best
          new = get_or-set_same D v best 0 (rw (column_length (t.k + 2) W Label (omega arith) room) h)

          here : leaf_of (set D v best) F (cell_at C t) v ≡ key_of best (cell_at C t v) v
          here = rw new at (leaf_waits (set D v best) F (cell_at C t) v (waits_open (set D v best) F (cell_at C t) v free (omega (arith, new))))

          go : (p : ℕ) → p < t.k + 2 → Dec (p ≡ v) → get_or T' (t.k + 2 + p) 0 ≡ leaf_of (set D v best) F (cell_at C t) p
          go p l (yes q) = rw q (c.here ∙ sym here)
          go p l (no m) = c.others p m ∙ right.leaf p l ∙ sym (leaf_label D F (cell_at C t) v best p m)

      -- A new label of a settled place changes no leaf.
      pub right_still : {v best : ℕ} → 0 < get_or (column_of (t.k + 2) W Settled) v 0 → Put (t.k + 2) W Label v best W' → Right C t W' T
      right_still {v} {best} done s = record {
        small = right.small;
        keyed = right.keyed;
        leaf = λ p l. rw (s.here, s.only.others Settled (λ q. omega arith)) (go p l (ℕ_discrete p v));
      }
        where
          D : List ℕ
          D = column_of (t.k + 2) W Label

          F : List ℕ
          F = column_of (t.k + 2) W Settled

          go : (p : ℕ) → p < t.k + 2 → Dec (p ≡ v) → get_or T (t.k + 2 + p) 0 ≡ leaf_of (set D v best) F (cell_at C t) p
          go p l (yes q) =
              right.leaf p l ∙ leaf_nobody D F (cell_at C t) p (waits_settled D F (cell_at C t) p (rw q done)) ∙
              sym (leaf_nobody (set D v best) F (cell_at C t) p (waits_settled (set D v best) F (cell_at C t) p (rw q done)))
          go p l (no m) = right.leaf p l ∙ sym (leaf_label D F (cell_at C t) v best p m)

      -- A place that is settled, with nobody in its leaf.
      pub right_settled :
          {v : ℕ} {T' : List ℕ} → 6 * (t.k + 2) ≤ length W → v < t.k + 2 → Put (t.k + 2) W Settled v 1 W' → Changed (t.k + 2) T v nobody T' →
          Right C t W' T'
      right_settled {v} {T'} room h s c = record {
        small = right.small;
        keyed = c.keyed;
        leaf = λ p l. rw (s.here, s.only.others Label (λ q. omega arith)) (go p l (ℕ_discrete p v));
      }
        where
          D : List ℕ
          D = column_of (t.k + 2) W Label

          F : List ℕ
          F = column_of (t.k + 2) W Settled

          flag : get_or (set F v 1) v 0 ≡ 1
          flag = get_or-set_same F v 1 0 (rw (column_length (t.k + 2) W Settled (omega arith) room) h)

          here : leaf_of D (set F v 1) (cell_at C t) v ≡ nobody
          here = leaf_nobody D (set F v 1) (cell_at C t) v (waits_settled D (set F v 1) (cell_at C t) v (omega (arith, flag)))

          go : (p : ℕ) → p < t.k + 2 → Dec (p ≡ v) → get_or T' (t.k + 2 + p) 0 ≡ leaf_of D (set F v 1) (cell_at C t) p
          go p l (yes q) = rw q (c.here ∙ sym here)
          go p l (no m) = c.others p m ∙ right.leaf p l ∙ sym (leaf_settled D F (cell_at C t) v 1 p m)
