-- How the flags of the corners that are seen from a cell are set one after the other. Assumes nothing.
use Prim.Native.Nat.{ℕ, ◌<◌}
use mathlib.Core.List.{List}
use mathlib.Core.Logic.{◌⊎◌, inl, inr, ⊎_elim}
use mathlib.Core.Path.{◌≡◌, sym, ◌∙◌, ap, subst}
use native.Mathlib.Decide.{ℕ_discrete}
use native.Mathlib.Omega.{arith}
use lib.ListN.{length, get_or}
use lib.Seq.{get_or-set_same, get_or-set_other}
use Rattle.places.specs.Columns.{column_of, Only, Put}
use Rattle.places.specs.Places.{index_of}
use Rattle.places.proofs.Columns.{column_length, only_same, only_trans}
use Rattle.places.proofs.Cells.{index_at}
use Rattle.ends.specs.Flags.{Flag, FlagRoom, Flagging}

-- the room stays as it was
pub same_room : {corners : List ℕ} {n c : ℕ} {W W' : List ℕ} → FlagRoom corners n c W → Only n W c W' → FlagRoom corners n c W'
same_room r o = record { count = r.count; column = r.column; room = let e = o.sized in let l = r.room in omega arith; ascending = r.ascending }

module _ (P : ℕ → Type 0) (corners : List ℕ) (n c : ℕ) where
  -- before any flag is set
  pub flagging_none : (W : List ℕ) → Flagging P corners n c W W
  flagging_none W = record { only = only_same n W c; kept = λ i f. f; new = λ i l f. inl f }

  -- some flags, and then more
  pub flagging_more : {A B C : List ℕ} → Flagging P corners n c A B → Flagging P corners n c B C → Flagging P corners n c A C
  flagging_more p q =
      record {
        only = only_trans p.only q.only;
        kept = λ i f. q.kept i (p.kept i f);
        new = λ i l f. ⊎_elim (λ g. p.new i l g) inr (q.new i l f);
      }

  module _ (W : List ℕ) (room : FlagRoom corners n c W) (t : ℕ) (has : P t) (listed : index_of corners t < length corners)
      (W' : List ℕ) (put : Put n W c (index_of corners t) 1 W') where
    -- the corner has an entry in the column
    inside : index_of corners t < length (column_of n W c)
    inside = let e = room.count in rw (column_length n W c room.column room.room) (omega arith)

    -- the corner has its flag
    pub put_flag : Flag n c W' (index_of corners t)
    put_flag = rw (put.here, get_or-set_same (column_of n W c) (index_of corners t) 1 0 inside) (omega arith)

    -- and no other flag changed
    pub flagging_one : Flagging P corners n c W W'
    flagging_one = record { only = put.only; kept = λ i f. kept i f (ℕ_discrete i (index_of corners t)); new = λ i l f. new i f (ℕ_discrete i (index_of corners t)) }
      where
        -- the entry of any other corner is as it was
        other : (i : ℕ) → ¬ (i ≡ index_of corners t) → get_or (column_of n W' c) i 0 ≡ get_or (column_of n W c) i 0
        other i d = rw put.here (get_or-set_other (column_of n W c) (index_of corners t) i 1 0 d)

        -- a flag that was set is still set
        kept : (i : ℕ) → Flag n c W i → Dec (i ≡ index_of corners t) → Flag n c W' i
        kept i f (yes e) = rw e put_flag
        kept i f (no d) = rw (other i d) f

        -- a flag that is set now was set before, or its corner has the property
        new : (i : ℕ) → Flag n c W' i → Dec (i ≡ index_of corners t) → Flag n c W i ⊎ P (get_or corners i 0)
        new i f (yes e) = inr (subst P (sym (ap (λ (j : ℕ). get_or corners j 0) e ∙ index_at corners t listed)) has)
        new i f (no d) = inl (rw (other i d) at f)
