-- The numbers that pass a test, as a loop writes them into a list, or reads them there. Assumes nothing.
use Prim.Native.Nat.{ℕ, ◌+◌, ◌-◌, ◌≤◌, ◌<◌}
use mathlib.Core.Bool.{Bool, true, false, ◌&&◌}
use mathlib.Core.List.{List, ◌++◌}
use mathlib.Core.Path.{◌≡◌, sym, ap, subst, ◌∙◌}
use native.Mathlib.Omega.{arith}
use lib.Dec.{ltb, eqb}
use lib.ListN.{length, get_or, set, take, drop, length-append}
use lib.Seq.{take-length, drop-append_seam, drop-append-add, drop-drop}
use borrow.Author.Tests.{ltb-true, eqb-true, eqb-false, lt-ltb, eq-eqb}
use Rattle.std.specs.Prelude.{None}
use Rattle.floor.specs.Refusals.{Tells}
use Rattle.ground.proofs.Logic.{and_left, and_right, not_both}
use Rattle.corners.specs.Lists.{select}
use Rattle.corners.specs.Listing.{Written, Read, Told}
use Rattle.corners.proofs.Selects.{select_none, select_taken, length_taken, select_first, select_same, select_fewer, select_entry, written_long, written_more, take_more}

module _ (f : ℕ → Bool) where
  -- ---- written
  -- at first none
  pub none_written : (lent : List ℕ) → Written f lent 0 lent 0
  none_written lent = record { count = rw select_none; list = rw select_none }

  module _ (lent now : List ℕ) (n k : ℕ) (s : Written f lent n now k) where
    -- the list keeps its length
    pub write_long : length (select f n) ≤ length lent → length now ≡ length lent
    write_long l = ap length s.list ∙ written_long (select f n) lent l

    module _ (m : ℕ) (l : n < m) (e : f n ≡ true) (room : length (select f m) ≤ length lent) where
      -- those before it are fewer than the entries
      fewer : length (select f n) < length lent
      fewer = let a = select_fewer f n m l e in omega arith

      -- there is room for one that passes
      pub write_room : k < length now
      write_room = let a = fewer in omega (arith, s.count, write_long (omega arith))

      -- and it is written
      pub write_taken : Written f lent (n + 1) (set now k n) (k + 1)
      write_taken =
          record {
            count = omega (arith, s.count, length_taken f n e);
            list = rw (s.count, s.list, select_taken f n e) (written_more (select f n) lent n fewer);
          }

    -- a list that was written so far is written on
    pub write_on : Written f now n now k
    write_on =
        record {
          count = s.count;
          list = s.list ∙ ap (λ t. select f n ++ t) (sym (ap (drop (length (select f n))) s.list ∙ drop-append_seam (select f n) _));
        }

    -- and what was written on is written
    pub written_on : (m : ℕ) (next : List ℕ) (j : ℕ) → n ≤ m → Written f now m next j → Written f lent m next j
    written_on m next j l t =
        let (rest, e) = select_first f n m l in
        let long : length (select f m) ≡ length (select f n) + length rest = ap length e ∙ length-append (select f n) rest in
        record {
          count = t.count;
          list = t.list
              ∙ ap (λ z. select f m ++ z)
              (rw (long, s.list) (drop-append-add (select f n) _ (length rest) ∙ drop-drop (length rest) (length (select f n)) lent));
        }

    -- where none of the numbers from n to m passes there is nothing to write
    pub write_none : (m : ℕ) → n ≤ m → ((j : ℕ) → j < m - n → f (n + j) ≡ false) → Written f lent m now k
    write_none m l e =
        let p : n + (m - n) ≡ m = omega arith in
        subst (λ t. Written f lent t now k) p
        (record { count = rw (select_same f n (m - n) e) s.count; list = rw (select_same f n (m - n) e) s.list })

  -- ---- read
  -- at first none
  pub none_read : (xs : List ℕ) → Read f xs 0 0
  none_read xs = record { count = rw select_none; first = rw select_none }

  module _ (xs : List ℕ) (n k : ℕ) (s : Read f xs n k) where
    -- a number that passes is the next entry
    pub read_taken : f n ≡ true → (ltb k (length xs) && eqb (get_or xs k 0) n) ≡ true → Read f xs (n + 1) (k + 1)
    read_taken e t =
        record {
          count = omega (arith, s.count, length_taken f n e);
          first = rw (select_taken f n e)
              (take_more xs (select f n) k n s.first (ltb-true _ _ (and_left (ltb k (length xs)) _ t)) (eqb-true _ _ (and_right (ltb k (length xs)) _ t)));
        }

    -- if the list is that of all of them
    read_entry : (m : ℕ) → n < m → f n ≡ true → xs ≡ select f m → (ltb k (length xs) && eqb (get_or xs k 0) n) ≡ true
    read_entry m l e p =
        let a : k < length xs = omega (arith, select_fewer f n m l e, s.count, ap length p) in
        let b : get_or xs k 0 ≡ n = rw (p, s.count) (select_entry f n m l e) in
        rw (lt-ltb k (length xs) a) (eq-eqb (get_or xs k 0) n b)

    -- where none of the numbers from n to m passes there is nothing to look for
    pub read_none : (m : ℕ) → n ≤ m → ((j : ℕ) → j < m - n → f (n + j) ≡ false) → Read f xs m k
    read_none m l e =
        let p : n + (m - n) ≡ m = omega arith in
        subst (λ t. Read f xs t k) p
        (record { count = rw (select_same f n (m - n) e) s.count; first = rw (select_same f n (m - n) e) s.first })

    -- where an entry is not there, the list is of no more numbers
    pub refused_told : (m : ℕ) → n < m → f n ≡ true → (ltb k (length xs) && eqb (get_or xs k 0) n) ≡ false → Told f xs m None
    refused_told m l e b j o p = absurd (not_both (read_entry j (omega arith) e p) b)

    -- at the end the list is theirs if it has no other entry
    pub read_all : Tells (xs ≡ select f n) (eqb k (length xs))
    read_all =
        record {
          yes = λ e. sym (take-length xs) ∙ ap (λ m. take m xs) (sym (eqb-true k (length xs) e)) ∙ s.first;
          no = λ e p. eqb-false k (length xs) e (s.count ∙ ap length (sym p));
        }
