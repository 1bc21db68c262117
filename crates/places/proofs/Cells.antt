-- Laws of cells: where one stands in an ascending list, and how far two are apart.
-- Assumes nothing.
use mathlib.Core.Path.{◌≡◌, refl, sym, ◌∙◌, ap, ap₂}
use mathlib.Core.Bool.{true, false, true≢false}
use mathlib.Core.List.{List, [], ◌∷◌}
use Prim.Native.Nat.{ℕ, zero, suc, ◌+◌, ◌*◌, ◌-◌, ◌/◌, ◌%◌, ◌≤◌, ◌<◌, min}
use native.Mathlib.Nat.{le_refl, le_of_suc-le-suc, mod-lt, div-add-mod', div-lt_iff_lt-mul}
use native.Mathlib.Omega.{arith}
use native.Mathlib.Decide.{ℕ_discrete, dec_lt}
use borrow.Author.Tests.{eq-eqb, ne_eqb, lt-ltb, le-ltb}
use lib.ListN.{length, get_or, set, length-set}
use lib.Seq.{get_or-set_same, get_or-set_other}
use Rattle.std.specs.Prelude.{Option, Some, None, is_some, Result, Ok, Err, MatchResult}
use Rattle.std.specs.Option.{unwrap_or}
use Rattle.std.specs.Result.{OkIff, result_ok}
use Rattle.std.specs.Ordering.{nat_cmp}
use Rattle.std.specs.List.Sorted.{IsBinarySearchResult}
use Rattle.std.proofs.lemmas.List.Sorted.{searched}
use Rattle.lengths.specs.Octile.{gap_none}
use Rattle.lengths.specs.Lengths.{gap, octile_of}
use Rattle.lengths.specs.Laws.{weight}
use Rattle.places.specs.declared.Trip.{Trip}
use Rattle.places.specs.Places.{index_of, Ascending, Found, Indexed, cell_at, apart, TwoCells}

-- One place is not two.
pub some_one : {x v : ℕ} → Some x ≡ Some v → x ≡ v
some_one {x} {v} q = let e : x ≡ v = cc in e

-- No place is none.
pub none_some : {v : ℕ} → None ≡ Some v → ⊥
none_some {v} q = let z : ◌≡◌ {A = ℕ} 0 1 = cc in absurd (omega arith)

-- What is not some place is none.
pub none_of : (r : Option ℕ) → is_some r ≡ false → r ≡ None
none_of None q = refl
none_of (Some v) q = absurd (true≢false q)

-- What is some place is one.
pub some_of : (r : Option ℕ) → is_some r ≡ true → (v : ℕ) × (r ≡ Some v)
some_of None q = absurd (true≢false (sym q))
some_of (Some v) q = (v, refl)

-- A number that is told as one of 16 bits is that number.
pub narrow_some : {E : Type 0} (r : Result ℕ E) {cell x : ℕ} → OkIff r (cell < 65536) cell → Some x ≡ result_ok r → x ≡ cell
narrow_some (Ok y) h q = some_one q ∙ h.1
narrow_some (Err e) h q = absurd (none_some (sym q))

-- One that is not so told does not fit.
pub narrow_none : {E : Type 0} (r : Result ℕ E) {cell : ℕ} → OkIff r (cell < 65536) cell → None ≡ result_ok r → 65536 ≤ cell
narrow_none (Ok y) h q = absurd (none_some q)
narrow_none (Err e) h q = omega (arith, h)

-- Where a cell first stands is its index.
pub index_first : (C : List ℕ) (cell i : ℕ) → i < length C → get_or C i 0 ≡ cell → ((j : ℕ) → j < i → get_or C j 0 ≡ cell → ⊥) → index_of C cell ≡ i
unfolding index_of
index_first [] cell i h q none = absurd (omega arith)
index_first (x ∷ xs) cell zero h q none = rw (eq-eqb x cell q)
index_first (x ∷ xs) cell (suc i) h q none =
    rw (ne_eqb x cell (λ e. none 0 (omega arith) e)) (ap suc (index_first xs cell i (le_of_suc-le-suc h) q (λ j l e. none (suc j) (omega arith) e)))

-- Where it stands nowhere, its index is the length.
pub index_none : (C : List ℕ) (cell : ℕ) → ((i : ℕ) → i < length C → get_or C i 0 ≡ cell → ⊥) → index_of C cell ≡ length C
unfolding index_of
index_none [] cell none = refl
index_none (x ∷ xs) cell none =
    rw (ne_eqb x cell (λ e. none 0 (omega arith) e)) (ap suc (index_none xs cell (λ i h e. none (suc i) (omega arith) e)))

-- An index is at most the length.
pub index_most : (C : List ℕ) (cell : ℕ) → index_of C cell ≤ length C
unfolding index_of
index_most [] cell = le_refl 0
index_most (x ∷ xs) cell = go (ℕ_discrete x cell) (index_most xs cell)
  where
    go : Dec (x ≡ cell) → index_of xs cell ≤ length xs → index_of (x ∷ xs) cell ≤ length (x ∷ xs)
    go (yes q) rest = rw (eq-eqb x cell q) (omega arith)
    go (no n) rest = rw (ne_eqb x cell n) (omega arith)

-- What stands at the index of a cell is that cell.
pub index_at : (C : List ℕ) (cell : ℕ) → index_of C cell < length C → get_or C (index_of C cell) 0 ≡ cell
unfolding index_of
index_at [] cell h = absurd (omega arith)
index_at (x ∷ xs) cell h = go (ℕ_discrete x cell) (index_at xs cell)
  where
    go : Dec (x ≡ cell) → (index_of xs cell < length xs → get_or xs (index_of xs cell) 0 ≡ cell) → get_or (x ∷ xs) (index_of (x ∷ xs) cell) 0 ≡ cell
    go (yes q) rest = rw (eq-eqb x cell q) q
    go (no n) rest = rw (ne_eqb x cell n) (rest (le_of_suc-le-suc (rw (ne_eqb x cell n) at h)))

module _ (C : List ℕ) (up : Ascending C) where
  -- In an ascending list no cell stands twice.
  pub ascending_once : (i j : ℕ) → i < length C → j < length C → get_or C i 0 ≡ get_or C j 0 → i ≡ j
  ascending_once i j hi hj q = go (dec_lt i j) (dec_lt j i)
    where
      go : Dec (i < j) → Dec (j < i) → i ≡ j
      go (yes l) m = absurd (omega (arith, up i j l hj))
      go (no l) (yes m) = absurd (omega (arith, up j i m hi))
      go (no l) (no m) = omega arith

  -- The index of a cell that stands there.
  pub index_of_entry : (i : ℕ) → i < length C → index_of C (get_or C i 0) ≡ i
  index_of_entry i h = index_first C (get_or C i 0) i h refl (λ j l e. omega (arith, up j i l h))

  -- No entry is more than a later one.
  no_more : (i j : ℕ) → i ≤ j → j < length C → get_or C i 0 ≤ get_or C j 0
  no_more i j h l = go (dec_lt i j)
    where
      go : Dec (i < j) → get_or C i 0 ≤ get_or C j 0
      go (yes m) = omega (arith, up i j m l)
      go (no m) = let q : i ≡ j = omega arith in rw q (le_refl _)

  -- What a binary search for a cell says is its index.
  pub search_found : (cell : ℕ) (r : Result ℕ ℕ) → IsBinarySearchResult (λ y. nat_cmp y cell) C r → Found C cell (result_ok r)
  search_found cell r is = go r (searched C cell r is no_more)
    where
      go : (r : Result ℕ ℕ) →
          MatchResult r (λ i. (i < length C) × (get_or C i 0 ≡ cell)) (λ i. (i ≤ length C) × ((k : ℕ) → k < i → get_or C k 0 < cell) × ((k : ℕ) → i ≤ k → k < length C → cell < get_or C k 0)) →
          Found C cell (result_ok r)
      go (Ok i) h = (h.0, sym (index_first C cell i h.0 h.1 (λ j l e. omega (arith, up j i l h.0))))
      go (Err i) h = index_none C cell (λ j l e. other i h j l e (dec_lt j i))
        where
          other : (i : ℕ) → (i ≤ length C) × ((k : ℕ) → k < i → get_or C k 0 < cell) × ((k : ℕ) → i ≤ k → k < length C → cell < get_or C k 0) → (j : ℕ) → j < length C → get_or C j 0 ≡ cell → Dec (j < i) → ⊥
          other i h j l e (yes m) = omega (arith, h.1 j m)
          other i h j l e (no m) = omega (arith, h.2 j (omega arith) l)

module _ (C : List ℕ) (cell : ℕ) where
  -- What is found where the cell is there.
  pub found_listed : (r : Option ℕ) → Found C cell r → index_of C cell < length C → r ≡ Some (index_of C cell)
  found_listed None q h = absurd (omega arith)
  found_listed (Some i) q h = ap (λ (x : ℕ). Some x) q.1

  -- The index of a cell is what is found, or the length.
  pub found_index : (r : Option ℕ) → Found C cell r → unwrap_or r (length C) ≡ index_of C cell
  found_index None q = sym q
  found_index (Some i) q = q.1

  -- Where the cell is not there, any other number stands for it.
  pub found_other : (r : Option ℕ) (d : ℕ) → Found C cell r → length C ≡ index_of C cell → unwrap_or r d ≡ d
  found_other None d q e = refl
  found_other (Some i) d q e = absurd (omega (arith, q.0, q.1))

-- ---- a table of indexes
-- The entries of the corners below the i-th are written.
pub record Indexing (C : List ℕ) (Q₀ : List ℕ) (i : ℕ) (Q : List ℕ) : Type 0 where
  pub high : i ≤ length C
  pub sized : length Q ≡ length Q₀
  pub index : (j : ℕ) → j < i → get_or Q (get_or C j 0) 0 ≡ j

-- At first none is.
pub indexing_first : (C Q : List ℕ) → Indexing C Q 0 Q
indexing_first C Q = record { high = omega arith; sized = refl; index = λ j h. absurd (omega arith) }

-- One more is written, where no other has its cell.
pub indexing_more :
    {C Q₀ Q : List ℕ} {i cell : ℕ} → Ascending C → Indexing C Q₀ i Q → i < length C → cell ≡ get_or C i 0 → cell < length Q → Indexing C Q₀ (i + 1) (set Q cell i)
indexing_more {C} {Q₀} {Q} {i} {cell} up x h is room = record {
  high = omega arith;
  sized = length-set Q cell i ∙ x.sized;
  index = λ j l. go j l (ℕ_discrete j i);
}
  where
    go : (j : ℕ) → j < i + 1 → Dec (j ≡ i) → get_or (set Q cell i) (get_or C j 0) 0 ≡ j
    go j l (yes q) = rw (q, ← is) (get_or-set_same Q cell i 0 room)
    go j l (no m) = get_or-set_other Q cell (get_or C j 0) i 0 (λ e. omega (arith, is, up j i (omega arith) h)) ∙ x.index j (omega arith)

-- After the last the table is whole.
pub indexing_done : {C Q₀ Q : List ℕ} {i : ℕ} → 16384 ≤ length Q₀ → Indexing C Q₀ i Q → length C ≤ i → Indexed C Q
indexing_done room x h = record { room = rw x.sized room; index = λ j l. x.index j (omega arith) }

-- ---- the cells of places
module _ (C : List ℕ) (t : Trip) where
  -- The cell of a corner.
  pub cell_corner : (i : ℕ) → i < t.k → cell_at C t i ≡ get_or C i 0
  unfolding cell_at
  cell_corner i h = rw (lt-ltb i t.k h)

  -- The cell of the start.
  pub cell_start : (i : ℕ) → i ≡ t.k → cell_at C t i ≡ t.start
  unfolding cell_at
  cell_start i q = rw (le-ltb i t.k (omega arith), eq-eqb i t.k q)

  -- The cell of the goal.
  pub cell_goal : (i : ℕ) → t.k < i → cell_at C t i ≡ t.goal
  unfolding cell_at
  cell_goal i h = rw (le-ltb i t.k (omega arith), ne_eqb i t.k (λ q. omega arith))

-- ---- how far cells are apart
-- An offset is no more than both its ends.
gap_most : (a b m : ℕ) → a ≤ m → b ≤ m → gap a b ≤ m
gap_most a b m h l = omega arith

module _ (w a b : ℕ) (two : TwoCells w a b) where
  -- The offsets of two cells are at most 254.
  pub offset_x : gap (a % w) (b % w) ≤ 254
  offset_x = gap_most (a % w) (b % w) 254 (omega (arith, mod-lt a two.some, two.wide)) (omega (arith, mod-lt b two.some, two.wide))

  -- A cell lies in one of 255 rows.
  row : (c : ℕ) → c < 255 * w → c / w ≤ 254
  row c h = omega (arith, (div-lt_iff_lt-mul {k = w} {x = c} {y = 255} two.some).1 h)

  -- So their rows are at most 254 apart.
  pub offset_y : gap (a / w) (b / w) ≤ 254
  offset_y = gap_most (a / w) (b / w) 254 (row a two.first) (row b two.second)

-- Cells that are no way apart are one cell.
pub apart_none : (w a b : ℕ) → apart w a b ≤ 0 → a ≡ b
unfolding apart
apart_none w a b h = sym (div-add-mod' a w) ∙ ap₂ (λ (x y : ℕ). x * w + y) (gap_none (a / w) (b / w) none.1) (gap_none (a % w) (b % w) none.0) ∙ div-add-mod' b w
  where
    both : (x y : ℕ) → weight (octile_of x y) ≤ 0 → (x ≡ 0) × (y ≡ 0)
    both x y l = omega arith

    none : (gap (a % w) (b % w) ≡ 0) × (gap (a / w) (b / w) ≡ 0)
    none = both (gap (a % w) (b % w)) (gap (a / w) (b / w)) h
