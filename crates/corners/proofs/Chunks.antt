-- Chunks of cells, and their places. Assumes nothing.
use Prim.Native.Nat.{ℕ, suc, ◌+◌, ◌-◌, ◌*◌, ◌/◌, ◌%◌, ◌≤◌, ◌<◌}
use mathlib.Core.Bool.{Bool, true, false, ◌&&◌}
use mathlib.Core.List.{List}
use mathlib.Core.Path.{◌≡◌, refl, sym, ap, subst, ◌∙◌}
use native.Mathlib.Decide.{dec_le}
use native.Mathlib.Nat.{add-zero, mul-le-mul_right, suc-mul, mul_comm, mul-add-mod_self_right, mod-eq_of_lt}
use native.Mathlib.Omega.{arith}
use borrow.Author.Tests.{lt-ltb, le-ltb}
use lib.Dec.{ltb}
use Rattle.floor.specs.Board.{Place, corner}
use Rattle.floor.specs.Words.{board, number_of, place_of}
use Rattle.masks.specs.Masks.{bit_set, Mask, spot}
use Rattle.masks.specs.Sought.{corner_blocked}
use Rattle.floor.proofs.Tables.{not_so}
use Rattle.ground.proofs.Walks.{place_eq}
use Rattle.corners.specs.Corners.{corner_cell}
use Rattle.corners.specs.declared.bits.SetBits.{SetBits}
use Rattle.corners.specs.Bits.{begun}
use Rattle.corners.specs.Chunks.{Chunk, Span, LastSpan, RowBits, in_row, NextBit}
use Rattle.ground.proofs.Numbers.{number_of_cell, place_of_number, column_in, row_in, within}

-- cells of one row end with the floor
row_ends : (w h c n : ℕ) → c < w * h → c % w + n ≤ w → c + n ≤ w * h
row_ends w h c n l m =
    omega (arith, number_of_cell w c, mul-le-mul_right w (row_in w h c l), suc-mul (c / w) w, mul_comm h w)

-- and so does a chunk
pub chunk_ends : {w h c n : ℕ} → Chunk w h c n → c + n ≤ w * h
chunk_ends {w} {h} {c} {n} k = row_ends w h c n k.inside k.in_one_row

-- the column of a cell in the row of another
column_on : (w c i : ℕ) → c % w + i < w → (c + i) % w ≡ c % w + i
column_on w c i l =
    let e : c + i ≡ c / w * w + (c % w + i) = omega (arith, number_of_cell w c) in
    ap (λ m. m % w) e ∙ mul-add-mod_self_right (c / w) w (c % w + i) ∙ mod-eq_of_lt l

-- after a row's last cell the next row begins
next_row : (w c n : ℕ) → 0 < w → c % w + n ≡ w → (c + n) % w ≡ 0
next_row w c n some e =
    let a : c + n ≡ suc (c / w) * w + 0 = omega (arith, number_of_cell w c, suc-mul (c / w) w) in
    ap (λ m. m % w) a ∙ mul-add-mod_self_right (suc (c / w)) w 0 ∙ mod-eq_of_lt some

-- the place of a cell in the row of another, as a mask has it
place_on : (w c i : ℕ) → c % w % 64 ≡ 0 → c % w + i < w → spot (c / w + 1) (c % w / 64) i ≡ place_of w (c + i)
place_on w c i b l =
    let e : number_of w (c % w + i) (c / w) ≡ c + i = omega (arith, number_of_cell w c) in
    place_eq (omega arith) (omega arith) ∙ sym (place_of_number w (c % w + i) (c / w) l) ∙ ap (place_of w) e

-- where a span ends the next one begins
pub next_begins : {w h c n : ℕ} → Span w h c n → (c + n) % w % 64 ≡ 0
next_begins {w} {h} {c} {n} s = by (dec_le w (c % w + n)) (dec_le 64 n)
  where
    k : Chunk w h c n
    k = s.chunk

    some : 0 < w
    some = omega (arith, column_in w h c k.inside)

    by : Dec (w ≤ c % w + n) → Dec (64 ≤ n) → (c + n) % w % 64 ≡ 0
    by (yes l) m = ap (λ m. m % 64) (next_row w c n some (omega (arith, k.in_one_row)))
    by (no l) (yes m) = ap (λ m. m % 64) (column_on w c n (omega (arith, l))) ∙ omega (arith, k.begins, k.few)
    by (no l) (no m) = absurd (omega (arith, l, s.whole (omega (arith, m))))

-- the column of an earlier cell in the row of another
column_back : (w c k : ℕ) → c % w < w → k ≤ c % w → (c - k) % w ≡ c % w - k
column_back w c k some l =
    let e : c - k ≡ c / w * w + (c % w - k) = omega (arith, number_of_cell w c) in
    ap (λ m. m % w) e ∙ mul-add-mod_self_right (c / w) w (c % w - k) ∙ mod-eq_of_lt (omega arith)

-- the last chunk of the cells below e
pub last_chunk : (w h e : ℕ) → 0 < e → e ≤ w * h → LastSpan w h e ((e - 1) % w % 64 + 1)
last_chunk w h e some l =
    let x : (e - 1) % w < w = column_in w h (e - 1) (omega arith) in
    let low : (e - 1) % w ≤ e - 1 = omega (arith, number_of_cell w (e - 1)) in
    let same : e - ((e - 1) % w % 64 + 1) ≡ e - 1 - (e - 1) % w % 64 = omega arith in
    let back : (e - ((e - 1) % w % 64 + 1)) % w ≡ (e - 1) % w - (e - 1) % w % 64
    = ap (λ m. m % w) same ∙ column_back w (e - 1) ((e - 1) % w % 64) x (omega arith) in
    record {
      chunk = record {
        inside = omega arith;
        begins = rw back (omega arith);
        few = omega arith;
        in_one_row = rw back (omega arith);
      };
      some = omega arith;
      under = omega arith;
    }

-- the first cell begins a chunk
pub first_begins : (w : ℕ) → 1 ≤ w → 0 % w % 64 ≡ 0
first_begins w l = ap (λ m. m % 64) (mod-eq_of_lt l)

-- a mask that speaks of its own places speaks of the cells of the row
pub row_bits : (w c mask : ℕ) (f : Place → Bool) → c % w % 64 ≡ 0 → Mask (λ i. f (spot (c / w + 1) (c % w / 64) i)) mask →
    RowBits w (λ k. f (place_of w k)) c mask
row_bits w c mask f b m i l k = m i l ∙ ap f (place_on w c i b k)

-- a mask of turning points has none past the row's end
pub corner_row : (w h : ℕ) (words : List ℕ) (c mask : ℕ) → c % w % 64 ≡ 0 → Mask (λ i. corner (board w h words) (spot (c / w + 1) (c % w / 64) i)) mask →
    Mask (in_row w (corner_cell w h words) c) mask
corner_row w h words c mask b m i l = by (dec_le w (c % w + i))
  where
    by : Dec (w ≤ c % w + i) → bit_set mask i ≡ (ltb (c % w + i) w && corner_cell w h words (c + i))
    by (yes k) =
        rw (le-ltb (c % w + i) w k)
        (m i l ∙ corner_blocked _ _ (not_so _ (λ e. let a = (within w h words).wide _ _ e in omega arith)))
    by (no k) =
        let o : c % w + i < w = omega (arith, k) in
        rw (lt-ltb (c % w + i) w o) (row_bits w c mask (corner (board w h words)) b m i l o)

-- ---- a chunk's bits
-- those of its mask that are still to be given, where P holds of the cells passed
pub record Left (w c n : ℕ) (f : ℕ → Bool) (P : ℕ → Type 0) (s : SetBits) : Type 0 where
  pub bits : Mask (in_row w f c) s.mask
  pub all : s.end ≡ n
  pub passed : s.from ≤ n
  pub so : P (c + s.from)

module _ {w h c n : ℕ} (k : Chunk w h c n) (f : ℕ → Bool) (mask : ℕ) where
  -- a bit of a mask of the row is that of a cell of the chunk
  pub row_told : RowBits w f c mask → (b : Bool) (i : ℕ) → i < n → b ≡ bit_set mask i → b ≡ f (c + i)
  row_told m b i l e = e ∙ m i (omega (arith, k.few)) (omega (arith, k.in_one_row))

  module _ (m : Mask (in_row w f c) mask) where
    -- and so is one of a mask that ends with the row
    pub bit_told : (b : Bool) (i : ℕ) → i < n → b ≡ bit_set mask i → b ≡ f (c + i)
    bit_told b i l e = e ∙ m i (omega (arith, k.few)) ∙ rw (lt-ltb (c % w + i) w (omega (arith, k.in_one_row)))

    -- what holds of the cells below one holds of those below a later one, where no bit between the two is 1
    pub reach : (P : ℕ → Type 0) → ((a b : ℕ) → P a → a ≤ b → ((j : ℕ) → j < b - a → f (a + j) ≡ false) → P b) →
        (s e : ℕ) → P (c + s) → s ≤ e → e ≤ n → ((j : ℕ) → s ≤ j → j < e → bit_set mask j ≡ false) → P (c + e)
    reach P on s e p l o clear = on (c + s) (c + e) p (omega arith) none
      where
        none : (j : ℕ) → j < c + e - (c + s) → f (c + s + j) ≡ false
        none j q =
            let a : c + (s + j) ≡ c + s + j = omega arith in
            subst (λ t. f t ≡ false) a
            (sym (bit_told (bit_set mask (s + j)) (s + j) (omega arith) refl) ∙ clear (s + j) (omega arith) (omega arith))

    -- a cell whose bit is the next one that is 1 passes
    pub next_told : (s i : ℕ) → NextBit mask s i → i < n → f (c + i) ≡ true
    next_told s i b l = sym (bit_told (bit_set mask i) i l refl) ∙ b.found (omega (arith, k.few))

-- P holds of the cells below a later one, where none between the two passes
abbrev pub GoesOn : (ℕ → Bool) → (ℕ → Type 0) → Type 0
GoesOn f P = (a b : ℕ) → P a → a ≤ b → ((j : ℕ) → j < b - a → f (a + j) ≡ false) → P b

-- at first all bits of a mask are left
pub all_left : {w c n : ℕ} {f : ℕ → Bool} (P : ℕ → Type 0) (mask : ℕ) (s : SetBits) → s ≡ begun mask n → Mask (in_row w f c) mask → P c → Left w c n f P s
all_left {c = c} P mask s e m p = rw e (record { bits = m; all = refl; passed = omega arith; so = subst P (sym (add-zero c)) p })

module _ {w h c n : ℕ} (k : Chunk w h c n) (f : ℕ → Bool) (P : ℕ → Type 0) (on : GoesOn f P) (s : SetBits) (u : Left w c n f P s) where
  module _ (i : ℕ) (b : NextBit s.mask s.from i) (l : i < s.end) where
    -- the cells before the next bit's are passed
    pub before_next : P (c + i)
    before_next = reach k f s.mask u.bits P on s.from i u.so b.low (omega (arith, u.all)) (λ j p q. b.clear j p q)

    -- and its own passes
    pub next_passes : f (c + i) ≡ true
    next_passes = next_told k f s.mask u.bits s.from i b (omega (arith, u.all))

    -- what holds when it is passed holds of the bits that are left
    pub left_after : (Q : ℕ → Type 0) (t : SetBits) → t ≡ record s { from = i + 1 } → Q (c + i + 1) → Left w c n f Q t
    left_after Q t e q =
        let a : c + i + 1 ≡ c + (i + 1) = omega arith in
        rw e (record { bits = u.bits; all = u.all; passed = omega (arith, u.all); so = subst Q a q })

  -- where none is left all cells are passed
  pub none_left : ((j : ℕ) → s.from ≤ j → j < s.end → bit_set s.mask j ≡ false) → P (c + n)
  none_left e = reach k f s.mask u.bits P on s.from n u.so u.passed (omega arith) (λ j p q. e j p (omega (arith, u.all)))
