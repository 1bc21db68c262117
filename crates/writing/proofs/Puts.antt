-- Bytes written into a list, one part after another, and how many they are. Assumes nothing.
use Prim.Native.Nat.{ℕ, suc, ◌+◌, ◌-◌, ◌*◌, ◌/◌, ◌%◌, ◌^◌, ◌<◌, ◌≤◌}
use mathlib.Core.List.{List, [], ◌∷◌, ◌++◌, append_assoc, append-nil}
use mathlib.Core.Path.{◌≡◌, refl, sym, ap, ap₂, ◌∙◌}
use native.Mathlib.Nat.{add-zero}
use native.Mathlib.Numerals.{add-one}
use native.Mathlib.Omega.{arith}
use lib.ListN.{length, get_or, take, drop, set, length-append, length-drop}
use lib.Seq.{take_at, drop_at, drop-drop, set_split, append_snoc, split_at, take-suc, length-take-le, paste-zero}
use borrow.Rule.Slice.PartMut.{put_mid, Post-is}
use Rattle.writing.specs.Numbers.{Decimal, digit, more, decimal}
use Rattle.writing.specs.Answers.{put_at, Put, named, spaced, number_line, cell_bytes, route_cells, floor_line, survey_refused, input_refused, answer_numbers}
use Rattle.writing.specs.Growing.{Grown}
use Rattle.writing.specs.declared.Line.{Line}
use Rattle.writing.proofs.Decimals.{one_decimal, decimal_is, few_digits}

-- ---- writing
-- a second write right after a first is one write of both
pub put_at_then : (o : List ℕ) (a : ℕ) (x y : List ℕ) → a ≤ length o → put_at (put_at o a x) (a + length x) y ≡ put_at o a (x ++ y)
unfolding put_at
put_at_then o a x y l =
    ap₂ (λ s t. s ++ y ++ t)
    (take_at (take a o ++ x) (drop (a + length x) o) (a + length x) front)
    (sym (drop-drop (length y) (a + length x) _) ∙ ap (drop (length y)) (drop_at (take a o ++ x) (drop (a + length x) o) (a + length x) front) ∙ drop-drop (length y) (a + length x) o)
    ∙ ap₂ (λ s n. s ++ drop n o) (append_assoc (take a o) x y) both
  where
    front : length (take a o ++ x) ≡ a + length x
    front = rw (length-append, length-take-le a o l)

    both : a + length x + length y ≡ a + length (x ++ y)
    both = omega (arith, length-append x y)

-- two writes, one right after the other, are one
pub put_then : {o p q : List ℕ} {a b c : ℕ} {x y : List ℕ} → a ≤ length o → Put o p a b x → Put p q b c y → Put o q a c (x ++ y)
put_then {o} {p} {q} {a} {b} {c} {x} {y} l s t =
    record {
      written = t.written ∙ ap₂ (λ r n. put_at r n y) s.written s.ends ∙ put_at_then o a x y l;
      ends = rw length-append (omega (arith, s.ends, t.ends));
    }

-- no byte
pub put_none : (o : List ℕ) (a : ℕ) → Put o o a a []
unfolding put_at
put_none o a = record { written = paste-zero o a []; ends = sym (add-zero a) }

-- one byte
pub put_one : (o : List ℕ) (a v : ℕ) → a < length o → Put o (set o a v) a (a + 1) (v ∷ [])
unfolding put_at
put_one o a v l = record { written = set_split o a v l ∙ sym (append_snoc (take a o) v (drop (suc a) o)) ∙ ap (λ n. take a o ++ v ∷ [] ++ drop n o) (sym (add-one a)); ends = refl }

-- a text copied into a part of the list
pub put_copy : (o : List ℕ) (a : ℕ) (text copied : List ℕ) → copied ≡ text → Put o (put_mid a (a + length text - a) o copied) a (a + length text) text
unfolding put_at
put_copy o a text copied e =
    let after = Post-is a (a + length text) o (omega arith) in
    record { written = rw (e, after) (sym (append_assoc (take a o) text (drop (a + length text) o))); ends = refl }

-- the same bytes by another name
pub put_same : {o p : List ℕ} {a b : ℕ} {x y : List ℕ} → x ≡ y → Put o p a b x → Put o p a b y
put_same e s = rw e at s

-- what is put into a list leaves it as long as it was
put_long : {o p : List ℕ} {a r : ℕ} {bytes : List ℕ} → a + length bytes ≤ length o → Put o p a r bytes → length p ≡ length o
unfolding put_at
put_long {o} {a} {bytes} l p = ap length p.written ∙ simp (length-append, length-drop) (omega (arith, length-take-le a o (omega arith)))

-- ---- lines
-- a line whose list is another, with bytes put at its end
pub grown : (l m : Line) (bytes : List ℕ) → l.used + length bytes ≤ length l.out.now → m.out.ghost_name ≡ l.out.ghost_name → Put l.out.now m.out.now l.used m.used bytes → Grown l m bytes
grown l m bytes h e p = record { same = e; put = p; long = put_long h p }

-- a line that has not grown
pub grown_none : (l : Line) → Grown l l []
grown_none l = record { same = refl; put = put_none l.out.now l.used; long = refl }

-- a line that has grown twice
pub grown_then : {l m n : Line} {x y : List ℕ} → l.used ≤ length l.out.now → Grown l m x → Grown m n y → Grown l n (x ++ y)
grown_then h g k = record { same = k.same ∙ g.same; put = put_then h g.put k.put; long = k.long ∙ g.long }

-- the same bytes by another name
pub grown_same : {l m : Line} {x y : List ℕ} → x ≡ y → Grown l m x → Grown l m y
grown_same e g = rw e at g

-- what a line put into the list that was lent for it
pub put_back : {o p q : List ℕ} {a r : ℕ} {bytes : List ℕ} → p ≡ q → Put o q a r bytes → Put o p a r bytes
put_back e p = rw (← e) at p

-- ---- decimals, as they are written
-- one digit
pub decimal_one : (n : ℕ) → n < 10 → (48 + n) ∷ [] ≡ decimal n
decimal_one n l = let d : Decimal n ((48 + n) ∷ []) = digit l refl in one_decimal d (decimal_is n) refl

-- two digits or more: the decimal of the tenth, and the last digit
pub decimal_more : (n : ℕ) → 10 ≤ n → decimal (n / 10) ++ (48 + n % 10) ∷ [] ≡ decimal n
decimal_more n l =
    let d : Decimal n (decimal (n / 10) ++ (48 + n % 10) ∷ []) = more {n = n} (n / 10) (n % 10) (decimal (n / 10)) (omega arith) (omega arith) (decimal_is (n / 10)) (omega arith) refl in
    one_decimal d (decimal_is n) refl

-- ---- cells of a route
-- cells of one route and then of another
cells_then : (r s : List ℕ) → cell_bytes (r ++ s) ≡ cell_bytes r ++ cell_bytes s
unfolding cell_bytes
cells_then [] s = refl
cells_then (c ∷ r) s = ap (λ l. spaced c ++ l) (cells_then r s) ∙ sym (append_assoc (spaced c) (cell_bytes r) (cell_bytes s))

-- no cells take no bytes
pub cells_none : cell_bytes [] ≡ []
unfolding cell_bytes
cells_none = refl

-- one cell
one_cell : (c : ℕ) → cell_bytes (c ∷ []) ≡ spaced c
unfolding cell_bytes
one_cell c = append-nil (spaced c)

-- one cell more
pub cells_more : (r : List ℕ) (i : ℕ) → i < length r → cell_bytes (take i r) ++ spaced (get_or r i 0) ≡ cell_bytes (take (i + 1) r)
cells_more r i l = sym (rw (add-one, take-suc r i 0 l) (cells_then (take i r) (get_or r i 0 ∷ []) ∙ ap (λ s. cell_bytes (take i r) ++ s) (one_cell (get_or r i 0))))

-- a cell that is still to be written has room where the route has
pub cells_room : (r : List ℕ) (i : ℕ) → i < length r → length (cell_bytes (take i r)) + length (spaced (get_or r i 0)) ≤ length (cell_bytes r)
unfolding cell_bytes
cells_room r i l =
    let e = ap (λ s. length (cell_bytes s)) (split_at r i 0 l) ∙ ap length (cells_then (take i r) (get_or r i 0 ∷ drop (suc i) r)) in
    omega (arith, simp length-append at e)

-- a route is its colon and its cells
pub route_then : (r : List ℕ) → (32 ∷ 58 ∷ []) ++ cell_bytes r ≡ route_cells r
unfolding route_cells
route_then r = refl

-- ---- how many bytes
-- a number of 64 bits has at most 20 digits
pub digits_64 : (n : ℕ) → n < 2 ^ 64 → length (decimal n) ≤ 20
digits_64 n l = few_digits 19 (decimal_is n) (omega arith)

-- a number of 16 bits has at most 5 digits
pub digits_16 : (n : ℕ) → n < 65536 → length (decimal n) ≤ 5
digits_16 n l = few_digits 4 (decimal_is n) (omega arith)

-- a space and a number
pub spaced_length : (n : ℕ) → length (spaced n) ≡ 1 + length (decimal n)
unfolding spaced named
spaced_length n = length-append (32 ∷ []) (decimal n)

-- the floor's line: its texts and its five numbers
pub floor_length : (w h free k m : ℕ) → length (floor_line w h free k m) ≡ 29 + (length (decimal w) + length (decimal h) + length (decimal free) + length (decimal k) + length (decimal m))
unfolding floor_line named spaced
floor_length w h free k m = simp length-append (omega arith)

-- the survey's refusal
pub survey_length : (code : ℕ) → length (survey_refused code) ≡ 16 + length (decimal code)
unfolding survey_refused number_line named
survey_length code = simp length-append (omega arith)

-- the input's refusal
pub input_length : (line : ℕ) → length (input_refused line) ≡ 23 + length (decimal line)
unfolding input_refused number_line named
input_length line = simp length-append (omega arith)

-- an answer's six numbers and the five spaces between them
pub answer_length : (code a b cells effort figure : ℕ)
    → length (answer_numbers code a b cells effort figure) ≡ 5 + (length (decimal code) + length (decimal a) + length (decimal b) + length (decimal cells) + length (decimal effort) + length (decimal figure))
unfolding answer_numbers named spaced
answer_length code a b cells effort figure = simp length-append (omega arith)

-- n cells take at most 6 n bytes
cells_length : (r : List ℕ) → ((i : ℕ) → i < length r → get_or r i 0 < 65536) → length (cell_bytes r) ≤ 6 * length r
unfolding cell_bytes
cells_length [] h = omega arith
cells_length (c ∷ r) h =
    let ih = cells_length r (λ i l. h (suc i) (omega arith)) in
    rw (length-append, spaced_length) (omega (arith, digits_16 c (h 0 (omega arith))))

-- a route of n cells takes at most 2 + 6 n bytes
pub route_length : (r : List ℕ) → ((i : ℕ) → i < length r → get_or r i 0 < 65536) → length (route_cells r) ≤ 2 + 6 * length r
unfolding route_cells
route_length r h = omega (arith, cells_length r h)
