-- The eight fields show the turning points to which a place is linked, and no others: what their rows show is direct, and what is direct
-- is shown in a row of one of them. Assumes nothing.
use Prim.Native.Nat.{ℕ, zero, suc, ◌+◌, ◌-◌, ◌*◌, ◌/◌, ◌%◌, ◌≤◌, ◌<◌}
use mathlib.Core.Bool.{Bool, true, false, cond}
use mathlib.Core.List.{◌++◌}
use mathlib.Core.Logic.{◌≢◌, inl, inr}
use mathlib.Core.Path.{◌≡◌, refl, sym, ◌∙◌, ap, ap₂, subst}
use native.Mathlib.Decide.{ℕ_discrete}
use native.Mathlib.Omega.{arith}
use borrow.Author.Rules.{rules}
use borrow.Author.Tests.{ltb-true, ltb-false}
use lib.Dec.{ltb}
use lib.ListN.{replicate}
use Rattle.lengths.specs.Lengths.{pair, gap}
use Rattle.floor.specs.Board.{Board, Padded, Place, Free, Dir, dir_at, Offset, less, same, more, moving, slanted, corner}
use Rattle.floor.proofs.Below.{below}
use Rattle.ground.specs.Kind.{walkers, octile}
use Rattle.ground.specs.Walk.{end}
use Rattle.ground.specs.Link.{Direct, Link}
use Rattle.ground.specs.Line.{toward, compass, diagonal_way, straight_way}
use Rattle.ground.specs.Rows.{cell, Rows}
use Rattle.ground.proofs.Tables.{offset_pair}
use Rattle.ground.proofs.Near.{Near}
use Rattle.ground.proofs.Octile.{tame_within, tame_octile}
use Rattle.ground.proofs.LineEnds.{block_len, line_end, line_diagonal}
use Rattle.ground.proofs.Lines.{way_of, tame_over, Over}
use Rattle.ground.proofs.RowTest.{Sides, field_ways, beside_sides, cell_iff_rows, replicate_is}
use Rattle.fields.specs.Fields.{slant, side, Shows, Own, field_by, field_to}

-- the two directions of a field: a diagonal one and a straight one beside it
record Beside (d c : Dir) : Type 0 where
  diagonal : slanted d ≡ true
  straight : slanted c ≡ false
  near : Near d c

-- they are so in each of the eight
beside : (f : ℕ) → f < 8 → Beside (dir_at (slant f)) (dir_at (side f))
beside = below (λ f. Beside (dir_at (slant f)) (dir_at (side f))) 8 (search rules)

-- so a field of any size has them for its sides
pub field_sides : (f n k : ℕ) → f < 8 → Sides (dir_at (slant f)) (dir_at (side f)) n k
field_sides f n k l = let b = beside f l in beside_sides (dir_at (slant f)) (dir_at (side f)) n k b.diagonal b.straight b.near

-- t lies n diagonal and k straight steps from s, and where a field goes any of them it goes the direct line's way
pub record Leads (s t : Place) (f n k : ℕ) : Type 0 where
  pub steps : octile s t ≡ pair k n
  pub diagonal : 0 < n → diagonal_way s t ≡ dir_at (slant f)
  pub straight : 0 < k → straight_way s t ≡ dir_at (side f)

-- ---- what is shown is direct
module _ {B : Board} (padded : Padded B) {s : Place} (f : ℕ) (lf : f < 8) {n : ℕ} {t : Place}
    (h : Shows B s (dir_at (slant f)) (dir_at (side f)) n t) where
  -- What a row of a field shows is direct from where the sweep goes out.
  pub shown_direct : Direct walkers B s t
  shown_direct =
      subst (Direct walkers B s) (sym h.there)
      ((cell_iff_rows padded s (dir_at (slant f)) (dir_at (side f)) n h.k (field_sides f n h.k lf)).1 h.rows)

  -- The way there is the direct line's.
  pub shown_leads : Leads s t f n h.k
  shown_leads =
      let d = dir_at (slant f) in
      let c = dir_at (side f) in
      let field = replicate n d ++ replicate h.k c in
      let sides = field_sides f n h.k lf in
      let inside = tame_within padded s field sides.tame (h.rows.free 0 0 (omega arith) (omega arith)) (h.rows.free n h.k (omega arith) (omega arith)) in
      let ways = field_ways (way_of s t) d c n h.k sides (subst (λ p. Over (way_of s p) field) (sym h.there) (tame_over s field inside sides.tame)) in
      record {
        steps = ap (octile s) h.there ∙ sym (tame_octile s field inside sides.tame) ∙ block_len d c n h.k sides.diagonal sides.straight;
        diagonal = ways.0;
        straight = ways.1;
      }

  -- And it is another place.
  pub shown_other : t ≢ s
  shown_other e =
      let steps : (octile s s).straight + (octile s s).diagonal ≡ h.k + n = ap (λ l. l.straight + l.diagonal) (ap (octile s) (sym e) ∙ shown_leads.steps) in
      let some = h.some_way in
      omega arith

  -- So a turning point is linked to what a sweep from it shows.
  pub shown_link : corner B s ≡ true → Link walkers B s t
  shown_link turns = record { from = turns; to = h.turns; two = λ e. shown_other (sym e); direct = shown_direct }

-- ---- what is direct is shown
-- an offset ahead
abbrev ahead : Offset → Bool
ahead less = false
ahead same = false
ahead more = true

-- a field whose straight direction goes along h, if that moves, or v, and whose diagonal one has both offsets, where both move
record FieldOf (h v : Offset) (wide : Bool) (f : ℕ) : Type 0 where
  field_in : f < 8
  along : dir_at (side f) ≡ cond wide (cond (moving h) (compass h same) (dir_at (side f))) (compass same v)
  across : compass h v ≡ cond (slanted (compass h v)) (dir_at (slant f)) (compass h v)

-- there is one for each two offsets, along either
field_of : (wide : Bool) (h v : Offset) → FieldOf h v wide (field_by (ahead h) (ahead v) wide)
field_of true =
    offset_pair (λ h v. FieldOf h v true (field_by (ahead h) (ahead v) true))
    (search rules) (search rules) (search rules) (search rules) (search rules) (search rules) (search rules) (search rules) (search rules)
field_of false =
    offset_pair (λ h v. FieldOf h v false (field_by (ahead h) (ahead v) false))
    (search rules) (search rules) (search rules) (search rules) (search rules) (search rules) (search rules) (search rules) (search rules)

-- the offset from one number to another is ahead where the other is larger
ahead_toward : (a b : ℕ) → ahead (toward a b) ≡ ltb a b
ahead_toward a b = by (ltb a b) (ltb b a)
  where
    by : (p q : Bool) → ahead (cond p more (cond q less same)) ≡ p
    by true q = refl
    by false true = refl
    by false false = refl

-- and moves where the two are not equal
moving_toward : (a b : ℕ) → 0 < gap a b → moving (toward a b) ≡ true
moving_toward a b l = by (ltb a b) (ltb b a) refl refl
  where
    by : (p q : Bool) → ltb a b ≡ p → ltb b a ≡ q → moving (cond p more (cond q less same)) ≡ true
    by true q e f = refl
    by false true e f = refl
    by false false e f = absurd (omega (arith, ltb-false a b e, ltb-false b a f))

module _ (s t : Place) where
  -- the offset of the columns from s to t
  abbrev h : Offset
  h = toward s.x t.x

  -- and that of the rows
  abbrev v : Offset
  v = toward s.y t.y

  -- whether the direct line is straight along the rows
  abbrev wide : Bool
  wide = ltb (gap s.y t.y) (gap s.x t.x)

  -- the field to t is the one of these offsets
  field_to_lem : FieldOf h v wide (field_to s t)
  unfolding field_to
  field_to_lem = subst (FieldOf h v wide) (ap₂ (λ (p q : Bool). field_by p q wide) (ahead_toward s.x t.x) (ahead_toward s.y t.y)) (field_of wide h v)

  -- its straight direction is the line's: a line along the rows moves on them
  straight_to : (b : Bool) → wide ≡ b → (c : Dir) → cond b (cond (moving h) (compass h same) c) (compass same v) ≡ cond b (compass h same) (compass same v)
  straight_to true e c = rw (moving_toward s.x t.x (let l = ltb-true (gap s.y t.y) (gap s.x t.x) e in omega arith))
  straight_to false e c = refl

  -- t lies so many steps from s in the two directions of the field to t
  lies : t ≡ cell s (dir_at (slant (field_to s t))) (dir_at (side (field_to s t))) (octile s t).diagonal (octile s t).straight
  lies =
      sym (line_end s t) ∙ ap (end s) (ap₂ ◌++◌
      (replicate_is (octile s t).diagonal (diagonal_way s t) (dir_at (slant (field_to s t)))
      (λ z. field_to_lem.across ∙ ap (λ b. cond b (dir_at (slant (field_to s t))) (compass h v)) (line_diagonal s t z)))
      (replicate_is (octile s t).straight (straight_way s t) (dir_at (side (field_to s t))) (λ z. sym (field_to_lem.along ∙ straight_to wide refl _))))

-- the field to t is one of the eight
pub field_to_in : (s t : Place) → field_to s t < 8
field_to_in s t = (field_to_lem s t).field_in

-- other places are some way off
some_way : (s t : Place) (d c : Dir) (n k : ℕ) → s ≢ t → t ≡ cell s d c n k → 0 < n + k
some_way s t d c zero zero other e = absurd (other (sym e))
some_way s t d c zero (suc k) other e = omega arith
some_way s t d c (suc n) k other e = omega arith

-- Every turning point that is direct from another place is shown in a row of the field to it.
pub shown_there : {B : Board} → Padded B → (s t : Place) → Direct walkers B s t → corner B t ≡ true → s ≢ t →
    (n : ℕ) × Shows B s (dir_at (slant (field_to s t))) (dir_at (side (field_to s t))) n t
shown_there {B} padded s t direct turns other =
    let f = field_to s t in
    let d = dir_at (slant f) in
    let c = dir_at (side f) in
    let n = (octile s t).diagonal in
    let k = (octile s t).straight in (
      n,
      record {
        k = k;
        there = lies s t;
        some_way = some_way s t d c n k other (lies s t);
        rows = (cell_iff_rows padded s d c n k (field_sides f n k (field_to_in s t))).0 (subst (Direct walkers B s) (lies s t) direct);
        turns = turns;
      },
    )

-- ---- a turning point on the edge of two fields is the even one's own
module _ {B : Board} {s t : Place} {d c : Dir} where
  -- what the first row shows, it shows with any diagonal direction
  first_row : (d' : Dir) → Shows B s d c 0 t → Shows B s d' c 0 t
  first_row d' q =
      record {
        k = q.k;
        there = q.there;
        some_way = q.some_way;
        rows = record { ray = q.rows.ray; free = free; plain = plain };
        turns = q.turns;
      }
    where
      free : (i j : ℕ) → i ≤ 0 → j ≤ q.k → Free B (cell s d' c i j)
      free zero j l m = q.rows.free 0 j l m
      free (suc i) j l m = absurd (omega arith)

      plain : (i j : ℕ) → i ≤ 0 → j ≤ q.k → 0 < i + j → i + j < 0 + q.k → corner B (cell s d' c i j) ≡ false
      plain zero j l m a b = q.rows.plain 0 j l m a b
      plain (suc i) j l m a b = absurd (omega arith)

  -- what stands at a row's beginning, the row shows with any straight one
  row_beginning : (c' : Dir) (n : ℕ) (q : Shows B s d c n t) → q.k ≡ 0 → Shows B s d c' n t
  row_beginning c' n q z =
      record {
        k = 0;
        there = q.there ∙ ap (cell s d c n) z;
        some_way = let a = q.some_way in omega arith;
        rows = record { ray = rows.ray; free = free; plain = plain };
        turns = q.turns;
      }
    where
      rows : Rows B s d c n 0
      rows = subst (Rows B s d c n) z q.rows

      free : (i j : ℕ) → i ≤ n → j ≤ 0 → Free B (cell s d c' i j)
      free i zero l m = rows.free i 0 l m
      free i (suc j) l m = absurd (omega arith)

      plain : (i j : ℕ) → i ≤ n → j ≤ 0 → 0 < i + j → i + j < n + 0 → corner B (cell s d c' i j) ≡ false
      plain i zero l m a b = rows.plain i 0 l m a b
      plain i (suc j) l m a b = absurd (omega arith)

-- an odd field has the straight direction of the field after it and the diagonal one of the field before it, and both are even
record Odd (f : ℕ) : Type 0 where
  after_in : (f + 1) % 8 < 8
  after_even : (f + 1) % 8 % 2 ≡ 0
  straight : side f ≡ side ((f + 1) % 8)
  before_in : f - 1 < 8
  before_even : (f - 1) % 2 ≡ 0
  diagonal : slant f ≡ slant (f - 1)

-- so it is with each of the four
odd_field : (f : ℕ) → f < 8 → ¬ (f % 2 ≡ 0) → Odd f
odd_field f l n =
    let half : 2 * (f / 2) + 1 ≡ f = omega (arith, n) in
    subst Odd half (below (λ i. Odd (2 * i + 1)) 4 (search rules) (f / 2) (omega arith))

-- t is shown from s in a row of a field, and is the field's own
abbrev pub OwnShown : Board → Place → Place → Type 0
OwnShown B s t = (f : ℕ) × (f < 8) × (n : ℕ) × (q : Shows B s (dir_at (slant f)) (dir_at (side f)) n t) × Own f n q.k

-- What a field shows is its own, or that of an even field beside it, which has the same straight or the same diagonal direction.
pub own_shown : {B : Board} {s t : Place} (f n : ℕ) → f < 8 → Shows B s (dir_at (slant f)) (dir_at (side f)) n t → OwnShown B s t
own_shown {B} {s} {t} f n l q = by (ℕ_discrete (f % 2) 0) (ℕ_discrete n 0) (ℕ_discrete q.k 0)
  where
    by : Dec (f % 2 ≡ 0) → Dec (n ≡ 0) → Dec (q.k ≡ 0) → OwnShown B s t
    by (yes even) a b = (f, l, n, q, inl even)
    by (no odd) (yes z) b =
        let g = (f + 1) % 8 in
        let o = odd_field f l odd in
        let first = subst (λ i. Shows B s (dir_at (slant f)) (dir_at (side f)) i t) z q in
        (g, o.after_in, 0, subst (λ i. Shows B s (dir_at (slant g)) (dir_at i) 0 t) o.straight (first_row (dir_at (slant g)) first), inl o.after_even)
    by (no odd) (no a) (yes z) =
        let g = f - 1 in
        let o = odd_field f l odd in
        (g, o.before_in, n, subst (λ i. Shows B s (dir_at i) (dir_at (side g)) n t) o.diagonal (row_beginning (dir_at (side g)) n q z), inl o.before_even)
    by (no odd) (no a) (no b) = (f, l, n, q, inr (omega (arith, a), omega (arith, b)))

-- So every turning point that is direct from another place is the own of one of the eight.
pub direct_shown : {B : Board} → Padded B → (s t : Place) → Direct walkers B s t → corner B t ≡ true → s ≢ t → OwnShown B s t
direct_shown padded s t direct turns other =
    let (n, shows) = shown_there padded s t direct turns other in
    own_shown (field_to s t) n (field_to_in s t) shows

-- So every link of a turning point is shown.
pub link_shown : {B : Board} → Padded B → {s t : Place} → Link walkers B s t → OwnShown B s t
link_shown padded {s} {t} link = direct_shown padded s t link.direct link.to link.two
