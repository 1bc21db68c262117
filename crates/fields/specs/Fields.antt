-- The sweep that finds the turning points to which a place is linked (000, Algorithm 3, with its slip corrected): eight fields, each of a
-- diagonal direction and a straight one beside it, row by row. These are states of code; proofs/ ties them to Definition 2.
use Rattle.std.specs.Prelude.{ℕ, suc, ◌+◌, ◌*◌, ◌/◌, ◌%◌, ◌≤◌, ◌<◌, Bool, true, false, cond, not, ◌&&◌, Option, Some, None, List, ◌↔◌, ◌⊎◌, ◌≡◌, ltb, length, get_or, replicate}
use Rattle.lengths.specs.Lengths.{gap}
use Rattle.floor.specs.Board.{Board, Place, at, Free, Dir, dir_at, go, step, corner}
use Rattle.floor.specs.Words.{board, number_of, place_of, Floor, cell_of}
use Rattle.ground.specs.Kind.{walkers}
use Rattle.ground.specs.Walk.{Legal}
use Rattle.ground.specs.Rows.{cell, Rows}
use Rattle.ground.specs.Clearance.{ahead}
use Rattle.marks.specs.Marks.{Cleared}
use Rattle.fields.specs.declared.Sweep.{Sweep}
use Rattle.fields.specs.declared.RowEnd.{RowEnd}

-- the numbers of a field's two directions: NE with N and E, SE with E and S, SW with S and W, NW with W and N
abbrev pub slant : ℕ → ℕ
slant f = 4 + f / 2

abbrev pub side : ℕ → ℕ
side f = (f / 2 + f % 2) % 4

-- and of the straight ones of which the diagonal one is made: E or W, and N or S
abbrev pub across : ℕ → ℕ
across f = 1 + 2 * (f / 4)

abbrev pub along : ℕ → ℕ
along f = 2 * ((f / 2 + 1) / 2 % 2)

-- k steps in direction c from p are free and lead to no turning point
pub record Open (B : Board) (c : Dir) (p : Place) (k : ℕ) : Type 0 where
  pub free : (j : ℕ) → j ≤ k → Free B (ahead c j p)
  pub plain : (j : ℕ) → 0 < j → j ≤ k → corner B (ahead c j p) ≡ false

-- exactly the first `reach` steps are open in the first n rows of a field from s, of the steps that a floor can have: fewer than 255
abbrev pub Opened : Board → Place → Dir → Dir → ℕ → ℕ → Type 0
Opened B s d c n reach = (k : ℕ) → 0 < k → k < 255 → (k ≤ reach) ↔ ((i : ℕ) → i < n → Open B c (ahead d i s) k)

-- the sweep of a field from s has come to row n: the ray so far is legal and has no turning point before row n, and exactly the first
-- `reach` steps are open in all rows before
pub record Come (B : Board) (s : Place) (d c : Dir) (n reach : ℕ) : Type 0 where
  pub ray : Legal walkers B s (replicate n d)
  pub plain : (i : ℕ) → 0 < i → i < n → corner B (ahead d i s) ≡ false
  pub opened : Opened B s d c n reach

-- row n of a field from s shows the turning point t
pub record Shows (B : Board) (s : Place) (d c : Dir) (n : ℕ) (t : Place) : Type 0 where
  pub k : ℕ
  pub there : t ≡ cell s d c n k
  pub some_way : 0 < n + k
  pub rows : Rows B s d c n k
  pub turns : corner B t ≡ true

-- the same for the field with a number, of the cell that a sweep goes out from
abbrev pub ShowsIn : ℕ → ℕ → List ℕ → ℕ → ℕ → ℕ → ℕ → Place → Type 0
ShowsIn w h words sx sy f n t = Shows (board w h words) (at sx sy) (dir_at (slant f)) (dir_at (side f)) n t

-- what lies on a field's edge, in its first row or at a row's beginning, is the even fields' own
abbrev pub Own : ℕ → ℕ → ℕ → Type 0
Own f n k = (f % 2 ≡ 0) ⊎ ((0 < n) × (0 < k))

-- row n of field f from cell (sx, sy) shows t, and t is the field's own
pub record OwnIn (w h : ℕ) (words : List ℕ) (sx sy f n : ℕ) (t : Place) : Type 0 where
  pub shows : ShowsIn w h words sx sy f n t
  pub own : Own f n shows.k

-- ---- passing a row
-- a floor, and its clearances
pub record Known (w h : ℕ) (words clear : List ℕ) : Type 0 where
  pub floor : Floor w h words
  pub long : 4 * (w * h) ≤ length clear
  pub cleared : Cleared w h words clear

-- what passing row n takes: a floor, its clearances, and a sweep that has come to the row
pub record Coming (w h : ℕ) (words clear : List ℕ) (sx sy f n reach : ℕ) : Type 0 where
  pub known : Known w h words clear
  pub field_in : f < 8
  pub few_rows : n < 255
  pub come : Come (board w h words) (at sx sy) (dir_at (slant f)) (dir_at (side f)) n reach

-- row n was passed: what it shows of its own was said, and the sweep has come to the next row, or no later row shows anything
pub record PassedRow (w h : ℕ) (words : List ℕ) (sx sy f n : ℕ) (r : RowEnd) : Type 0 where
  pub said : (t : ℕ) → r.shown ≡ Some t → (t < w * h) × OwnIn w h words sx sy f n (place_of w t)
  pub unsaid : (t : Place) → OwnIn w h words sx sy f n t → r.shown ≡ Some (cell_of w t)
  pub goes_on : (reach : ℕ) → r.reach ≡ Some reach → (reach < 256) × (suc n < 255) × Come (board w h words) (at sx sy) (dir_at (slant f)) (dir_at (side f)) (suc n) reach
  pub ends : r.reach ≡ None → (m : ℕ) (t : Place) → n < m → ¬ (ShowsIn w h words sx sy f m t)

-- ---- going ahead
-- what going k steps ahead of cell (x, y) takes: few steps, and none into row 0 or column 0 of the padded board
pub record Goes (x y dir k : ℕ) : Type 0 where
  pub column_near : x < 255
  pub row_near : y < 255
  pub few : k < 255
  pub dir_in : dir < 8
  pub column : 0 < (ahead (dir_at dir) k (at x y)).x
  pub row : 0 < (ahead (dir_at dir) k (at x y)).y

-- ---- a sweep inside a row
-- where a sweep stands: at the beginning of its row
pub record Standing (w h : ℕ) (words : List ℕ) (s : Sweep) : Type 0 where
  pub field_in : s.field < 8
  pub column_in : s.at.x < w
  pub row_in : s.at.y < h
  pub few_rows : s.row < 255
  pub there : at s.at.x s.at.y ≡ ahead (dir_at (slant s.field)) s.row (at s.start.x s.start.y)
  pub come : Come (board w h words) (at s.start.x s.start.y) (dir_at (slant s.field)) (dir_at (side s.field)) s.row s.reach

-- what reading a row takes: a floor, its clearances, and a sweep that stands
pub record NewRow (w h : ℕ) (words clear : List ℕ) (s : Sweep) : Type 0 where
  pub known : Known w h words clear
  pub standing : Standing w h words s

-- the row begins at no turning point, or is the first
abbrev pub Plainly : ℕ → ℕ → List ℕ → Sweep → Type 0
Plainly w h words s = 0 < s.row → corner (board w h words) (at s.at.x s.at.y) ≡ false

-- the entry of the clearances that tells how far the row leads
abbrev pub row_clearance : ℕ → List ℕ → Sweep → ℕ
row_clearance w clear s = get_or clear (4 * number_of w s.at.x s.at.y + side s.field) 0

-- ---- what is asked of clearances
-- a free cell of some floor of a width that has these clearances
pub record OnSome (w : ℕ) (clear : List ℕ) (x y : ℕ) : Type 0 where
  pub h : ℕ
  pub words : List ℕ
  pub known : Known w h words clear
  pub free : Free (board w h words) (at x y)

-- a test tells of such a cell whether a field's diagonal step from it is legal
abbrev pub StepTold : ℕ → List ℕ → ℕ → ℕ → ℕ → Bool → Type 0
StepTold w clear x y f told = (o : OnSome w clear x y) → told ≡ step (board w o.h o.words) (dir_at (slant f)) (at x y)

-- cell (nx, ny) is the next in a straight direction from cell (x, y), and both are free
pub record NextTo (w h : ℕ) (words : List ℕ) (x y nx ny dir : ℕ) : Type 0 where
  pub straight : dir < 4
  pub free : Free (board w h words) (at x y)
  pub next_free : Free (board w h words) (at nx ny)
  pub there : at nx ny ≡ go (dir_at dir) (at x y)

-- cell (x, y) is a turning point if a step leads on from it in a direction, as it is where a clearance in that direction ends
abbrev pub Ends : ℕ → ℕ → List ℕ → ℕ → ℕ → ℕ → Type 0
Ends w h words x y dir = Free (board w h words) (go (dir_at dir) (at x y)) → corner (board w h words) (at x y) ≡ true

-- a direction leads to a blocked place from q, and to a free one from p
abbrev pub opens_out : Board → Dir → Place → Place → Bool
opens_out B s q p = not (B (go s q).x (go s q).y) && B (go s p).x (go s p).y

-- ---- what a row tells
-- a cell, if one is told, is shown by a sweep's row
abbrev pub Said : ℕ → ℕ → List ℕ → Sweep → Option ℕ → Type 0
Said w h words s shown =
    (t : ℕ) → shown ≡ Some t → (t < w * h) × ShowsIn w h words s.start.x s.start.y s.field s.row (place_of w t)

-- and nothing else is shown by the row
abbrev pub AllSaid : ℕ → ℕ → List ℕ → Sweep → Option ℕ → Type 0
AllSaid w h words s shown =
    (t : Place) → ShowsIn w h words s.start.x s.start.y s.field s.row t → shown ≡ Some (cell_of w t)

-- a row was read: what it shows, and how many steps are open in it and all rows before
pub record RowRead (w h : ℕ) (words : List ℕ) (s : Sweep) (r : RowEnd) : Type 0 where
  pub said : Said w h words s r.shown
  pub unsaid : AllSaid w h words s r.shown
  pub steps : ℕ
  pub told : r.reach ≡ Some steps
  pub opened : Opened (board w h words) (at s.start.x s.start.y) (dir_at (slant s.field)) (dir_at (side s.field)) (suc s.row) steps
  pub few : steps < 256

-- what is told is kept where a condition holds, and else nothing is told
abbrev pub KeptIf : Type 0 → Option ℕ → Option ℕ → Type 0
KeptIf A shown r = (A × (r ≡ shown)) ⊎ ((¬ A) × (r ≡ None))

-- the number of a field, by whether it goes east, south, and along the rows
abbrev pub field_by : Bool → Bool → Bool → ℕ
field_by east south wide = cond east (cond south (cond wide 2 3) (cond wide 1 0)) (cond south (cond wide 5 4) (cond wide 6 7))

-- a field in which t can be shown from s: the only one, unless t lies on the edge of two
unfoldable pub field_to : Place → Place → ℕ
field_to s t = field_by (ltb s.x t.x) (ltb s.y t.y) (ltb (gap s.y t.y) (gap s.x t.x))

module _ (w h : ℕ) (words : List ℕ) (s : ℕ) where
  -- row n of field f from cell s shows cell t, and t is the field's own
  abbrev pub ShownIn : ℕ → ℕ → ℕ → Type 0
  ShownIn f n t = (t < w * h) × OwnIn w h words (s % w) (s / w) f n (place_of w t)

  -- some row of some field from cell s shows cell t
  pub record Seen (t : ℕ) : Type 0 where
    pub field : ℕ
    pub row : ℕ
    pub field_in : field < 8
    pub shown : ShownIn field row t

  -- what a sweep from cell s takes
  pub record Sweepable (clear : List ℕ) : Type 0 where
    pub known : Known w h words clear
    pub cell_in : s < w * h
    pub free : Free (board w h words) (place_of w s)
