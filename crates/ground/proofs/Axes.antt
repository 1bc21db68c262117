-- One axis of a walk at a time: where it leads, how many of its steps move on it, and what it means to go one way on it.
-- Assumes nothing.
use mathlib.Core.Path.{◌≡◌, refl, sym, ◌∙◌, ap}
use mathlib.Core.Bool.{Bool, true, false}
use mathlib.Core.List.{List, [], ◌∷◌}
use Prim.Native.Nat.{ℕ, suc, pred, ◌+◌, ◌≤◌, ◌<◌}
use native.Mathlib.Omega.{arith}
use native.Mathlib.Decide.{dec_le}
use lib.ListN.{length}
use Rattle.lengths.specs.Lengths.{Len, gap}
use Rattle.floor.specs.Board.{Board, Padded, Place, Dir, Offset, less, same, more, dx, dy, shift, go, moving}
use Rattle.ground.specs.Kind.{Kind}
use Rattle.ground.specs.Walk.{end, Legal, size, len}
use Rattle.ground.proofs.Logic.{not_both}
use Rattle.ground.proofs.Tables.{each}
use Rattle.ground.proofs.Cells.{column_inside, row_inside}
use Rattle.ground.proofs.Near.{opposite, agree, same_way, same_way_agrees}
use Rattle.ground.proofs.Ways.{AllMates, Tame}

-- One axis of a walk: where it leads from n, and how many of its steps move on it.
abbrev pub travel : (Dir → Offset) → ℕ → List Dir → ℕ
travel ax n [] = n
travel ax n (d ∷ ds) = travel ax (shift (ax d) n) ds

-- 1 for yes, 0 for no
abbrev pub one_if : Bool → ℕ
one_if true = 1
one_if false = 0

-- how many steps move on the axis
abbrev pub moves : (Dir → Offset) → List Dir → ℕ
moves ax [] = 0
moves ax (d ∷ ds) = one_if (moving (ax d)) + moves ax ds

-- the column of the end is where the first axis leads
pub end_x : (s : Place) (ds : List Dir) → (end s ds).x ≡ travel dx s.x ds
end_x s [] = refl
end_x s (d ∷ ds) = end_x (go d s) ds

-- and its row is where the second leads
pub end_y : (s : Place) (ds : List Dir) → (end s ds).y ≡ travel dy s.y ds
end_y s [] = refl
end_y s (d ∷ ds) = end_y (go d s) ds

-- the axis never stands at 0 on the way
abbrev pub Inside : (Dir → Offset) → ℕ → List Dir → Type 0
Inside ax n [] = 0 < n
Inside ax n (d ∷ ds) = (0 < n) × Inside ax (shift (ax d) n) ds

-- 𝟎 of the directions goes back (less), or 𝟎 goes ahead (more)
abbrev pub Never : Offset → (Dir → Offset) → List Dir → Type 0
Never o ax [] = Unit {0}
Never o ax (d ∷ ds) = (opposite o (ax d) ≡ false) × Never o ax ds

-- steps that never go back lead as far as they are many
pub ahead : (ax : Dir → Offset) (n : ℕ) (ds : List Dir) → Never more ax ds → travel ax n ds ≡ n + moves ax ds
ahead ax n [] h = omega arith
ahead ax n (d ∷ ds) h = by (ax d) h.0 (ahead ax (shift (ax d) n) ds h.1)
  where
    by : (o : Offset) → opposite more o ≡ false → travel ax (shift o n) ds ≡ shift o n + moves ax ds →
        travel ax (shift o n) ds ≡ n + (one_if (moving o) + moves ax ds)
    by less k e = not_both refl k
    by same k e = e ∙ omega arith
    by more k e = e ∙ omega arith

-- and so do steps that never go ahead
pub behind : (ax : Dir → Offset) (n : ℕ) (ds : List Dir) → Never less ax ds → Inside ax n ds → travel ax n ds + moves ax ds ≡ n
behind ax n [] h i = omega arith
behind ax n (d ∷ ds) h i = by (ax d) h.0 (behind ax (shift (ax d) n) ds h.1 i.1)
  where
    by : (o : Offset) → opposite less o ≡ false → travel ax (shift o n) ds + moves ax ds ≡ shift o n →
        travel ax (shift o n) ds + (one_if (moving o) + moves ax ds) ≡ n
    by less k e =
        let p : 0 < n = i.0 in
        let e' : travel ax (pred n) ds + moves ax ds ≡ pred n = e in
        omega arith
    by same k e = omega (arith, e)
    by more k e = not_both refl k

-- All the steps go one way on an axis, or stand still on it.
abbrev pub OneWay : (Dir → Offset) → List Dir → Type 0
OneWay ax ds = (way : Offset) × (moving way ≡ true) × Never way ax ds

-- going one way, the gap is the number of moves
pub gap_moves : (ax : Dir → Offset) (n : ℕ) (ds : List Dir) → OneWay ax ds → Inside ax n ds → gap n (travel ax n ds) ≡ moves ax ds
gap_moves ax n ds w i = by w.0 w.1 w.2
  where
    by : (o : Offset) → moving o ≡ true → Never o ax ds → gap n (travel ax n ds) ≡ moves ax ds
    by less m h = let e : travel ax n ds + moves ax ds ≡ n = behind ax n ds h i in omega arith
    by same m h = not_both m refl
    by more m h = let e : travel ax n ds ≡ n + moves ax ds = ahead ax n ds h in omega arith

-- every step moves on the axis
abbrev pub AllMove : (Dir → Offset) → List Dir → Type 0
AllMove ax [] = Unit {0}
AllMove ax (d ∷ ds) = (moving (ax d) ≡ true) × AllMove ax ds

-- if all steps move, there are as many moves as steps
pub all_move : (ax : Dir → Offset) (ds : List Dir) → AllMove ax ds → moves ax ds ≡ length ds
all_move ax [] m = refl
all_move ax (d ∷ ds) m = rw m.0 (let e : moves ax ds ≡ length ds = all_move ax ds m.1 in omega arith)

-- how steps, kinds of step and moves on the axes are counted together
pub record Counts (ds : List Dir) : Type 0 where
  pub steps : (len ds).straight + (len ds).diagonal ≡ length ds
  pub both : moves dx ds + moves dy ds ≡ length ds + (len ds).diagonal

-- a direction is one step, and moves on one axis or, a diagonal one, on both
step_counts : (d : Dir) → ((size d).straight + (size d).diagonal ≡ 1) × (one_if (moving (dx d)) + one_if (moving (dy d)) ≡ 1 + (size d).diagonal)
step_counts =
    each (λ d. ((size d).straight + (size d).diagonal ≡ 1) × (one_if (moving (dx d)) + one_if (moving (dy d)) ≡ 1 + (size d).diagonal))
    (refl, refl) (refl, refl) (refl, refl) (refl, refl) (refl, refl) (refl, refl) (refl, refl) (refl, refl)

-- the counts are right for every list
pub counts : (ds : List Dir) → Counts ds
counts [] = record { steps = refl; both = refl }
counts (d ∷ ds) =
    let c = counts ds in
    let k = step_counts d in
    record { steps = omega (arith, k.0, c.steps); both = omega (arith, k.1, c.both) }

-- lists of one length have equally many steps
pub same_steps : (u v : List Dir) → len u ≡ len v → length u ≡ length v
same_steps u v e = sym (counts u).steps ∙ ap (λ (l : Len). l.straight + l.diagonal) e ∙ (counts v).steps

-- A walk keeps off row 0 and column 0.
abbrev pub Inner : Place → List Dir → Type 0
Inner s ds = Inside dx s.x ds × Inside dy s.y ds

-- a legal list keeps off row 0 and column 0
pub legal_within : (K : Kind) {B : Board} → Padded B → (s : Place) (ds : List Dir) → Legal K B s ds → Inner s ds
legal_within K padded s [] l = (column_inside padded l, row_inside padded l)
legal_within K padded s (d ∷ ds) l =
    let (i, j) = legal_within K padded (go d s) ds l.2 in
    ((column_inside padded l.0, i), (row_inside padded l.0, j))

-- A tame list between two places off row 0 and column 0 keeps off them.
never_falls : (ax : Dir → Offset) (n : ℕ) (ds : List Dir) → Never less ax ds → travel ax n ds ≤ n
never_falls ax n [] h = omega arith
never_falls ax n (d ∷ ds) h = by (ax d) h.0 (never_falls ax (shift (ax d) n) ds h.1)
  where
    by : (o : Offset) → opposite less o ≡ false → travel ax (shift o n) ds ≤ shift o n → travel ax (shift o n) ds ≤ n
    by less k e = let e' : travel ax (pred n) ds ≤ pred n = e in omega arith
    by same k e = e
    by more k e = not_both refl k

-- going down to a place above 0, all on the way is above 0
down_inside : (ax : Dir → Offset) (n : ℕ) (ds : List Dir) → Never less ax ds → 0 < travel ax n ds → Inside ax n ds
down_inside ax n [] h p = p
down_inside ax n (d ∷ ds) h p =
    (let q = never_falls ax n (d ∷ ds) h in omega arith, down_inside ax (shift (ax d) n) ds h.1 p)

-- going up from a place above 0, all on the way is above 0
up_inside : (ax : Dir → Offset) (n : ℕ) (ds : List Dir) → Never more ax ds → 0 < n → Inside ax n ds
up_inside ax n [] h p = p
up_inside ax n (d ∷ ds) h p = (p, up_inside ax (shift (ax d) n) ds h.1 (by (ax d) h.0))
  where
    by : (o : Offset) → opposite more o ≡ false → 0 < shift o n
    by less k = not_both refl k
    by same k = p
    by more k = omega arith

-- so a list that goes one way between two places above 0 stays above 0
pub one_way_inside : (ax : Dir → Offset) (n : ℕ) (ds : List Dir) → OneWay ax ds → 0 < n → 0 < travel ax n ds → Inside ax n ds
one_way_inside ax n ds w p q = by w.0 w.1 w.2
  where
    by : (o : Offset) → moving o ≡ true → Never o ax ds → Inside ax n ds
    by less m h = down_inside ax n ds h q
    by same m h = not_both m refl
    by more m h = up_inside ax n ds h p

-- The other way round: a walk of octile length wastes no step, so it goes one way on each axis and moves always on one.
pub gap_le : (ax : Dir → Offset) (n : ℕ) (ds : List Dir) → gap n (travel ax n ds) ≤ moves ax ds
gap_le ax n [] = omega arith
gap_le ax n (d ∷ ds) = by (ax d) (gap_le ax (shift (ax d) n) ds)
  where
    by : (o : Offset) → gap (shift o n) (travel ax (shift o n) ds) ≤ moves ax ds →
        gap n (travel ax (shift o n) ds) ≤ one_if (moving o) + moves ax ds
    by less h = let h' : gap (pred n) (travel ax (pred n) ds) ≤ moves ax ds = h in omega arith
    by same h = omega arith
    by more h = omega arith

-- what leads as far ahead as it has moves never goes back
ahead_only : (ax : Dir → Offset) (n : ℕ) (ds : List Dir) → travel ax n ds ≡ n + moves ax ds → Never more ax ds
ahead_only ax n [] e = tt
ahead_only ax n (d ∷ ds) e = by (ax d) (gap_le ax (shift (ax d) n) ds) (ahead_only ax (shift (ax d) n) ds) e
  where
    by : (o : Offset) → gap (shift o n) (travel ax (shift o n) ds) ≤ moves ax ds →
        (travel ax (shift o n) ds ≡ shift o n + moves ax ds → Never more ax ds) →
        travel ax (shift o n) ds ≡ n + (one_if (moving o) + moves ax ds) → (opposite more o ≡ false) × Never more ax ds
    by less h f e =
        let h' : gap (pred n) (travel ax (pred n) ds) ≤ moves ax ds = h in
        let e' : travel ax (pred n) ds ≡ n + (1 + moves ax ds) = e in
        absurd (omega arith)
    by same h f e = (refl, f (omega arith))
    by more h f e = (refl, f (omega arith))

-- what leads as far back as it has moves never goes ahead
behind_only : (ax : Dir → Offset) (n : ℕ) (ds : List Dir) → travel ax n ds + moves ax ds ≡ n → Never less ax ds
behind_only ax n [] e = tt
behind_only ax n (d ∷ ds) e = by (ax d) (gap_le ax (shift (ax d) n) ds) (behind_only ax (shift (ax d) n) ds) e
  where
    by : (o : Offset) → gap (shift o n) (travel ax (shift o n) ds) ≤ moves ax ds →
        (travel ax (shift o n) ds + moves ax ds ≡ shift o n → Never less ax ds) →
        travel ax (shift o n) ds + (one_if (moving o) + moves ax ds) ≡ n → (opposite less o ≡ false) × Never less ax ds
    by more h f e = absurd (omega arith)
    by same h f e = (refl, f (omega arith))
    by less h f e =
        let e' : travel ax (pred n) ds + (1 + moves ax ds) ≡ n = e in
        let e'' : travel ax (pred n) ds + moves ax ds ≡ pred n = omega arith in
        (refl, f e'')

-- a gap as large as the number of moves is gone one way
pub gap_one_way : (ax : Dir → Offset) (n : ℕ) (ds : List Dir) → gap n (travel ax n ds) ≡ moves ax ds → OneWay ax ds
gap_one_way ax n ds e = by (dec_le n (travel ax n ds))
  where
    by : Dec (n ≤ travel ax n ds) → OneWay ax ds
    by (yes h) = (more, refl, ahead_only ax n ds (omega arith))
    by (no h) = (less, refl, behind_only ax n ds (omega arith))

-- there are no more moves than steps
pub moves_le : (ax : Dir → Offset) (ds : List Dir) → moves ax ds ≤ length ds
moves_le ax [] = omega arith
moves_le ax (d ∷ ds) = by (moving (ax d)) (moves_le ax ds)
  where
    by : (b : Bool) → moves ax ds ≤ length ds → one_if b + moves ax ds ≤ suc (length ds)
    by true h = omega arith
    by false h = omega arith

-- as many moves as steps: all steps move
pub all_moved : (ax : Dir → Offset) (ds : List Dir) → moves ax ds ≡ length ds → AllMove ax ds
all_moved ax [] e = tt
all_moved ax (d ∷ ds) e = by (moving (ax d)) e (moves_le ax ds) (all_moved ax ds)
  where
    by : (b : Bool) → one_if b + moves ax ds ≡ suc (length ds) → moves ax ds ≤ length ds → (moves ax ds ≡ length ds → AllMove ax ds) →
        (b ≡ true) × AllMove ax ds
    by true e h f = (refl, f (omega arith))
    by false e h f = absurd (omega arith)

-- Mates go no opposite ways on the axis.
abbrev pub Respects : (Dir → Dir → Type 0) → (Dir → Offset) → Type 0
Respects Mates ax = (a b : Dir) → Mates a b → opposite (ax a) (ax b) ≡ false

-- a mate of all goes against none
mates_never : (Mates : Dir → Dir → Type 0) (ax : Dir → Offset) → Respects Mates ax → (a : Dir) (ρ : List Dir) → AllMates Mates a ρ → Never (ax a) ax ρ
mates_never Mates ax r a [] n = tt
mates_never Mates ax r a (b ∷ ρ) n = (r a b n.0, mates_never Mates ax r a ρ n.1)

-- a tame list goes one way
pub tame_one_way : (Mates : Dir → Dir → Type 0) (ax : Dir → Offset) → Respects Mates ax → (ds : List Dir) → Tame Mates ds → OneWay ax ds
tame_one_way Mates ax r [] t = (more, refl, tt)
tame_one_way Mates ax r (a ∷ ρ) t = by (ax a) (mates_never Mates ax r a ρ t.0) (tame_one_way Mates ax r ρ t.1)
  where
    by : (o : Offset) → Never o ax ρ → OneWay ax ρ → (w : Offset) × (moving w ≡ true) × ((opposite w o ≡ false) × Never w ax ρ)
    by less n w = (less, refl, (refl, n))
    by more n w = (more, refl, (refl, n))
    by same n w = (w.0, w.1, (still w.0, w.2))
      where
        still : (o : Offset) → opposite o same ≡ false
        still less = refl
        still same = refl
        still more = refl

-- A list is tame if it has a property that its rest has too, and that makes its first direction a mate of the next, and keeps without the next.
pub tame_from : (Mates : Dir → Dir → Type 0) (P : List Dir → Type 0) → ((a : Dir) (ρ : List Dir) → P (a ∷ ρ) → P ρ) →
    ((a b : Dir) (ρ : List Dir) → P (a ∷ b ∷ ρ) → Mates a b × P (a ∷ ρ)) → (ds : List Dir) → P ds → Tame Mates ds
tame_from Mates P rest two [] p = tt
tame_from Mates P rest two (a ∷ ρ) p = (all a ρ p, tame_from Mates P rest two ρ (rest a ρ p))
  where
    all : (a : Dir) (ρ : List Dir) → P (a ∷ ρ) → AllMates Mates a ρ
    all a [] p = tt
    all a (b ∷ ρ) p = let m = two a b ρ p in (m.0, all a ρ m.1)

module _ (ax : Dir → Offset) where
  -- what goes one way goes so after its first step
  pub way_later : (a : Dir) (ρ : List Dir) → OneWay ax (a ∷ ρ) → OneWay ax ρ
  way_later a ρ w = (w.0, w.1, w.2.1)

  -- and without its second
  pub way_first : (a b : Dir) (ρ : List Dir) → OneWay ax (a ∷ b ∷ ρ) → OneWay ax (a ∷ ρ)
  way_first a b ρ w = (w.0, w.1, (w.2.0, w.2.1.1))

  -- its first two steps are not opposite
  pub way_unopposed : (a b : Dir) (ρ : List Dir) → OneWay ax (a ∷ b ∷ ρ) → opposite (ax a) (ax b) ≡ false
  way_unopposed a b ρ w = same_way w.0 (ax a) (ax b) w.1 w.2.0 w.2.1.0

  -- and agree where all steps move
  pub way_agrees : (a b : Dir) (ρ : List Dir) → OneWay ax (a ∷ b ∷ ρ) → AllMove ax (a ∷ b ∷ ρ) → agree (ax a) (ax b) ≡ true
  way_agrees a b ρ w m = same_way_agrees w.0 (ax a) (ax b) w.1 w.2.0 w.2.1.0 m.0 m.1.0
