-- Two places are joined directly exactly if the rows of the field between them are free and hold no turning point but perhaps at the two ends.
-- Assumes nothing.
use mathlib.Core.Path.{◌≡◌, refl, sym, ◌∙◌, ap, ap₂, subst}
use mathlib.Core.Bool.{Bool, true, false}
use mathlib.Core.List.{List, [], ◌∷◌, ◌++◌, append_assoc}
use mathlib.Core.Logic.{⊎_elim, ◌↔◌}
use Prim.Native.Nat.{ℕ, zero, suc, ◌+◌, ◌-◌, ◌≤◌, ◌<◌}
use native.Mathlib.Omega.{arith}
use native.Mathlib.Nat.{suc-add, zero-add}
use lib.ListN.{length, replicate}
use Rattle.lengths.specs.Lengths.{Len, pair, ◌⊕◌}
use Rattle.floor.specs.Board.{Board, Padded, Place, Free, Dir, go, slanted, corner}
use Rattle.ground.specs.Kind.{octile, walkers}
use Rattle.ground.specs.Walk.{end, Legal, Walk, len, passes}
use Rattle.ground.specs.Link.{Direct}
use Rattle.ground.specs.Line.{diagonal_way, straight_way, line}
use Rattle.ground.specs.Rows.{cell, Rows}
use Rattle.ground.proofs.Logic.{true_or_false, not_both}
use Rattle.ground.proofs.Cells.{straight_legal}
use Rattle.ground.proofs.Walks.{start_free, end_free, legal_append, legal_first, legal_rest, end_append, len_append}
use Rattle.ground.proofs.Meets.{Met, met, passes_none_at}
use Rattle.ground.proofs.Ways.{AllMates, Tame}
use Rattle.ground.proofs.Tame.{Pick, here, later, Rearranged, empty, put, rearranged_end, tame_part}
use Rattle.ground.proofs.Axes.{Inner, legal_within, counts}
use Rattle.ground.proofs.Octile.{tame_within, tame_octile, octile_tame}
use Rattle.ground.proofs.Walkers.{walker_ways}
use Rattle.ground.proofs.Near.{Near, near_self}
use Rattle.ground.proofs.LineEnds.{block_len, line_end, line_diagonal, line_straight, line_len}
use Rattle.ground.proofs.Lines.{way_of, tame_over, Over, sorted, sort, Octile_walk, octile_walk, line_walk, direct_rearrange}

-- Rearrangements of blocks.
pick_after : (c : Dir) (μ ν : List Dir) → Pick c (μ ++ (c ∷ ν)) (μ ++ ν)
pick_after c [] ν = here
pick_after c (a ∷ μ) ν = later (pick_after c μ ν)

-- a list is a rearrangement of itself
unchanged : (ρ : List Dir) → Rearranged ρ ρ
unchanged [] = empty
unchanged (a ∷ ρ) = put here (unchanged ρ)

-- a block may be put first
block_first : (ν γ κ : List Dir) → Rearranged (ν ++ (γ ++ κ)) (γ ++ (ν ++ κ))
block_first ν [] κ = unchanged (ν ++ κ)
block_first ν (c ∷ γ) κ = put (pick_after c ν (γ ++ κ)) (block_first ν γ κ)

-- what stands behind a block may be rearranged
behind_block : (μ : List Dir) {ρ τ : List Dir} → Rearranged ρ τ → Rearranged (μ ++ ρ) (μ ++ τ)
behind_block [] r = r
behind_block (a ∷ μ) r = put here (behind_block μ r)

-- m and then n times the same is m + n times
replicate_add : (m n : ℕ) (d : Dir) → replicate (m + n) d ≡ replicate m d ++ replicate n d
replicate_add zero n d = rw (zero-add n)
replicate_add (suc m) n d = rw (suc-add m n) (ap (λ (l : List Dir). d ∷ l) (replicate_add m n d))

-- i diagonal steps, then j straight ones, then what is left
weave : (d c : Dir) (i i' j j' : ℕ) →
    Rearranged (replicate (i + i') d ++ replicate (j + j') c) ((replicate i d ++ replicate j c) ++ (replicate i' d ++ replicate j' c))
weave d c i i' j j' =
    rw (replicate_add i i' d, replicate_add j j' c)
    (subst (λ (l : List Dir). Rearranged l ((replicate i d ++ replicate j c) ++ (replicate i' d ++ replicate j' c)))
    (sym (append_assoc (replicate i d) (replicate i' d) (replicate j c ++ replicate j' c)))
    (subst (λ (l : List Dir). Rearranged (replicate i d ++ (replicate i' d ++ (replicate j c ++ replicate j' c))) l)
    (sym (append_assoc (replicate i d) (replicate j c) (replicate i' d ++ replicate j' c)))
    (behind_block (replicate i d) (block_first (replicate i' d) (replicate j c) (replicate j' c)))))

-- the number of steps of two blocks
length_block : (d c : Dir) (i j : ℕ) → length (replicate i d ++ replicate j c) ≡ i + j
length_block d c zero zero = refl
length_block d c zero (suc j) = ap suc (length_block d c zero j) ∙ omega arith
length_block d c (suc i) j = ap suc (length_block d c i j) ∙ omega arith

-- a number in two parts
split : (i m : ℕ) → i ≤ m → i + (m - i) ≡ m
split i m h = omega arith

-- before the last cell some steps are left
left_over : (i j n k : ℕ) → i ≤ n → j ≤ k → i + j < n + k → 0 < (n - i) + (k - j)
left_over i j n k p q h = omega arith

module _ {B : Board} (padded : Padded B) (s t : Place) (d : Direct walkers B s t) where
  -- the walk that turns at row i for j steps
  turning : (i i' j j' : ℕ) → i + i' ≡ (octile s t).diagonal → j + j' ≡ (octile s t).straight →
      Octile_walk B s t ((replicate i (diagonal_way s t) ++ replicate j (straight_way s t)) ++ (replicate i' (diagonal_way s t) ++ replicate j' (straight_way s t)))
  turning i i' j j' p q =
      direct_rearrange padded s t d (line_walk padded s t d)
      (rw (← p, ← q) (weave (diagonal_way s t) (straight_way s t) i i' j j'))

  -- E, one way: the rows between two places that are joined directly.
  pub direct_rows : Rows B s (diagonal_way s t) (straight_way s t) (octile s t).diagonal (octile s t).straight
  direct_rows =
      record {
        ray = legal_first walkers B s (replicate (octile s t).diagonal (diagonal_way s t)) (replicate (octile s t).straight (straight_way s t))
            (line_walk padded s t d).walk.0;
        free = λ i j p q. start_free walkers B _ (rest i j) (legal_rest walkers B s (part i j) (rest i j) (whole i j p q).walk.0);
        plain = λ i j p q a b.
            passes_none_at B s (part i j) (rest i j)
            (rw (length_block (diagonal_way s t) (straight_way s t) i j) a)
            (rw (length_block (diagonal_way s t) (straight_way s t) ((octile s t).diagonal - i) ((octile s t).straight - j))
            (left_over i j (octile s t).diagonal (octile s t).straight p q b))
            (d.clear (part i j ++ rest i j) (whole i j p q).walk (whole i j p q).is_octile);
      }
    where
      part : ℕ → ℕ → List Dir
      part i j = replicate i (diagonal_way s t) ++ replicate j (straight_way s t)

      rest : ℕ → ℕ → List Dir
      rest i j = replicate ((octile s t).diagonal - i) (diagonal_way s t) ++ replicate ((octile s t).straight - j) (straight_way s t)

      whole : (i j : ℕ) → i ≤ (octile s t).diagonal → j ≤ (octile s t).straight → Octile_walk B s t (part i j ++ rest i j)
      whole i j p q = turning i ((octile s t).diagonal - i) j ((octile s t).straight - j) (split i (octile s t).diagonal p) (split j (octile s t).straight q)

-- Parts of lists.
over_part : (way : Bool → Dir) (μ ν : List Dir) → Over way (μ ++ ν) → Over way μ
over_part way [] ν o = tt
over_part way (a ∷ μ) ν o = (o.0, over_part way μ ν o.1)

-- and so the second part
over_rest : (way : Bool → Dir) (μ ν : List Dir) → Over way (μ ++ ν) → Over way ν
over_rest way [] ν o = o
over_rest way (a ∷ μ) ν o = over_rest way μ ν o.1

-- a block of one direction tells that it is the one of its kind
over_replicate : (way : Bool → Dir) (n : ℕ) (d : Dir) → 0 < n → Over way (replicate n d) → d ≡ way (slanted d)
over_replicate way zero d h o = absurd (omega arith)
over_replicate way (suc n) d h o = o.0

module _ (B : Board) where
  -- a row of free places is legal to walk along
  legal_row : (c : Dir) (k : ℕ) (p : Place) → (0 < k → slanted c ≡ false) → ((j : ℕ) → j ≤ k → Free B (end p (replicate j c))) → Legal walkers B p (replicate k c)
  legal_row c zero p h f = f 0 (omega arith)
  legal_row c (suc k) p h f = (
    f 0 (omega arith),
    straight_legal B c p (h (omega arith)) (f 1 (omega arith)),
    legal_row c k (go c p) (λ q. h (omega arith)) (λ j q. f (suc j) (omega arith)),
  )

-- d is diagonal and c is straight, so far as they are used, and they are near.
pub record Sides (d c : Dir) (n k : ℕ) : Type 0 where
  pub diagonal : 0 < n → slanted d ≡ true
  pub straight : 0 < k → slanted c ≡ false
  pub tame : Tame Near (replicate n d ++ replicate k c)

-- the field's two directions are the direct line's, so far as they are used
pub field_ways : (way : Bool → Dir) (d c : Dir) (n k : ℕ) → Sides d c n k → Over way (replicate n d ++ replicate k c) →
    (0 < n → way true ≡ d) × (0 < k → way false ≡ c)
field_ways way d c n k sides o = (
  λ h. sym (over_replicate way n d h (over_part way (replicate n d) (replicate k c) o) ∙ ap way (sides.diagonal h)),
  λ h. sym (over_replicate way k c h (over_rest way (replicate n d) (replicate k c) o) ∙ ap way (sides.straight h)),
)

-- a direction in which no step is taken may be any
pub replicate_is : (n : ℕ) (a b : Dir) → (0 < n → a ≡ b) → replicate n a ≡ replicate n b
replicate_is zero a b e = refl
replicate_is (suc n) a b e = ap (replicate (suc n)) (e (omega arith))

-- the same for fewer steps
replicate_fewer : (m i : ℕ) (a b : Dir) → (0 < m → a ≡ b) → i ≤ m → replicate i a ≡ replicate i b
replicate_fewer m i a b e h = replicate_is i a b (λ z. e (omega arith))

module _ {B : Board} (padded : Padded B) (s : Place) (d c : Dir) (n k : ℕ) (sides : Sides d c n k) (rows : Rows B s d c n k) where
  -- the diagonal steps and then the straight ones are legal
  field_legal : Legal walkers B s (replicate n d ++ replicate k c)
  field_legal =
      legal_append walkers B s (replicate n d) (replicate k c) rows.ray
      (legal_row B c k (end s (replicate n d)) sides.straight
      (λ j h. subst (λ (p : Place). Free B p) (end_append s (replicate n d) (replicate j c)) (rows.free n j (omega arith) h)))

  -- where they lead
  abbrev there : Place
  there = cell s d c n k

  -- the direct line's direction of a kind
  abbrev way : Bool → Dir
  way = way_of s there

  -- so they are a walk of octile length
  field_walk : Octile_walk B s there (replicate n d ++ replicate k c)
  field_walk =
      octile_walk padded s there (replicate n d ++ replicate k c) (field_legal, refl)
      (tame_octile s (replicate n d ++ replicate k c) (legal_within walkers padded s (replicate n d ++ replicate k c) field_legal) sides.tame)

  -- and their directions are the direct line's
  ways : (0 < n → way true ≡ d) × (0 < k → way false ≡ c)
  ways = field_ways way d c n k sides field_walk.over

  -- the places on a walk of octile length are cells of the field
  reaches_cell : (μ ν : List Dir) → Octile_walk B s there (μ ++ ν) → len (μ ++ ν) ≡ pair k n →
      0 < length μ → 0 < length ν → corner B (end s μ) ≡ false
  reaches_cell μ ν o e p q =
      let whole : len μ ⊕ len ν ≡ pair k n = sym (len_append μ ν) ∙ e in
      let st : (len μ).straight + (len ν).straight ≡ k = ap (λ (l : Len). l.straight) whole in
      let dg : (len μ).diagonal + (len ν).diagonal ≡ n = ap (λ (l : Len). l.diagonal) whole in
      let i-fits : (len μ).diagonal ≤ n = omega (arith, dg) in
      let j-fits : (len μ).straight ≤ k = omega (arith, st) in
      let same_place : end s (sorted way (len μ)) ≡ end s μ =
      rearranged_end walker_ways (sort way μ (over_part way μ ν o.over)) (tame_part Near μ ν o.tame) s in
      let on-cell : cell s d c (len μ).diagonal (len μ).straight ≡ end s μ =
      ap (end s) (sym (ap₂ ◌++◌ (replicate_fewer n (len μ).diagonal (way true) d ways.0 i-fits) (replicate_fewer k (len μ).straight (way false) c ways.1 j-fits)))
      ∙ same_place in
      subst (λ (r : Place). corner B r ≡ false) on-cell
      (rows.plain (len μ).diagonal (len μ).straight i-fits j-fits
      (omega (arith, (counts μ).steps)) (omega (arith, (counts ν).steps, st, dg)))

  -- E, the other way: where the rows are free and plain, the two ends are joined directly.
  pub rows_direct : Direct walkers B s (cell s d c n k)
  rows_direct =
      record {
        reached = (replicate n d ++ replicate k c, field_walk.walk, field_walk.is_octile);
        clear = λ ws w e. ⊎_elim (λ m. met_none ws w e (met B ws s m)) (λ f. f) (true_or_false (passes B s ws));
      }
    where
      met_none : (ws : List Dir) → Walk walkers B s (cell s d c n k) ws → len ws ≡ octile s (cell s d c n k) → Met B s ws → passes B s ws ≡ false
      met_none ws w e m =
          let o : Octile_walk B s there ws = octile_walk padded s there ws w e in
          not_both m.turns
          (reaches_cell (m.first ∷ m.before) (m.next ∷ m.after)
          (subst (λ (x : List Dir). Octile_walk B s there x) m.whole o)
          (sym (ap len m.whole) ∙ e ∙ sym field_walk.is_octile ∙ block_len d c n k sides.diagonal sides.straight)
          (omega arith) (omega arith))

-- Any diagonal direction and a straight one beside it may serve.
all_near_replicate : (a b : Dir) (n : ℕ) → Near a b → AllMates Near a (replicate n b)
all_near_replicate a b zero h = tt
all_near_replicate a b (suc n) h = (h, all_near_replicate a b n h)

-- what is near both parts is near the whole
all_near_join : (a : Dir) (μ ν : List Dir) → AllMates Near a μ → AllMates Near a ν → AllMates Near a (μ ++ ν)
all_near_join a [] ν p q = q
all_near_join a (b ∷ μ) ν p q = (p.0, all_near_join a μ ν p.1 q)

-- two near directions make a tame field
tame_two : (d c : Dir) (n k : ℕ) → Near d c → Tame Near (replicate n d ++ replicate k c)
tame_two d c zero zero h = tt
tame_two d c zero (suc k) h = (all_near_replicate c c k (near_self c), tame_two d c zero k h)
tame_two d c (suc n) k h =
    (all_near_join d (replicate n d) (replicate k c) (all_near_replicate d d n (near_self d)) (all_near_replicate d c k h), tame_two d c n k h)

-- a diagonal direction and a straight one near it are the sides of a field
pub beside_sides : (d c : Dir) (n k : ℕ) → slanted d ≡ true → slanted c ≡ false → Near d c → Sides d c n k
beside_sides d c n k p q h = record { diagonal = λ _. p; straight = λ _. q; tame = tame_two d c n k h }

-- So may those of the direct line.
pub line_sides : (s t : Place) → Sides (diagonal_way s t) (straight_way s t) (octile s t).diagonal (octile s t).straight
line_sides s t =
    record {
      diagonal = line_diagonal s t;
      straight = λ _. line_straight s t;
      tame = octile_tame s (line s t) (line_len s t ∙ ap (octile s) (sym (line_end s t)));
    }

-- The rows do not depend on a direction in which no step is taken.
same_rows : {B : Board} (s : Place) (d d' c c' : Dir) (n k : ℕ) → (0 < n → d ≡ d') → (0 < k → c ≡ c') → Rows B s d c n k → Rows B s d' c' n k
same_rows {B} s d d' c c' n k p q r =
    record {
      ray = subst (Legal walkers B s) (replicate_fewer n n d d' p (omega arith)) r.ray;
      free = λ i j a b. subst (Free B) (same_cell i j a b) (r.free i j a b);
      plain = λ i j a b e f. subst (λ (t : Place). corner B t ≡ false) (same_cell i j a b) (r.plain i j a b e f);
    }
  where
    same_cell : (i j : ℕ) → i ≤ n → j ≤ k → cell s d c i j ≡ cell s d' c' i j
    same_cell i j a b = ap (end s) (ap₂ ◌++◌ (replicate_fewer n i d d' p a) (replicate_fewer k j c c' q b))

-- E. A place and the one n steps in d and k steps in c from it are joined directly exactly if the rows between them are free and plain.
pub cell_iff_rows : {B : Board} → Padded B → (s : Place) (d c : Dir) (n k : ℕ) → Sides d c n k →
    Direct walkers B s (cell s d c n k) ↔ Rows B s d c n k
cell_iff_rows {B} padded s d c n k sides = (there, rows_direct padded s d c n k sides)
  where
    there : Direct walkers B s (cell s d c n k) → Rows B s d c n k
    there direct =
        let t : Place = cell s d c n k in
        let field : List Dir = replicate n d ++ replicate k c in
        let (ds, w, e) = direct.reached in
        let inside : Inner s field =
        tame_within padded s field sides.tame (start_free walkers B s ds w.0) (subst (Free B) w.1 (end_free walkers B s ds w.0)) in
        let is_octile : octile s t ≡ pair k n =
        sym (tame_octile s field inside sides.tame) ∙ block_len d c n k sides.diagonal sides.straight in
        let ways = field_ways (way_of s t) d c n k sides (tame_over s field inside sides.tame) in
        same_rows s (diagonal_way s t) d (straight_way s t) c n k ways.0 ways.1
        (subst (λ (l : Len). Rows B s (diagonal_way s t) (straight_way s t) l.diagonal l.straight) is_octile (direct_rows padded s t direct))

-- E, for any two places.
pub direct_iff_rows : {B : Board} → Padded B → (s t : Place) →
    Direct walkers B s t ↔ Rows B s (diagonal_way s t) (straight_way s t) (octile s t).diagonal (octile s t).straight
direct_iff_rows {B} padded s t = (
  direct_rows padded s t,
  λ r. subst (λ (p : Place). Direct walkers B s p) (line_end s t)
      (rows_direct padded s (diagonal_way s t) (straight_way s t) (octile s t).diagonal (octile s t).straight (line_sides s t) r),
)
