-- What the rows of a field show, row by row: the laws behind a sweep, on any board. Assumes nothing.
use Prim.Native.Nat.{ℕ, zero, suc, ◌+◌, ◌-◌, min, ◌≤◌, ◌<◌}
use mathlib.Core.Bool.{true, false}
use mathlib.Core.Logic.{◌↔◌, inl, ⊎_elim}
use mathlib.Core.Path.{◌≡◌, sym, ◌∙◌, ap, subst}
use native.Mathlib.Omega.{arith}
use lib.ListN.{replicate}
use Rattle.lengths.specs.Laws.{le_or_lt}
use Rattle.floor.specs.Board.{Board, Place, Free, Dir, step, corner}
use Rattle.ground.specs.Rows.{cell, Rows}
use Rattle.ground.specs.Clearance.{ahead, Clearance}
use Rattle.ground.proofs.Logic.{not_both}
use Rattle.ground.proofs.Walks.{end_append}
use Rattle.ground.proofs.ByClearance.{clearance_unique}
use Rattle.fields.specs.Fields.{Open, Opened, Come, Shows}
use Rattle.fields.proofs.Rays.{ray_free, ray_step, ray_more}

-- ---- the steps that are open in one row
-- exactly the first o steps from p are open, of those that a floor can have
abbrev pub OpenTo : Board → Dir → Place → ℕ → Type 0
OpenTo B c p o = (k : ℕ) → 0 < k → k < 255 → (k ≤ o) ↔ Open B c p k

module _ {B : Board} {c : Dir} {p : Place} {m : ℕ} (clear : Clearance B c p m) where
  -- a clearance that ends at a turning point: the steps before it are open
  pub open_turn : 0 < m → corner B (ahead c m p) ≡ true → OpenTo B c p (m - 1)
  open_turn z t k a b = (
    λ l. record { free = λ j q. clear.free j (omega arith); plain = λ j q r. clear.plain j q (omega arith) },
    λ o. ⊎_elim (λ (l : m ≤ k). not_both t (o.plain m z l)) (λ l. omega arith) (le_or_lt m k),
  )

  -- any other one: all its steps are open
  pub open_wall : (0 < m → corner B (ahead c m p) ≡ false) → OpenTo B c p m
  open_wall f k a b = (
    λ l. record {
      free = λ j q. clear.free j (omega arith);
      plain = λ j q r. ⊎_elim (λ (e : m ≤ j). let s : m ≡ j = omega arith in subst (λ n. corner B (ahead c n p) ≡ false) s (f (omega arith)))
          (λ e. clear.plain j q e) (le_or_lt m j);
    },
    λ o. ⊎_elim (λ l. l) (λ (l : m < k). ⊎_elim (λ t. not_both t.1 (f t.0)) (λ w. not_both (o.free (suc m) l) w) clear.stops) (le_or_lt k m),
  )

-- a place is where the clearance of p ends, one step or more ahead and within the reach
pub record AtEnd (c : Dir) (p : Place) (reach m : ℕ) (t : Place) : Type 0 where
  pub some : 0 < m
  pub reached : m ≤ reach
  pub there : t ≡ ahead c m p

module _ (B : Board) (s : Place) (d c : Dir) where
  -- a cell of the field is on its row
  on_row : (i j : ℕ) → cell s d c i j ≡ ahead c j (ahead d i s)
  on_row i j = end_append s (replicate i d) (replicate j c)

  -- no turning point
  abbrev Plain : Place → Type 0
  Plain p = corner B p ≡ false

  -- the steps that are open in one row more
  pub opened_more : (n reach o r : ℕ) → Opened B s d c n reach → OpenTo B c (ahead d n s) o → r ≡ min reach o → Opened B s d c (suc n) r
  opened_more n reach o r before row e k a b = (
    λ l i q. ⊎_elim (λ (g : n ≤ i). let same : n ≡ i = omega arith in subst (λ v. Open B c (ahead d v s) k) same ((row k a b).0 (omega arith)))
        (λ g. (before k a b).0 (omega arith) i g) (le_or_lt n i),
    λ f. let p = (before k a b).1 (λ i q. f i (omega arith)) in let q = (row k a b).1 (f n (omega arith)) in omega arith,
  )

  -- ---- a row that begins at a turning point, and is not the first
  module _ (n : ℕ) (some : 0 < n) (turn : corner B (ahead d n s) ≡ true) where
    -- the row shows it
    pub shows_first : (reach : ℕ) → Come B s d c n reach → Shows B s d c n (ahead d n s)
    shows_first reach come =
        record {
          k = 0;
          there = sym (on_row n 0);
          some_way = omega arith;
          rows = record { ray = come.ray; free = free; plain = plain };
          turns = turn;
        }
      where
        free : (i j : ℕ) → i ≤ n → j ≤ 0 → Free B (cell s d c i j)
        free i zero p q = subst (Free B) (sym (on_row i 0)) (ray_free B d n i s come.ray p)
        free i (suc j) p q = absurd (omega arith)

        plain : (i j : ℕ) → i ≤ n → j ≤ 0 → 0 < i + j → i + j < n + 0 → Plain (cell s d c i j)
        plain i zero p q a b = subst Plain (sym (on_row i 0)) (come.plain i (omega arith) (omega arith))
        plain i (suc j) p q a b = absurd (omega arith)

    -- what stands behind it, in this row or later, is not shown
    pub not_behind : (m k : ℕ) → n ≤ m → n < m + k → ¬ (Rows B s d c m k)
    not_behind m k p q r = not_both turn (subst Plain (on_row n 0) (r.plain n 0 p (omega arith) (omega arith) (omega arith)))

    -- the row shows nothing some steps on
    pub first_way : (t : Place) (h : Shows B s d c n t) → h.k ≡ 0
    first_way t h = ⊎_elim (λ (l : 1 ≤ h.k). absurd (not_behind n h.k (omega arith) (omega arith) h.rows)) (λ l. omega arith) (le_or_lt 1 h.k)

    -- so nothing else
    pub only_first : (t : Place) → Shows B s d c n t → t ≡ ahead d n s
    only_first t h = h.there ∙ ap (cell s d c n) (first_way t h) ∙ on_row n 0

  -- ---- a row that begins at no turning point, or is the first
  module _ (n reach m : ℕ) (come : Come B s d c n reach) (begins : 0 < n → Plain (ahead d n s)) (clear : Clearance B c (ahead d n s) m)
      (few : m < 255) where
    -- within the reach its clearance ends a field of free and plain rows
    rows_to : 0 < m → m ≤ reach → Rows B s d c n m
    rows_to z l =
        record {
          ray = come.ray;
          free = λ i j p q. subst (Free B) (sym (on_row i j)) (⊎_elim
              (λ (g : n ≤ i). let same : n ≡ i = omega arith in subst (λ v. Free B (ahead c j (ahead d v s))) same (clear.free j q))
              (λ g. (opens i g).free j q) (le_or_lt n i));
          plain = λ i j p q a b. subst Plain (sym (on_row i j)) (⊎_elim
              (λ (g : n ≤ i). let same : n ≡ i = omega arith in subst (λ v. Plain (ahead c j (ahead d v s))) same (last j (omega arith) (omega arith)))
              (λ g. earlier i j g a q) (le_or_lt n i));
        }
      where
        opens : (i : ℕ) → i < n → Open B c (ahead d i s) m
        opens i g = (come.opened m z few).0 l i g

        last : (j : ℕ) → 0 < n + j → j < m → Plain (ahead c j (ahead d n s))
        last zero a b = begins (omega arith)
        last (suc j) a b = clear.plain (suc j) (omega arith) b

        earlier : (i j : ℕ) → i < n → 0 < i + j → j ≤ m → Plain (ahead c j (ahead d i s))
        earlier i zero g a b = come.plain i (omega arith) g
        earlier i (suc j) g a b = (opens i g).plain (suc j) (omega arith) b

    -- a turning point there, within the reach, is shown
    pub shows_end : 0 < m → m ≤ reach → corner B (ahead c m (ahead d n s)) ≡ true → Shows B s d c n (ahead c m (ahead d n s))
    shows_end z l t = record { k = m; there = sym (on_row n m); some_way = omega arith; rows = rows_to z l; turns = t }

    -- and nothing at the beginning
    pub end_way : (t : Place) (h : Shows B s d c n t) → 0 < h.k
    end_way t h =
        let some = h.some_way in
        ⊎_elim (λ l. l)
        (λ (l : h.k < 1). let none : h.k ≡ 0 = omega arith in
        not_both h.turns (subst Plain (sym (h.there ∙ ap (cell s d c n) none ∙ on_row n 0)) (begins (omega arith))))
        (le_or_lt 1 h.k)

    -- so nothing else is
    pub only_end : (t : Place) → Shows B s d c n t → AtEnd c (ahead d n s) reach m t
    only_end t h =
        let some = end_way t h in
        let at-end = h.there ∙ on_row n h.k in
        let same : h.k ≡ m = clearance_unique B c (ahead d n s) h.k m
        (record {
          free = λ j p. subst (Free B) (on_row n j) (h.rows.free n j (omega arith) p);
          plain = λ j p q. subst Plain (on_row n j) (h.rows.plain n j (omega arith) (omega arith) (omega arith) (omega arith));
          stops = inl (some, subst (λ q. corner B q ≡ true) at-end h.turns);
        }) clear in
        let within : h.k ≤ reach = (come.opened h.k some (omega arith)).1 (λ i g.
        record {
          free = λ j p. subst (Free B) (on_row i j) (h.rows.free i j (omega arith) p);
          plain = λ j p q. subst Plain (on_row i j) (h.rows.plain i j (omega arith) q (omega arith) (omega arith));
        }) in
        record { some = omega arith; reached = omega arith; there = at-end ∙ ap (λ v. ahead c v (ahead d n s)) same }

  -- ---- from row to row
  -- from a free place the sweep has come to the first row, where all steps that a floor can have are open
  pub come_begin : Free B s → Come B s d c 0 255
  come_begin free =
      record {
        ray = free;
        plain = λ i p q. absurd (omega arith);
        opened = λ k a b. (λ l i q. absurd (omega arith), λ o. omega arith);
      }

  -- past a plain beginning and by a legal step the sweep comes to the next row
  pub come_more : (n reach r : ℕ) → Come B s d c n reach → (0 < n → Plain (ahead d n s)) → step B d (ahead d n s) ≡ true →
      Opened B s d c (suc n) r → Come B s d c (suc n) r
  come_more n reach r come begins legal opened =
      record {
        ray = ray_more B d n s come.ray legal;
        plain = λ i p q. ⊎_elim (λ (g : n ≤ i). let same : n ≡ i = omega arith in subst (λ v. Plain (ahead d v s)) same (begins (omega arith)))
            (λ g. come.plain i p g) (le_or_lt n i);
        opened = opened;
      }

  -- behind a step that is not legal no row shows anything
  pub none_blocked : (n m : ℕ) (t : Place) → step B d (ahead d n s) ≡ false → n < m → ¬ (Shows B s d c m t)
  none_blocked n m t f l h = not_both (ray_step B d m n s h.rows.ray l) f
