-- Links followed one by one, those to neighbours by the table.
-- Assumes nothing.
use mathlib.Core.Path.{◌≡◌, refl, sym, ◌∙◌, ap}
use mathlib.Core.List.{List}
use Prim.Native.Nat.{ℕ, ◌+◌, ◌*◌, ◌<◌}
use native.Mathlib.Omega.{arith}
use borrow.Author.Tests.{lt-ltb, le-ltb}
use lib.ListN.{length, get_or}
use Rattle.std.specs.Prelude.{Option, Some, None}
use Rattle.places.specs.declared.Trip.{Trip}
use Rattle.places.specs.declared.Flags.{Flags}
use Rattle.places.specs.Columns.{column_of, Label, Left}
use Rattle.places.specs.Places.{index_of, Indexed, cell_at, apart}
use Rattle.places.specs.Chart.{chart, arcs_of, link_at, link_count, Ready}
use Rattle.places.specs.Flagging.{first_told, FlagsOf}
use Rattle.places.proofs.Told.{told_there, tells}
use Rattle.places.proofs.Columns.{column_length, left_same, left_trans}
use Rattle.places.proofs.Cells.{some_one, none_some}
use Rattle.places.proofs.Links.{link_fits}
use Rattle.places.proofs.Charts.{chart_same, ready_kept, arcs_most, is_cell, arc_index, arc_link}
use Rattle.offers.specs.Tree.{Right}
use Rattle.offers.specs.Offers.{Offer, Offered, Follow, Followed}
use Rattle.offers.proofs.Entries.{offered_none, offered_skip, offered_more}

-- One link followed: it leads to a place, which has its offer, or nowhere.
module _ {C S E : List ℕ} {t : Trip} {W : List ℕ} (u j : ℕ) (ready : Ready C S E t W) (there : j < link_count (chart C S E t W) u) where
  -- It leads to a place, and that place has its offer.
  pub follow_some :
      (v : ℕ) {T W' T' : List ℕ} {d a b far : ℕ} → Some v ≡ link_at (chart C S E t W) u j → a ≡ cell_at C t u → b ≡ cell_at C t v → far ≡ apart t.w a b →
      Offer C t W T v (d + far) W' T' →
      Follow C S E t W T u d j W' T'
  follow_some v is qa qb qf o = record {
    some = λ x e. let z : v ≡ x = some_one (is ∙ e) in rw (qf, qa, qb, z) at o;
    none = λ z. absurd (none_some (sym z ∙ sym is));
    inside = λ x e. link_fits (chart C S E t W) ready.fair u x j there e;
  }

  -- It leads nowhere, and nothing changes.
  pub follow_none : {T : List ℕ} {d : ℕ} → None ≡ link_at (chart C S E t W) u j → Follow C S E t W T u d j W T
  follow_none is = record {
    some = λ v e. absurd (none_some (is ∙ e));
    none = λ q. (refl, refl);
    inside = λ v e. absurd (none_some (is ∙ e));
  }

-- At first no link has been followed.
pub followed_none : {C S E : List ℕ} {t : Trip} {W T : List ℕ} (u d : ℕ) → Right C t W T → Followed C S E t W T u d 0 W T
followed_none u d right = record { offered = offered_none _ u d _; settled = refl; left = left_same _ _; right = right; tree = refl }

-- One link more.
followed_more :
    {C S E : List ℕ} {t : Trip} {W₀ T₀ W T W' T' : List ℕ} {u d j : ℕ} → Ready C S E t W → 0 < d → Followed C S E t W₀ T₀ u d j W T → Follow C S E t W T u d j W' T' →
    Followed C S E t W₀ T₀ u d (j + 1) W' T'
followed_more {C} {S} {E} {t} {W₀} {T₀} {W} {T} {W'} {T'} {u} {d} {j} ready pos f l = go (link_at (chart C S E t W) u j) refl
  where
    o : Offered (chart C S E t W) u d j (column_of (t.k + 2) W₀ Label) (column_of (t.k + 2) W Label)
    o = rw (chart_same C S E t f.left) f.offered

    back : (k : ℕ) (D : List ℕ) → Offered (chart C S E t W) u d k (column_of (t.k + 2) W₀ Label) D → Offered (chart C S E t W₀) u d k (column_of (t.k + 2) W₀ Label) D
    back k D x = rw (← (chart_same C S E t f.left)) x

    go : (x : Option ℕ) → link_at (chart C S E t W) u j ≡ x → Followed C S E t W₀ T₀ u d (j + 1) W' T'
    go None q =
        rw ((l.none q).0, (l.none q).1)
        (record { offered = back (j + 1) _ (offered_skip _ _ _ _ _ _ o q); settled = f.settled; left = f.left; right = f.right; tree = f.tree })
    go (Some v) q =
        let a = l.some v q in
        let inside : v < length (column_of (t.k + 2) W Label) = rw (column_length (t.k + 2) W Label (omega arith) ready.room) (l.inside v q) in
        record {
          offered = rw a.label (back (j + 1) _ (offered_more (chart C S E t W) u d (column_of (t.k + 2) W₀ Label) (column_of (t.k + 2) W Label) j o v q inside pos));
          settled = a.settled ∙ f.settled;
          left = left_trans f.left a.left;
          right = a.right;
          tree = a.tree ∙ f.tree;
        }

-- Between the turns of a loop that began at link i with W₁ and T₁: what was followed up to there is now followed up to link j.
pub record Following (C S E : List ℕ) (t : Trip) (W₁ T₁ : List ℕ) (u d i j : ℕ) (W T : List ℕ) : Type 0 where
  pub ready : Ready C S E t W
  pub right : Right C t W T
  pub sized : length W ≡ length W₁
  pub tree : length T ≡ length T₁
  pub followed : (W₀ T₀ : List ℕ) → Followed C S E t W₀ T₀ u d i W₁ T₁ → Followed C S E t W₀ T₀ u d j W T

-- At first nothing has changed.
pub following_first : {C S E : List ℕ} {t : Trip} {W T : List ℕ} {u d i j : ℕ} → i ≡ j → Ready C S E t W → Right C t W T → Following C S E t W T u d i j W T
following_first q ready right = record { ready = ready; right = right; sized = refl; tree = refl; followed = λ W₀ T₀ f. rw q at f }

module _ {C S E : List ℕ} {t : Trip} {W₁ T₁ : List ℕ} {u d i j : ℕ} {W T : List ℕ} (f : Following C S E t W₁ T₁ u d i j W T) where
  -- what one link more leaves as it was, and the tree
  follow_kept : {W' T' : List ℕ} → Follow C S E t W T u d j W' T' → Left (t.k + 2) W W' × Right C t W' T' × (length T' ≡ length T)
  follow_kept {W'} {T'} l = go (link_at (chart C S E t W) u j) refl
    where
      go : (x : Option ℕ) → link_at (chart C S E t W) u j ≡ x → Left (t.k + 2) W W' × Right C t W' T' × (length T' ≡ length T)
      go None q = rw ((l.none q).0, (l.none q).1) (left_same _ _, f.right, refl)
      go (Some v) q = let a = l.some v q in (a.left, a.right, a.tree)

  -- One turn more.
  pub following_more : {W' T' : List ℕ} → 0 < d → Follow C S E t W T u d j W' T' → Following C S E t W₁ T₁ u d i (j + 1) W' T'
  following_more pos l =
      let k = follow_kept l in
      record {
        ready = ready_kept f.ready k.0;
        right = k.1;
        sized = k.0.sized ∙ f.sized;
        tree = k.2 ∙ f.tree;
        followed = λ W₀ T₀ g. followed_more f.ready pos (f.followed W₀ T₀ g) l;
      }

-- ---- the neighbours of a corner
module _ {C S E : List ℕ} {t : Trip} {W Q : List ℕ} (u j : ℕ) (ready : Ready C S E t W) (indexed : Indexed C Q) (corner : u < t.k) (there : j < arcs_of S u) where
  -- the cell that the arc leads to
  abbrev to : ℕ
  to = get_or E (get_or S u 0 + j) 0

  -- The arc's offer is made: the link has been followed.
  pub arc_followed :
      {T W' T' : List ℕ} {d a b v far : ℕ} → a ≡ cell_at C t u → b ≡ to → v ≡ get_or Q b 0 → far ≡ apart t.w a b → Offer C t W T v (d + far) W' T' →
      Follow C S E t W T u d j W' T'
  arc_followed qa qb qv qf o =
      let v-is = qv ∙ ap (λ (x : ℕ). get_or Q x 0) qb ∙ arc_index u j ready indexed corner there in
      follow_some u j ready (omega (arith, there, arcs_most C S E t W u corner)) _ (arc_link u j ready indexed corner there) qa (qb ∙ sym (is_cell u j ready indexed corner there)) qf (rw v-is at o)

-- ---- the links that flags tell of
module _ {C S E : List ℕ} {t : Trip} {W : List ℕ} {u : ℕ} {f : Flags} (i : ℕ) (ready : Ready C S E t W) (inside : u < t.k + 2) (is : FlagsOf t u f) (there : i < f.count) where
  -- the flag
  abbrev flag : ℕ
  flag = get_or W (f.at + f.apart * i) 0

  -- It is set and its offer is made: the link has been followed.
  pub flag_followed :
      {T W' T' : List ℕ} {d a b far : ℕ} → 0 < flag → a ≡ cell_at C t u → b ≡ cell_at C t (f.to + i) → far ≡ apart t.w a b → Offer C t W T (f.to + i) (d + far) W' T' →
      Follow C S E t W T u d (first_told S t.k u + i) W' T'
  flag_followed h qa qb qf o =
      follow_some u (first_told S t.k u + i) ready (told_there i ready inside is there) _ (sym (rw (lt-ltb 0 flag h) at (tells i ready inside is there).link)) qa qb qf o

  -- It is not set, and nothing changes.
  pub flag_passed : {T : List ℕ} {d : ℕ} → flag ≡ 0 → Follow C S E t W T u d (first_told S t.k u + i) W T
  flag_passed z =
      follow_none u (first_told S t.k u + i) ready (told_there i ready inside is there) (sym (rw (le-ltb 0 flag (omega arith)) at (tells i ready inside is there).link))
