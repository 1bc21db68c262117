-- Counting the turning points that are shown from a cell: each is shown once, so what is counted is as many as there are. Assumes nothing.
use Prim.Native.Nat.{ℕ, suc, ◌+◌, ◌/◌, ◌%◌, ◌≤◌, ◌<◌}
use mathlib.Core.List.{List}
use mathlib.Core.Logic.{inl, inr, ⊎_elim}
use mathlib.Core.Path.{◌≡◌, refl, sym, ◌∙◌, ap}
use native.Mathlib.Decide.{ℕ_discrete}
use native.Mathlib.Omega.{arith}
use lib.ListN.{length}
use Rattle.floor.proofs.Places.{padded}
use Rattle.fields.specs.Fields.{ShownIn, PassedRow}
use Rattle.fields.specs.declared.RowEnd.{RowEnd}
use Rattle.plan.specs.Rising.{In, Rising, insertion}
use Rattle.plan.proofs.Onces.{shown_once}
use Rattle.plan.proofs.Risings.{rising_fewer, in_inserted, still_in, was_in, rising_inserted, inserted_longer}
use Rattle.plan.proofs.Sweeping.{Passed, passed_all, passed_next, row_seen}
use Rattle.matching.specs.Matching.{TallyShown, Before, ShownBefore, Tallied, Unlisted}
use Rattle.std.specs.Prelude.{Bool, true, false, Option, Some, None}
use Rattle.std.specs.Bool.{then_some}
use Rattle.floor.specs.Refusals.{Tells}

-- ---- the order of rows
-- what comes before a row comes before the next one
before_next : (f m g n : ℕ) → Before g n f m → Before g n f (m + 1)
before_next f m g n (inl l) = inl l
before_next f m g n (inr (e, l)) = inr (e, omega arith)

-- and before the next field
before_field : (f m g n : ℕ) → Before g n f m → Before g n (suc f) 0
before_field f m g n (inl l) = inl (omega arith)
before_field f m g n (inr (e, l)) = inl (omega arith)

-- so its field is no later
before_in : (f m g n : ℕ) → Before g n f m → g ≤ f
before_in f m g n (inl l) = omega arith
before_in f m g n (inr (e, l)) = omega arith

-- and it is another row
before_other : (f m g n : ℕ) → Before g n f m → f ≡ g → m ≡ n → ⊥
before_other f m g n (inl l) e k = omega arith
before_other f m g n (inr (d, l)) e k = omega arith

-- what was shown is counted if it is listed
pub told_by : (listed : List ℕ) (t count : ℕ) (b : Bool) → Tells (In t listed) b → (r : Option ℕ) → r ≡ then_some b (count + 1) → TallyShown listed (Some t) count r
told_by listed t count true i r e = rw e (i.yes refl, omega arith)
told_by listed t count false i r e = rw e (i.no refl)

-- ---- counting
module _ (w h : ℕ) (words : List ℕ) (cell : ℕ) where
  -- what is shown before one row is shown before another if all that come before the one come before the other
  later : {f m f' m' t : ℕ} → ((g n : ℕ) → Before g n f m → Before g n f' m') → ShownBefore w h words cell f m t → ShownBefore w h words cell f' m' t
  later q z = record { field = z.field; row = z.row; before = q z.field z.row z.before; shown = z.shown }

  module _ (listed : List ℕ) where
    -- while field f is swept: what its rows so far show was counted too
    pub record Tallying (f m : ℕ) (ahead : Option ℕ) (count : ℕ) : Type 0 where
      pub tallied : Tallied w h words cell listed f m count
      pub sweep : Passed w h words cell f (λ t. In t tallied.found) m ahead

    -- after its last
    pub tallying_end : {f m : ℕ} {ahead : Option ℕ} {count : ℕ} → Tallying f m ahead count → ahead ≡ None → Tallied w h words cell listed (suc f) 0 count
    tallying_end {f} {m} {ahead} {count} a off =
        let b = a.tallied in
        record {
          found = b.found;
          rising = b.rising;
          many = b.many;
          known = b.known;
          shown = λ t i. later (before_field f m) (b.shown t i);
          all = λ g n t l i. by g n t i (ℕ_discrete g f) l;
        }
      where
        by : (g n t : ℕ) → ShownIn w h words cell g n t → Dec (g ≡ f) → g < suc f → In t a.tallied.found
        by g n t i (yes e) l = passed_all a.sweep off n t (rw e at i)
        by g n t i (no d) l = a.tallied.all g n t (omega (arith, d)) i

    module _ {f m : ℕ} {ahead : Option ℕ} {count : ℕ} (a : Tallying f m ahead count) (in_field : f < 8) {r : RowEnd} (p : PassedRow w h words (cell % w) (cell / w) f m r) where
      -- what the row shows was not counted yet
      new : (t : ℕ) → r.shown ≡ Some t → ¬ (In t a.tallied.found)
      new t e i =
          let z = a.tallied.shown t i in
          let b = before_in f m z.field z.row z.before in
          let here = (p.said t e).1 in
          let there = z.shown.1 in
          let (same, row) = shown_once (padded w h words) _ _ f z.field m z.row in_field (omega arith) here.shows there.shows here.own there.own in
          before_other f m z.field z.row z.before same row

      -- the row showed nothing
      none_shown : r.shown ≡ None → Tallying f (m + 1) r.reach count
      none_shown e =
          let b = a.tallied in
          record {
            tallied = record {
              found = b.found;
              rising = b.rising;
              many = b.many;
              known = b.known;
              shown = λ t i. later (before_next f m) (b.shown t i);
              all = b.all;
            };
            sweep = passed_next a.sweep p _ (λ t i. i) (λ t z. absurd (let x : ◌≡◌ {A = Option ℕ} None (Some t) = sym e ∙ z in cc));
          }

      -- it showed one that is listed
      one_shown : (t : ℕ) → r.shown ≡ Some t → In t listed → Tallying f (m + 1) r.reach (suc count)
      one_shown t e i =
          let b = a.tallied in
          let xs = b.found in
          record {
            tallied = record {
              found = insertion t xs;
              rising = rising_inserted t xs b.rising;
              many = inserted_longer t xs (new t e) ∙ ap suc b.many;
              known = λ u k. ⊎_elim (λ z. rw z i) (b.known u) (was_in u t xs k);
              shown = λ u k. ⊎_elim (here u) (λ z. later (before_next f m) (b.shown u z)) (was_in u t xs k);
              all = λ g n u l k. still_in u t xs (b.all g n u l k);
            };
            sweep = passed_next a.sweep p _ (λ u k. still_in u t xs k) (λ u z. let s : u ≡ t = cc in rw s (in_inserted t xs));
          }
        where
          here : (u : ℕ) → u ≡ t → ShownBefore w h words cell f (m + 1) u
          here u z = record { field = f; row = m; before = inr (refl, omega arith); shown = rw z (p.said t e) }

      -- after the row
      pub tallying_next : (k : ℕ) → TallyShown listed r.shown count (Some k) → Tallying f (m + 1) r.reach k
      tallying_next k told = by r.shown refl told
        where
          by : (shown : Option ℕ) → r.shown ≡ shown → TallyShown listed shown count (Some k) → Tallying f (m + 1) r.reach k
          by None e told = let same : k ≡ count = cc in rw same (none_shown e)
          by (Some t) e told = rw told.1 (one_shown t e told.0)

      -- what is not listed is seen
      pub tallying_missing : TallyShown listed r.shown count None → Unlisted w h words cell listed
      tallying_missing told = by r.shown refl told
        where
          by : (shown : Option ℕ) → r.shown ≡ shown → TallyShown listed shown count None → Unlisted w h words cell listed
          by None e told = let x : ◌≡◌ {A = Option ℕ} None (Some count) = told in cc
          by (Some t) e told = record { t = t; seen = row_seen cell p in_field t e; missing = told }

  -- no more was counted than is listed
  pub tallied_room : (listed : List ℕ) → Rising listed → {f m count : ℕ} → Tallied w h words cell listed f m count → count ≤ length listed
  tallied_room listed rising a = let few = rising_fewer a.found listed a.rising rising a.known in let e = a.many in omega arith
