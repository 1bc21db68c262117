-- What holds between the turns of a run, and what it comes to.
-- Assumes nothing.
use mathlib.Core.Path.{◌≡◌, refl, sym, ◌∙◌, ap}
use mathlib.Core.Logic.{◌⊎◌, ⊎_elim}
use mathlib.Core.Bool.{Bool, true, false, true≢false}
use mathlib.Core.List.{List}
use Prim.Native.Nat.{ℕ, zero, suc, ◌+◌, ◌*◌, ◌-◌, ◌≤◌, ◌<◌}
use native.Mathlib.Nat.{le_of_suc-le-suc}
use native.Mathlib.Numerals.{add-one}
use native.Mathlib.Omega.{arith}
use native.Mathlib.Decide.{ℕ_discrete}
use lib.Dec.{ltb}
use lib.ListN.{length, get_or, set, take}
use Rattle.std.specs.Prelude.{Option, Some}
use Rattle.std.specs.List.{count_by}
use Rattle.std.proofs.lemmas.List.{take_all}
use Rattle.std.proofs.lemmas.List.Sums.{count_by_more_yes, count_by_more_no}
use lib.Seq.{get_or-set_same, get_or-set_other}
use Rattle.settling.specs.Chains.{Shortest, wholes}
use Rattle.settling.specs.Order.{Consistent}
use Rattle.settling.specs.Labels.{Labels, WaitingAt, First as Start, Step, Sound, NoneAfter}
use Rattle.settling.specs.Counts.{Counts, empty, with, without, below}
use Rattle.settling.proofs.Ranks.{no_later_trans, shorter_of_first}
use Rattle.settling.proofs.Search.{follow, settled_shortest, none_before, settled_reachable, first_sound, step_sound}
use Rattle.settling.proofs.Tally.{counts_unique, counts_none, counts_at_most, length_below}
use Rattle.settling.proofs.Effort.{first_none_after, step_counts, none_after_unsettled, effort_without_goal, effort_distinct, settled_in_reach, none_tie}
use Rattle.places.specs.declared.Trip.{Trip}
use Rattle.places.specs.Columns.{column_of, Label, Settled, Left}
use Rattle.places.specs.Chart.{Chart, chart, Fair, net, order, Ready}
use Rattle.places.proofs.Columns.{column_length, left_same, left_trans}
use Rattle.places.proofs.Links.{consistent, distinct}
use Rattle.places.proofs.Charts.{chart_same, ready_kept}
use Rattle.offers.specs.Tree.{Right}
use Rattle.offers.specs.Offers.{Offer}
use Rattle.search.specs.Search.{labels_of, Foremost, Near, Settling, Blank, Bounded, Outcome, Run}
use Rattle.search.proofs.Decode.{some_read}

-- Where as many of the numbers below n have a property as there are, each has it.
counts_all : {P : ℕ → Type 0} (n m : ℕ) → Counts P (below n) m → n ≤ m → (x : ℕ) → x < n → P x
counts_all {P} zero m c h x l = absurd (omega arith)
counts_all {P} (suc n) (suc m) (with p c) h x l = go (ℕ_discrete x n) (counts_all n m c (le_of_suc-le-suc h) x)
  where
    go : Dec (x ≡ n) → (x < n → P x) → P x
    go (yes q) rest = rw q p
    go (no k) rest = rest (omega arith)
counts_all {P} (suc n) m (without p c) h x l = absurd (omega (arith, counts_at_most c, length_below n))

module _ (𝓒 : Chart) (fair : Fair 𝓒) (𝓢 : Labels wholes) (ok : Sound (net 𝓒) (order 𝓒) 𝓢) where
  -- The foremost label is shortest already, so it is bounded.
  pub foremost_shortest : (u d : ℕ) → Foremost 𝓒 𝓢 u d → Shortest (net 𝓒) u d
  foremost_shortest u d f = record {
    chain = ok.labelled u d f.waits.1;
    best = λ e c.
        ⊎_elim (λ r. absurd (true≢false (sym r.0 ∙ f.waits.0)))
        (λ y. shorter_of_first (order 𝓒) (no_later_trans (order 𝓒) (f.first y.0 y.1 y.2) y.3))
        (follow (net 𝓒) (order 𝓒) (consistent 𝓒 fair) 𝓢 ok c);
  }

  -- So the foremost label leaves room for one link more.
  pub near_of : Bounded 𝓒 → Near 𝓒 𝓢
  near_of bounded = record { near = λ u d f. bounded u d (foremost_shortest u d f) }

-- After m turns: W and the tree T have come from W₀ and T₀.
pub record Running (C S E : List ℕ) (t : Trip) (W₀ T₀ : List ℕ) (budget : ℕ) (W T : List ℕ) (m : ℕ) : Type 0 where
  pub left : Left (t.k + 2) W₀ W
  pub right : Right C t W T
  pub tree : length T ≡ length T₀
  pub sound : Sound (net (chart C S E t W₀)) (order (chart C S E t W₀)) (labels_of (t.k + 2) W)
  pub none_after : NoneAfter (net (chart C S E t W₀)) (order (chart C S E t W₀)) (labels_of (t.k + 2) W) t.to
  pub counted : Counts (λ v. (labels_of (t.k + 2) W).settled v ≡ true) (below (t.k + 2)) m
  pub within : m ≤ budget

module _ {C S E : List ℕ} {t : Trip} {W₀ : List ℕ} (ready : Ready C S E t W₀) where
  -- the chart at entry
  abbrev 𝓒 : Chart
  𝓒 = chart C S E t W₀

  -- Once the start has its label, the search has begun.
  pub begun_first : {T₀ W T : List ℕ} → Blank (t.k + 2) W₀ → Offer C t W₀ T₀ t.from 1 W T → Start (net (chart C S E t W)) (labels_of (t.k + 2) W)
  begun_first {T₀} {W} blank o = rw (chart_same C S E t o.left) (record {
    at_start = rw at_from;
    others = λ v d h. only v d (some_read (get_or (column_of (t.k + 2) W Label) v 0) d h) (ℕ_discrete v t.from);
    unsettled = λ v. rw (o.settled, blank.settled v);
  })
    where
      inside : t.from < length (column_of (t.k + 2) W₀ Label)
      inside = rw (column_length (t.k + 2) W₀ Label (omega arith) ready.room) (omega (arith, ready.fair.from))

      label : column_of (t.k + 2) W Label ≡ set (column_of (t.k + 2) W₀ Label) t.from 1
      label = rw (blank.label t.from) at o.label

      at_from : get_or (column_of (t.k + 2) W Label) t.from 0 ≡ 1
      at_from = rw label (get_or-set_same (column_of (t.k + 2) W₀ Label) t.from 1 0 inside)

      only : (v d : ℕ) → get_or (column_of (t.k + 2) W Label) v 0 ≡ d + 1 → Dec (v ≡ t.from) → (v ≡ t.from) × (d ≡ 0)
      only v d q (yes e) = (e, omega (arith, at_from, ap (λ (x : ℕ). get_or (column_of (t.k + 2) W Label) x 0) e))
      only v d q (no n) =
          let z : get_or (column_of (t.k + 2) W Label) v 0 ≡ 0 = rw label (get_or-set_other (column_of (t.k + 2) W₀ Label) t.from v 1 0 n) ∙ blank.label v in
          absurd (omega arith)

  -- Before the first turn no place is settled.
  pub running_first : {T₀ : List ℕ} (budget : ℕ) → Right C t W₀ T₀ → Start (net 𝓒) (labels_of (t.k + 2) W₀) → Running C S E t W₀ T₀ budget W₀ T₀ 0
  running_first budget right first = record {
    left = left_same _ _;
    right = right;
    tree = refl;
    sound = first_sound (net 𝓒) (order 𝓒) (consistent 𝓒 ready.fair) (labels_of (t.k + 2) W₀) first;
    none_after = first_none_after (net 𝓒) (order 𝓒) (consistent 𝓒 ready.fair) (labels_of (t.k + 2) W₀) t.to first;
    counted = counts_none (λ x e. true≢false (sym e ∙ first.unsettled x)) _;
    within = omega arith;
  }

  module _ {T₀ : List ℕ} {budget : ℕ} {W T : List ℕ} {m : ℕ} (run : Running C S E t W₀ T₀ budget W T m) where
    -- A run stays ready.
    pub running_ready : Ready C S E t W
    running_ready = ready_kept ready run.left

    -- Between the turns the foremost label leaves room for one link more.
    pub running_near : Bounded 𝓒 → Near (chart C S E t W) (labels_of (t.k + 2) W)
    running_near bounded = rw (chart_same C S E t run.left) (near_of 𝓒 ready.fair (labels_of (t.k + 2) W) run.sound bounded)

    -- One place more is settled.
    pub running_step :
        {W' T' : List ℕ} {u : ℕ} {r : Option ℕ} → (labels_of (t.k + 2) W).settled t.to ≡ false → m < budget → r ≡ Some u → Settling C S E t W T r W' T' →
        Running C S E t W₀ T₀ budget W' T' (m + 1)
    running_step {W'} {T'} {u} open-goal h is s = record {
      left = left_trans run.left s.left;
      right = s.right;
      tree = s.tree ∙ run.tree;
      sound = step_sound (net 𝓒) (order 𝓒) con (labels_of (t.k + 2) W) (labels_of (t.k + 2) W') run.sound u move.0 move.1;
      none_after =
          none_after_unsettled (net 𝓒) (order 𝓒) con (labels_of (t.k + 2) W) (labels_of (t.k + 2) W') run.sound u move.0 move.1 t.to
          open-goal;
      counted =
          rw (add-one m)
          (step_counts (net 𝓒) (order 𝓒) con (labels_of (t.k + 2) W) (labels_of (t.k + 2) W') run.sound u move.0 move.1 (t.k + 2)
          (s.inside u is) m run.counted);
      within = omega arith;
    }
      where
        con : Consistent (order 𝓒) (net 𝓒)
        con = consistent 𝓒 ready.fair

        move : (d : ℕ) × Step (net 𝓒) (order 𝓒) (labels_of (t.k + 2) W) (labels_of (t.k + 2) W') u d
        move = rw (chart_same C S E t run.left) at (s.some u is)

    -- What a run comes to, if nobody waits where the goal is not settled and places are left to settle.
    outcome :
        ((labels_of (t.k + 2) W).settled t.to ≡ false → (m < budget) ⊎ (t.k + 2 ≤ budget) → (v e : ℕ) → WaitingAt (labels_of (t.k + 2) W) v e → ⊥) →
        Outcome 𝓒 (t.k + 2) t.to budget m (labels_of (t.k + 2) W)
    outcome none = record {
      sound = run.sound;
      counted = run.counted;
      within = run.within;
      shortest = λ v d s. settled_shortest (net 𝓒) (order 𝓒) con (labels_of (t.k + 2) W) run.sound s;
      none_before = λ u v d e s f c. none_before (net 𝓒) (order 𝓒) con (labels_of (t.k + 2) W) run.sound s f c;
      found = λ h.
          let l = run.sound.has_label t.to h in (
            l.0,
            (h, l.1),
            settled_shortest (net 𝓒) (order 𝓒) con (labels_of (t.k + 2) W) run.sound (h, l.1),
            effort_distinct (net 𝓒) (order 𝓒) con (labels_of (t.k + 2) W) run.sound (t.k + 2) m run.counted t.to l.0 (h, l.1) run.none_after
                (distinct 𝓒 ready.fair),
          );
      reached = λ g at.
          settled_in_reach (net 𝓒) (order 𝓒) con (labels_of (t.k + 2) W) run.sound (t.k + 2) m run.counted t.to g at run.none_after
          (none_tie (net 𝓒) (order 𝓒) con (labels_of (t.k + 2) W) run.sound (t.k + 2) m run.counted t.to g at run.none_after
          (distinct 𝓒 ready.fair));
      lost = λ h b. (
        λ r. true≢false (sym ((settled_reachable (net 𝓒) (order 𝓒) con (labels_of (t.k + 2) W) run.sound (none h b) t.to).1 r) ∙ h),
        effort_without_goal (net 𝓒) (order 𝓒) con (labels_of (t.k + 2) W) run.sound (t.k + 2) m run.counted (none h b),
      );
    }
      where
        con : Consistent (order 𝓒) (net 𝓒)
        con = consistent 𝓒 ready.fair

    -- The goal is settled.
    pub run_found : (labels_of (t.k + 2) W).settled t.to ≡ true → Run C S E t W₀ budget m W
    run_found h = record { outcome = outcome (λ f b v e w. absurd (true≢false (sym h ∙ f))); left = run.left }

    -- Nobody waits.
    pub run_lost : ((v e : ℕ) → WaitingAt (labels_of (t.k + 2) W) v e → ⊥) → Run C S E t W₀ budget m W
    run_lost none = record { outcome = outcome (λ f b. none); left = run.left }

    -- The budget is used up: where it is enough for all places, all are settled.
    pub run_used : budget ≤ m → Run C S E t W₀ budget m W
    run_used h = record {
      outcome = outcome
          (λ f b v e w.
          ⊎_elim (λ l. omega arith)
          (λ l. true≢false (sym (counts_all (t.k + 2) m run.counted (omega arith) t.to ready.fair.to) ∙ f)) b);
      left = run.left;
    }

-- What a run comes to that begins after the start has its label, by the work space at entry: the number of settled places is the only one.
pub run_begun :
    {C S E : List ℕ} {t : Trip} {W₀ W₁ : List ℕ} → Left (t.k + 2) W₀ W₁ → {budget m r : ℕ} {W : List ℕ} → Run C S E t W₁ budget m W →
    Counts (λ v. (labels_of (t.k + 2) W).settled v ≡ true) (below (t.k + 2)) r →
    Run C S E t W₀ budget r W
run_begun {C} {S} {E} {t} begun run count =
    rw (counts_unique count run.outcome.counted)
    (record { outcome = rw (chart_same C S E t begun) at run.outcome; left = left_trans begun run.left })

-- Chains stay bounded.
pub bounded_begun :
    (C S E : List ℕ) (t : Trip) {W₀ W₁ : List ℕ} → Left (t.k + 2) W₀ W₁ → Bounded (chart C S E t W₀) → Bounded (chart C S E t W₁)
bounded_begun C S E t begun b = rw (chart_same C S E t begun) b

-- ---- the settled places counted
-- Of the first i flags as many are set as are counted.
flags_front : (D : List ℕ) (i : ℕ) → i ≤ length D → Counts (λ v. ltb 0 (get_or D v 0) ≡ true) (below i) (count_by (λ x. ltb 0 x) (take i D))
flags_front D zero h = empty
flags_front D (suc i) h = rw (← add-one i) (go (flags_front D i (omega arith)) (ltb 0 (get_or D i 0)) refl)
  where
    go : Counts (λ v. ltb 0 (get_or D v 0) ≡ true) (below i) (count_by (λ x. ltb 0 x) (take i D)) → (b : Bool) → ltb 0 (get_or D i 0) ≡ b → Counts (λ v. ltb 0 (get_or D v 0) ≡ true) (below (suc i)) (count_by (λ x. ltb 0 x) (take (i + 1) D))
    go less true e = rw (count_by_more_yes (λ x. ltb 0 x) D i 0 h e, add-one (count_by (λ x. ltb 0 x) (take i D))) (with e less)
    go less false e = rw (count_by_more_no (λ x. ltb 0 x) D i 0 h e) (without (λ f. true≢false (sym f ∙ e)) less)

-- The flags of n places that are set are those of the settled places.
pub counts_flags : (n : ℕ) (W : List ℕ) → 6 * n ≤ length W → Counts (λ v. (labels_of n W).settled v ≡ true) (below n) (count_by (λ x. ltb 0 x) (column_of n W Settled))
counts_flags n W room =
    let long : length (column_of n W Settled) ≡ n = column_length n W Settled (omega arith) room in
    rw (take_all n (column_of n W Settled) (omega arith)) at (flags_front (column_of n W Settled) n (omega arith))
