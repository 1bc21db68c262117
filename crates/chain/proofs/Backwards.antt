-- The chain found backwards over a work space: the place before one, and the column that leads along the chain. Assumes nothing.
use Prim.Native.Nat.{ℕ, ◌+◌, ◌*◌, ◌-◌, ◌/◌, ◌%◌, ◌≤◌, ◌<◌}
use mathlib.Core.Bool.{true}
use mathlib.Core.List.{List, [], ◌∷◌, ◌++◌, append_assoc, append-nil}
use mathlib.Core.Logic.{⊎_elim, ◌≢◌}
use mathlib.Core.Path.{◌≡◌, refl, sym, ◌∙◌, ap, subst}
use native.Mathlib.Nat.{mod-lt, div-lt_iff_lt-mul}
use native.Mathlib.Omega.{arith}
use native.Mathlib.Decide.{dec_lt}
use borrow.Author.Tests.{ltb-true, lt-ltb, eqb-true, eqb-false}
use lib.Dec.{eqb}
use lib.ListN.{length, get_or, set, length-set}
use lib.Seq.{get_or-set_same, get_or-set_other}
use Rattle.std.specs.Prelude.{Option, Some, None}
use Rattle.lengths.specs.Lengths.{Len, 𝟎, ◌⊕◌, len_of}
use Rattle.lengths.specs.declared.Length.{Length}
use Rattle.lengths.specs.Laws.{same_pair}
use Rattle.floor.specs.Refusals.{Tells}
use Rattle.floor.specs.Words.{place_of}
use Rattle.ground.specs.Kind.{octile}
use Rattle.ground.proofs.Walks.{shortest_unique}
use Rattle.settling.specs.Labels.{SettledAt}
use Rattle.effort.specs.Effort.{Far}
use Rattle.effort.proofs.Bridge.{far_few, start_far}
use Rattle.places.specs.declared.Trip.{Trip}
use Rattle.places.specs.Columns.{column_of, Label, Settled, Next, Only, Put}
use Rattle.places.specs.Places.{cell_at, apart, TwoCells}
use Rattle.places.specs.Chart.{Chart, chart, link_at, link_count, net, Ready}
use Rattle.search.specs.Search.{labels_of, Run}
use Rattle.places.proofs.Cells.{some_one, none_some}
use Rattle.places.proofs.Columns.{column_length}
use Rattle.search.proofs.Decode.{read_some, some_read}
use Rattle.places.proofs.Charts.{chart_same, ready_kept}
use Rattle.chain.specs.Route.{Before, ChainTo}
use Rattle.chain.specs.Charted.{Charted}
use Rattle.chain.specs.Chain.{Journey, Walked, label_at, settled_at, LeadsTo, Lesser, Reached, Prior, LeadsAlong, cells_at, Linked}
use Rattle.chain.proofs.Places.{trip, from_cell, to_cell, used_within}
use Rattle.chain.proofs.Back.{not_start, adds_nearer, settled_used, settled_walk, some_labelled, before_labelled}

-- ---- the place before one
-- Of the places to which links of v below the j-th lead and that lead to it, `best` is one with the least cell number, if there is one.
pub record Best (C S E : List ℕ) (t : Trip) (W : List ℕ) (v j : ℕ) (best : Option ℕ) : Type 0 where
  pub from : (u : ℕ) → best ≡ Some u → LeadsTo C t W v u × ((i : ℕ) × (i < j) × (link_at (chart C S E t W) v i ≡ Some u))
  pub least :
      (i x : ℕ) → i < j → link_at (chart C S E t W) v i ≡ Some x → LeadsTo C t W v x →
      (u : ℕ) × (best ≡ Some u) × (cell_at C t u ≤ cell_at C t x)

module _ {C S E : List ℕ} {t : Trip} {W : List ℕ} {v : ℕ} where
  -- before the first link there is none
  pub best_none : Best C S E t W v 0 None
  best_none = record { from = λ u h. absurd (none_some h); least = λ i x h. absurd (omega arith) }

  -- a link that does not lead to v changes nothing
  pub best_skip : {j : ℕ} {best : Option ℕ} → Best C S E t W v j best → ((x : ℕ) → link_at (chart C S E t W) v j ≡ Some x → ¬ (LeadsTo C t W v x)) → Best C S E t W v (j + 1) best
  best_skip {j} {best} b never = record {
    from = λ u h. let (l, (i, k, q)) = b.from u h in (l, (i, omega arith, q));
    least = λ i x h q l. by i x (dec_lt i j) h q l;
  }
    where
      by : (i x : ℕ) → Dec (i < j) → i < j + 1 → link_at (chart C S E t W) v i ≡ Some x → LeadsTo C t W v x →
          (u : ℕ) × (best ≡ Some u) × (cell_at C t u ≤ cell_at C t x)
      by i x (yes k) h q l = b.least i x k q l
      by i x (no k) h q l = let e : i ≡ j = omega arith in absurd (never x (rw e at q) l)

  -- one that does is taken where its cell number is less
  pub best_more : {j : ℕ} {best : Option ℕ} {x r : ℕ} → Best C S E t W v j best → link_at (chart C S E t W) v j ≡ Some x → LeadsTo C t W v x →
      Lesser C t best x r → Best C S E t W v (j + 1) (Some r)
  best_more {j} {best} {x} {r} b is l s = record {
    from = λ u h. ⊎_elim
        (λ (k : best ≡ Some r). let (m, (i, n, q)) = b.from u (k ∙ h) in (m, (i, omega arith, q)))
        (λ (k : r ≡ x). let e : x ≡ u = sym k ∙ some_one h in (subst (LeadsTo C t W v) e l, (j, omega arith, is ∙ ap (λ (y : ℕ). Some y) e)))
        s.one_of;
    least = λ i y h q m. by i y (dec_lt i j) h q m;
  }
    where
      by : (i y : ℕ) → Dec (i < j) → i < j + 1 → link_at (chart C S E t W) v i ≡ Some y → LeadsTo C t W v y →
          (u : ℕ) × (Some r ≡ Some u) × (cell_at C t u ≤ cell_at C t y)
      by i y (yes k) h q m = let (u, e, f) = b.least i y k q m in (r, refl, omega (arith, s.first u e))
      by i y (no k) h q m =
          let e : i ≡ j = omega arith in
          let same : x ≡ y = some_one (sym is ∙ rw e at q) in
          (r, refl, subst (λ (z : ℕ). cell_at C t r ≤ cell_at C t z) same s.second)

-- what the code compares tells whether a link to u leads to v
pub leads_tells :
    (C : List ℕ) (t : Trip) (W : List ℕ) (v u : ℕ) {settled near far a b leg : ℕ} → settled ≡ settled_at t W u → (settled ≡ 0 → ⊥) →
    near ≡ label_at t W u → far ≡ label_at t W v → a ≡ cell_at C t u → b ≡ cell_at C t v → leg ≡ apart t.w a b →
    Tells (LeadsTo C t W v u) (eqb (near + leg) far)
leads_tells C t W v u {settled} {near} {far} {a} {b} {leg} s more n f qa qb q =
    let q' : leg ≡ apart t.w (cell_at C t u) (cell_at C t v) = rw (qa, qb) at q in
    record {
      yes = λ h. let e = eqb-true (near + leg) far h in record { settled = omega arith; adds = omega arith };
      no = λ h l. eqb-false (near + leg) far h (let z = l.adds in omega arith);
    }

-- two cells of a floor no wider and no higher than 255 have columns and rows no greater
pub two_small : {w a b : ℕ} → TwoCells w a b → (a % w ≤ 255) × (a / w ≤ 255) × (b % w ≤ 255) × (b / w ≤ 255)
two_small {w} {a} {b} c =
    let p = mod-lt a c.some in
    let q = mod-lt b c.some in
    let r = (div-lt_iff_lt-mul c.some).1 c.first in
    let s = (div-lt_iff_lt-mul c.some).1 c.second in
    let l = c.wide in
    (omega arith, omega arith, omega arith, omega arith)

module _ {a : Journey} {C S E : List ℕ} {t : Trip} {W : List ℕ} (k : Walked a C S E t W) where
  -- a settled place has a label
  pub entry_settled : (v : ℕ) → 0 < settled_at t W v → (0 < label_at t W v) × SettledAt (labels_of (t.k + 2) W) v (label_at t W v - 1)
  entry_settled v s =
      let q = lt-ltb 0 (settled_at t W v) s in
      let (d, e) = k.sound.has_label v q in
      let r = some_read (label_at t W v) d e in
      (omega arith, (q, read_some (label_at t W v) (omega arith)))

  -- the goal is reached
  pub goal_reached : Reached t W t.to
  goal_reached = record { settled = ltb-true 0 (settled_at t W t.to) k.found; near = omega arith }

  -- a reached place is one of the places
  pub reached_inside : (v : ℕ) → 0 < settled_at t W v → v < t.k + 2
  reached_inside v s = used_within k.charted (settled_used k.charted k.sound (entry_settled v s).1)

  module _ {v : ℕ} (r : Reached t W v) (other : v ≢ t.from) where
    -- what is settled and adds up leads to v
    leads_made : (u e : ℕ) → SettledAt (labels_of (t.k + 2) W) u e → e + (net (chart C S E t W)).weight u v ≡ label_at t W v - 1 → LeadsTo C t W v u
    leads_made u e (q, l) sum =
        let z = some_read (label_at t W u) e l in
        let p = (entry_settled v r.settled).0 in
        record { settled = ltb-true 0 (settled_at t W u) q; adds = omega arith }

    -- v is settled at its label
    at_v : SettledAt (labels_of (t.k + 2) W) v (label_at t W v - 1)
    at_v = (entry_settled v r.settled).1

    -- and so is the goal
    at_goal : SettledAt (labels_of (t.k + 2) W) t.to (label_at t W t.to - 1)
    at_goal = (entry_settled t.to goal_reached.settled).1

    -- v is no further than the goal
    no_further : label_at t W v - 1 ≤ label_at t W t.to - 1
    no_further = let n = r.near in omega arith

    module _ {best : Option ℕ} (b : Best C S E t W v (link_count (chart C S E t W) v) best) where
      -- some link leads to v
      pub best_some : (u : ℕ) × (best ≡ Some u)
      best_some =
          let (u, e, (i, l, q), s, m) = some_labelled k.charted k.sound at_goal at_v no_further other in
          let (x, z, f) = b.least i u l q (leads_made u e s m) in
          (x, z)

      -- and the best of all is the place before v.
      pub best_prior : (u : ℕ) → best ≡ Some u → Prior a C S E t W v u
      best_prior u is =
          let (l, j) = b.from u is in
          let (p, s) = entry_settled u l.settled in
          let sum : label_at t W u - 1 + (net (chart C S E t W)).weight u v ≡ label_at t W v - 1 = let m = l.adds in omega arith in
          let less = adds_nearer k.charted u v (label_at t W v - 1) (label_at t W u - 1) j (settled_used k.charted k.sound at_v) sum in
          record {
            inside = reached_inside u l.settled;
            linked = j;
            settled = l.settled;
            nearer = omega arith;
            before =
                before_labelled k.charted k.sound at_goal at_v no_further u (label_at t W u - 1) j s sum
                (λ x y (h, m, z) c d.
                let (o, e, f) = b.least h x m z (leads_made x y c d) in
                rw (← some_one (sym is ∙ e)) at f);
          }

-- ---- the column that leads along the chain
-- From u the column N leads to the goal by the places `rest`, each of which has the one before it on the route before it.
pub data Traced (a : Journey) (C : List ℕ) (t : Trip) (D N : List ℕ) : ℕ → List ℕ → Type 0 where
  there : Traced a C t D N t.to []
  on : {v u : ℕ} {rest : List ℕ} →
      u < length N → get_or N u 0 ≡ v + 1 → get_or D u 0 < get_or D v 0 → cell_at C t v ≢ a.start →
      Before a.w a.h a.words a.start a.goal (cell_at C t v) (cell_at C t u) → Traced a C t D N v rest →
      Traced a C t D N u (v ∷ rest)

module _ {a : Journey} {C : List ℕ} {t : Trip} {D : List ℕ} where
  -- it leads along these places
  pub traced_along : {N : List ℕ} {u : ℕ} {rest : List ℕ} → Traced a C t D N u rest → LeadsAlong D N t.to u (u ∷ rest)
  traced_along there = LeadsAlong.there
  traced_along (on h e l n b r) = LeadsAlong.on h e l (traced_along r)

  -- an entry of a nearer place changes nothing
  pub traced_set : {N : List ℕ} {u : ℕ} {rest : List ℕ} (x y : ℕ) → get_or D x 0 < get_or D u 0 → Traced a C t D N u rest → Traced a C t D (set N x y) u rest
  traced_set x y k there = Traced.there
  traced_set {N} x y k (on {v = v} {u = u} h e l n b r) =
      Traced.on {u = u} (rw (length-set N x y) h) (get_or-set_other N x u y 0 (λ q. let z = ap (λ (i : ℕ). get_or D i 0) q in omega arith) ∙ e) l n b
      (traced_set x y (omega arith) r)

  -- what leads to u, with these places behind it, is the chain to the goal
  pub traced_chain :
      {N : List ℕ} {u : ℕ} {rest ps : List ℕ} → ChainTo a.w a.h a.words a.start a.goal (cell_at C t u) ps →
      Traced a C t D N u rest →
      ChainTo a.w a.h a.words a.start a.goal (cell_at C t t.to) (ps ++ cells_at C t rest)
  traced_chain {ps = ps} c there = rw (append-nil ps) c
  traced_chain {ps = ps} c (on {v = v} {rest = rest} h e l n b r) =
      rw append_assoc at (traced_chain (ChainTo.back n b c) r)

-- Between the turns: the places behind v, and the length of what leads to v with that of the legs behind it is the shortest.
pub record Tracing (a : Journey) (C : List ℕ) (t : Trip) (W W' : List ℕ) (v : ℕ) (l : Len) : Type 0 where
  pub rest : List ℕ
  pub traced : Traced a C t (column_of (t.k + 2) W Label) (column_of (t.k + 2) W' Next) v rest
  pub far : Len
  pub shortest : Far a.w a.h a.words a.start a.goal far
  pub sum : (m : Len) → Far a.w a.h a.words a.start (cell_at C t v) m → m ⊕ l ≡ far

module _ {a : Journey} {C S E : List ℕ} {t : Trip} {W : List ℕ} (k : Walked a C S E t W) where
  -- at the goal nothing is behind
  pub tracing_none : Tracing a C t W W t.to 𝟎
  tracing_none =
      let (l, f, e) = settled_walk k.charted k.sound (entry_settled k t.to (goal_reached k).settled).1 in
      record {
        rest = [];
        traced = Traced.there;
        far = l;
        shortest = subst (λ (c : ℕ). Far a.w a.h a.words a.start c l) (to_cell k.charted) f;
        sum = λ m g. same_pair (let q = shortest_unique g f in ap (λ (x : Len). x.straight + 0) q ∙ omega arith) (let q = shortest_unique g f in ap (λ (x : Len). x.diagonal + 0) q ∙ omega arith);
      }

  module _ {W' : List ℕ} {v : ℕ} {l : Len} (s : Tracing a C t W W' v l) {u : ℕ} (p : Prior a C S E t W v u) {leg : Len} (long : leg ≡ octile (place_of t.w (cell_at C t u)) (place_of t.w (cell_at C t v))) where
    -- one leg more makes the same length
    leg_sum : p.before.nearer ⊕ (l ⊕ leg) ≡ s.far
    leg_sum =
        let q = s.sum p.before.far p.before.shortest in
        let r : p.before.nearer ⊕ leg ≡ p.before.far =
        ap (λ (x : Len). p.before.nearer ⊕ x) long
        ∙ ap (λ (x : ℕ). p.before.nearer ⊕ octile (place_of x (cell_at C t u)) (place_of x (cell_at C t v))) k.charted.width
        ∙ p.before.precedes.sum in
        same_pair (let x = ap (λ (y : Len). y.straight) q in let z = ap (λ (y : Len). y.straight) r in omega arith)
        (let x = ap (λ (y : Len). y.diagonal) q in let z = ap (λ (y : Len). y.diagonal) r in omega arith)

    -- so it fits
    pub leg_fits : (l.straight + leg.straight < 65536) × (l.diagonal + leg.diagonal < 65536)
    leg_fits =
        let few = far_few a.w a.h a.words a.start a.goal (trip k.charted) a.goal s.shortest in
        let x = ap (λ (y : Len). y.straight) leg_sum in
        let z = ap (λ (y : Len). y.diagonal) leg_sum in
        (omega arith, omega arith)

    -- the place before v, with v put into the column at its place
    pub tracing_next : {W'' : List ℕ} → v ≢ t.from → 0 < settled_at t W v → 6 * (t.k + 2) ≤ length W' → Put (t.k + 2) W' Next u (v + 1) W'' → Tracing a C t W W'' u (l ⊕ leg)
    tracing_next {W''} other there-v room put =
        let long-column = column_length (t.k + 2) W' Next (omega arith) room in
        let inside : u < length (column_of (t.k + 2) W' Next) = let i = p.inside in omega arith in
        record {
          rest = v ∷ s.rest;
          traced =
              rw put.here
              (Traced.on {u = u} (rw (length-set (column_of (t.k + 2) W' Next) u (v + 1)) inside) (get_or-set_same (column_of (t.k + 2) W' Next) u (v + 1) 0 inside)
              p.nearer
              (not_start k.charted (settled_used k.charted k.sound (entry_settled k v there-v).1) other)
              p.before
              (traced_set u (v + 1) p.nearer s.traced));
          far = s.far;
          shortest = s.shortest;
          sum = λ m g. ap (λ (x : Len). x ⊕ (l ⊕ leg)) (shortest_unique g p.before.precedes.far) ∙ leg_sum;
        }

  -- At the start the column leads along the whole chain.
  pub tracing_done : {W' : List ℕ} {r : Length} → Only (t.k + 2) W Next W' → Tracing a C t W W' t.from (len_of r) → Linked a C t W' r
  tracing_done {W'} {r} o s =
      let e = from_cell k.charted in
      let z = start_far a.w a.h a.words a.start a.goal (trip k.charted) in
      let q = s.sum 𝟎 (subst (λ (c : ℕ). Far a.w a.h a.words a.start c 𝟎) (sym e) z) in
      let same : s.far ≡ len_of r = same_pair (let x = ap (λ (y : Len). y.straight) q in omega arith) (let x = ap (λ (y : Len). y.diagonal) q in omega arith) in
      let first : ChainTo a.w a.h a.words a.start a.goal (cell_at C t t.from) (cell_at C t t.from ∷ []) =
      subst (λ (c : ℕ). ChainTo a.w a.h a.words a.start a.goal c (c ∷ [])) (sym e) ChainTo.here in
      record {
        places = t.from ∷ s.rest;
        along = rw (o.others Label (λ h. omega arith)) (traced_along s.traced);
        chain =
            subst (λ (c : ℕ). ChainTo a.w a.h a.words a.start a.goal c (cells_at C t (t.from ∷ s.rest))) (to_cell k.charted)
            (traced_chain first s.traced);
        shortest = subst (λ (x : Len). Far a.w a.h a.words a.start a.goal x) same s.shortest;
      }

-- ---- what a change of the column NEXT leaves
module _ (t : Trip) {W W' : List ℕ} (o : Only (t.k + 2) W Next W') where
  -- the labels stay
  label_kept : column_of (t.k + 2) W' Label ≡ column_of (t.k + 2) W Label
  label_kept = o.others Label (λ h. omega arith)

  -- and what is settled
  settled_kept : column_of (t.k + 2) W' Settled ≡ column_of (t.k + 2) W Settled
  settled_kept = o.others Settled (λ h. omega arith)

  -- and the flags of links, so the chart
  chart_kept : (C S E : List ℕ) → chart C S E t W' ≡ chart C S E t W
  chart_kept C S E = rw (o.others 3 (λ h. omega arith), o.others 4 (λ h. omega arith))

  -- so the reached places
  pub reached_kept : {v : ℕ} → Reached t W v → Reached t W' v
  reached_kept r = record { settled = rw settled_kept r.settled; near = rw label_kept r.near }

  -- the place before one
  pub prior_kept : {a : Journey} {C S E : List ℕ} {v u : ℕ} → Prior a C S E t W' v u → Prior a C S E t W v u
  prior_kept {a} {C} {S} {E} {v} {u} p = record {
    inside = p.inside;
    linked = subst (λ (𝓒 : Chart). (net 𝓒).Link v u) (chart_kept C S E) p.linked;
    settled = rw settled_kept at p.settled;
    nearer = rw label_kept at p.nearer;
    before = p.before;
  }

  -- and the whole search.
  pub walked_kept : {a : Journey} {C S E : List ℕ} → Walked a C S E t W → Walked a C S E t W'
  walked_kept {a} {C} {S} {E} k =
      let e = chart_kept C S E in
      let l : labels_of (t.k + 2) W' ≡ labels_of (t.k + 2) W = rw (label_kept, settled_kept) in
      record {
        ready = record { fair = rw e k.ready.fair; room = rw o.sized k.ready.room };
        charted = rw e k.charted;
        sound = rw (e, l) k.sound;
        found = rw settled_kept k.found;
      }

-- A run of the search over a chart of the journey that has settled the goal is what the chain is found from.
pub run_walked :
    (a : Journey) {C S E : List ℕ} {t : Trip} {W : List ℕ} {budget r : ℕ} {W' : List ℕ} → Ready C S E t W →
    Charted a.w a.h a.words a.plan a.start a.goal (chart C S E t W) → Run C S E t W budget r W' →
    (labels_of (t.k + 2) W').settled t.to ≡ true →
    Walked a C S E t W'
run_walked a {C} {S} {E} {t} ready ch run found =
    let e = chart_same C S E t run.left in
    record { ready = ready_kept ready run.left; charted = rw e ch; sound = rw e run.outcome.sound; found = found }
