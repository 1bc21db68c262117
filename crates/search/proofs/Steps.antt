-- From offers to a step, and the tree at the beginning.
-- Assumes nothing.
use mathlib.Core.Path.{◌≡◌, refl, sym, ◌∙◌, ap}
use mathlib.Core.Logic.{inl, inr, ⊎_elim}
use mathlib.Core.List.{List}
use Prim.Native.Nat.{ℕ, ◌+◌, ◌*◌, ◌-◌, ◌≤◌, ◌<◌}
use native.Mathlib.Omega.{arith}
use lib.ListN.{length, get_or, set}
use Rattle.std.specs.Prelude.{Some, None}
use lib.Seq.{get_or-set_same, get_or-set_other}
use Rattle.settling.specs.Labels.{Step}
use Rattle.tree.specs.Keys.{nobody, Changed}
use Rattle.places.specs.declared.Trip.{Trip}
use Rattle.places.specs.Columns.{column_of, Label, Settled, Put}
use Rattle.places.specs.Places.{cell_at}
use Rattle.places.specs.Chart.{Chart, chart, link_count, net, order, Ready}
use Rattle.places.proofs.Columns.{column_length, only_left, left_same, left_trans}
use Rattle.places.proofs.Cells.{some_one, none_some}
use Rattle.places.proofs.Charts.{chart_same}
use Rattle.offers.specs.Tree.{Small, Right}
use Rattle.offers.specs.Offers.{limit, Offered, Followed}
use Rattle.offers.proofs.Trees.{leaf_nobody, waits_blank, right_settled}
use Rattle.search.specs.Search.{read, labels, labels_of, Foremost, Near, First, Marked, Settling, Blank}
use Rattle.search.proofs.Decode.{read_some, some_read}

-- A place that is marked, with the tree put right.
pub marked_of :
    {t : Trip} {W T W' T' : List ℕ} {u : ℕ} → 6 * (t.k + 2) ≤ length W → u < t.k + 2 → Put (t.k + 2) W Settled u 1 W' → Changed (t.k + 2) T u nobody T' → Marked t W T u W' T'
marked_of room h s c = record {
  label = s.only.others Label (λ q. omega arith);
  settled = s.here;
  left = only_left (omega arith) s.only;
  right = λ C right. right_settled right room h s c;
  tree = c.sized;
}

module _ (𝓒 : Chart) (D F D' F' : List ℕ) (u : ℕ) where
  -- Where the foremost place is marked and all its links are followed, a step has been made.
  pub step_of :
      Foremost 𝓒 (labels D F) u (get_or D u 0 - 1) → 0 < get_or D u 0 → Offered 𝓒 u (get_or D u 0) (link_count 𝓒 u) D D' → F' ≡ set F u 1 → u < length F →
      Step (net 𝓒) (order 𝓒) (labels D F) (labels D' F') u (get_or D u 0 - 1)
  step_of fore pos off marked inside = record {
    waits = fore.waits;
    first = fore.first;
    now_settled = rw (marked, get_or-set_same F u 1 0 inside);
    others = λ v n. rw (marked, get_or-set_other F u v 1 0 n);
    from = λ v e h.
        let r = some_read (get_or D' v 0) e h in
        ⊎_elim (λ q. inl (sym (ap read q) ∙ h)) (λ t. inr ((t.0, t.1, t.2), omega (arith, t.3))) (off.from v);
    kept = λ v e h.
        let r = some_read (get_or D v 0) e h in
        let k = off.kept v (omega arith) in
        (get_or D' v 0 - 1, read_some (get_or D' v 0) k.0, omega arith);
    offered = λ v l. let k = off.offered l.0 v l.1 l.2 in (get_or D' v 0 - 1, read_some (get_or D' v 0) k.0, omega arith);
  }

-- ---- a place is settled
-- Nobody waits.
pub settling_none : {C S E : List ℕ} {t : Trip} {W T : List ℕ} → First (chart C S E t W) W None → Right C t W T → Settling C S E t W T None W T
settling_none f right = record {
  inside = λ u z. absurd (none_some z);
  none = λ q. (refl, f.none refl);
  some = λ u z. absurd (none_some z);
  left = left_same _ _;
  right = right;
  tree = refl;
}

module _ {C S E : List ℕ} {t : Trip} {W : List ℕ} {u : ℕ} (f : First (chart C S E t W) W (Some u)) where
  -- The foremost place has an entry.
  pub first_entry : 0 < get_or (column_of (t.k + 2) W Label) u 0
  first_entry = omega (arith, some_read (get_or (column_of (t.k + 2) W Label) u 0) _ (f.some u refl).waits.1)

  -- It leaves room for one link more.
  pub first_near : Near (chart C S E t W) (labels_of (t.k + 2) W) → get_or (column_of (t.k + 2) W Label) u 0 ≤ limit + 1
  first_near near = omega (arith, near.near u _ (f.some u refl))

  -- It is marked, and all its links are followed: a step.
  pub settling_some :
      Ready C S E t W → {T W' T' W'' T'' : List ℕ} → Marked t W T u W' T' →
      Followed C S E t W' T' u (get_or (column_of (t.k + 2) W Label) u 0) (link_count (chart C S E t W') u) W'' T'' →
      Settling C S E t W T (Some u) W'' T''
  settling_some ready {T} {W'} {T'} {W''} m l = record {
    inside = f.inside;
    none = λ z. absurd (none_some (sym z));
    some = λ x is. rw (← some_one is) (_, step_of (chart C S E t W) (column_of (t.k + 2) W Label) (column_of (t.k + 2) W Settled) (column_of (t.k + 2) W'' Label) (column_of (t.k + 2) W'' Settled) u (f.some u refl) first_entry offered (l.settled ∙ m.settled) inside);
    left = left_trans m.left l.left;
    right = l.right;
    tree = l.tree ∙ m.tree;
  }
    where
      offered :
          Offered (chart C S E t W) u (get_or (column_of (t.k + 2) W Label) u 0) (link_count (chart C S E t W) u) (column_of (t.k + 2) W Label) (column_of (t.k + 2) W'' Label)
      offered = rw (chart_same C S E t m.left, m.label) at l.offered

      inside : u < length (column_of (t.k + 2) W Settled)
      inside = rw (column_length (t.k + 2) W Settled (omega arith) ready.room) (f.inside u refl)

-- ---- the beginning
-- A tree that holds nobody is right where nothing is labelled.
pub blank_right :
    {C : List ℕ} {t : Trip} {W T : List ℕ} → Small C t → t.k + 2 + (t.k + 2) ≤ length T → ((i : ℕ) → i < length T → get_or T i 0 ≡ nobody) → Blank (t.k + 2) W →
    Right C t W T
blank_right {C} {t} {W} {T} small room bare b = record {
  small = small;
  keyed = record {
    room = room;
    least = λ i pos h. omega (arith, bare i (omega arith), bare (2 * i) (omega arith), bare (2 * i + 1) (omega arith));
  };
  leaf = λ p h.
      bare (t.k + 2 + p) (omega arith) ∙
      sym (leaf_nobody (column_of (t.k + 2) W Label) (column_of (t.k + 2) W Settled) (cell_at C t) p (waits_blank (column_of (t.k + 2) W Label) (column_of (t.k + 2) W Settled) (cell_at C t) p (omega (arith, b.settled p)) (omega (arith, b.label p))));
}
