-- What entries say of labels, and what the top of the tree says of those that wait.
-- Assumes nothing.
use mathlib.Core.Path.{◌≡◌, refl, sym, ◌∙◌}
use mathlib.Core.Bool.{Bool, true, false, true≢false}
use mathlib.Core.List.{List}
use mathlib.Core.Option.{some, none}
use Prim.Native.Nat.{ℕ, ◌+◌, ◌*◌, ◌-◌, ◌%◌, ◌≤◌, ◌<◌}
use native.Mathlib.Omega.{arith}
use native.Mathlib.Decide.{dec_lt}
use borrow.Author.Tests.{ltb-true, lt-ltb, le-ltb}
use lib.Dec.{ltb}
use lib.ListN.{length, get_or, get_or-eq_default}
use Rattle.std.specs.Prelude.{Some, None}
use Rattle.settling.specs.Chains.{wholes}
use Rattle.settling.specs.Labels.{WaitingAt}
use Rattle.settling.proofs.Instances.{nearest_no_later}
use Rattle.tree.specs.Keys.{key_of, nobody}
use Rattle.tree.proofs.Keys.{key_place, key_some, key_order, top_least, top_leaf}
use Rattle.places.specs.declared.Trip.{Trip}
use Rattle.places.specs.Columns.{column_of, Label, Settled}
use Rattle.places.specs.Places.{cell_at}
use Rattle.places.specs.Chart.{chart, cell}
use Rattle.places.proofs.Cells.{some_one, none_some}
use Rattle.places.proofs.Columns.{column_length}
use Rattle.offers.specs.Tree.{waits_at, Right}
use Rattle.offers.proofs.Trees.{leaf_waits, leaf_nobody}
use Rattle.search.specs.Search.{read, labels, labels_of, First}

-- An entry above 0 is a label.
pub read_some : (x : ℕ) → 0 < x → read x ≡ some (x - 1)
read_some x h = rw (lt-ltb 0 x h)

-- A label is one less than its entry.
pub some_read : (x e : ℕ) → read x ≡ some e → x ≡ e + 1
some_read x e h = go (dec_lt 0 x)
  where
    go : Dec (0 < x) → x ≡ e + 1
    go (yes l) = let k : some (x - 1) ≡ some e = sym (read_some x l) ∙ h in let q : x - 1 ≡ e = cc in omega arith
    go (no n) = let k : none ≡ some e = sym (rw (le-ltb 0 x (omega arith))) ∙ h in let z : ◌≡◌ {A = ℕ} 0 1 = cc in absurd (omega arith)

module _ (D F : List ℕ) where
  -- A place that waits by its labels waits by its entries.
  pub waiting_entry : (v e : ℕ) → WaitingAt (labels D F) v e → (waits_at D F v ≡ true) × (get_or D v 0 ≡ e + 1)
  waiting_entry v e w = let q = some_read (get_or D v 0) e w.1 in (rw w.0 (lt-ltb 0 (get_or D v 0) (omega arith)), q)

  -- The other way round: what waits by its entries has a label.
  pub entry_waiting : (v : ℕ) → waits_at D F v ≡ true → (0 < get_or D v 0) × WaitingAt (labels D F) v (get_or D v 0 - 1)
  entry_waiting v q = go (ltb 0 (get_or F v 0)) refl
    where
      go : (b : Bool) → ltb 0 (get_or F v 0) ≡ b → (0 < get_or D v 0) × WaitingAt (labels D F) v (get_or D v 0 - 1)
      go true e = let z : false ≡ true = rw e at q in absurd (true≢false (sym z))
      go false e = let l = ltb-true 0 (get_or D v 0) (rw e at q) in (l, (e, read_some (get_or D v 0) l))

  -- What waits has an entry, so it is one of the places.
  pub waits_inside : (v : ℕ) → waits_at D F v ≡ true → v < length D
  waits_inside v q = go (dec_lt v (length D))
    where
      go : Dec (v < length D) → v < length D
      go (yes l) = l
      go (no n) = let z = get_or-eq_default D 0 {n = v} (omega arith) in absurd (omega (arith, (entry_waiting v q).0))

-- The top of the tree is the place that waits foremost.
module _ (C S E : List ℕ) {t : Trip} {W T : List ℕ} (few : t.k ≤ 2048) (room : 6 * (t.k + 2) ≤ length W) (right : Right C t W T) where
  -- the two columns
  abbrev D : List ℕ
  D = column_of (t.k + 2) W Label

  -- the flags of settled places
  abbrev F : List ℕ
  F = column_of (t.k + 2) W Settled

  -- One that waits has its key in the tree, and the top holds no more.
  waiting_key :
      (v e : ℕ) → WaitingAt (labels_of (t.k + 2) W) v e →
      (v < t.k + 2) × (get_or D v 0 ≡ e + 1) × (get_or T (t.k + 2 + v) 0 ≡ key_of (get_or D v 0) (cell_at C t v) v) × (get_or T 1 0 ≤ key_of (get_or D v 0) (cell_at C t v) v)
  waiting_key v e w =
      let x = waiting_entry D F v e w in
      let h : v < t.k + 2 = rw (column_length (t.k + 2) W Label (omega arith) room) at (waits_inside D F v x.0) in
      let q : get_or T (t.k + 2 + v) 0 ≡ key_of (get_or D v 0) (cell_at C t v) v = right.leaf v h ∙ leaf_waits D F (cell_at C t) v x.0 in
      (h, x.1, q, rw q at (top_least right.keyed v h))

  -- Where the top holds nobody, none waits: no node holds more than nobody.
  pub first_none : ((i : ℕ) → get_or T i 0 ≤ nobody) → get_or T 1 0 ≡ nobody → First (chart C S E t W) W None
  first_none fits q = record {
    inside = λ u z. absurd (none_some z);
    none = λ z v e w.
        let x = waiting_key v e w in
        key_some (get_or D v 0) (cell_at C t v) v (omega (arith, x.0)) (omega (arith, fits (t.k + 2 + v), x.2, x.3));
    some = λ u z. absurd (none_some z);
  }

  -- A leaf that does not hold nobody holds the key of its place, which waits.
  leaf_key : (p : ℕ) → p < t.k + 2 → (get_or T (t.k + 2 + p) 0 ≡ nobody → ⊥) → (waits_at D F p ≡ true) × (get_or T (t.k + 2 + p) 0 ≡ key_of (get_or D p 0) (cell_at C t p) p)
  leaf_key p h held = go (waits_at D F p) refl
    where
      go : (b : Bool) → waits_at D F p ≡ b → (waits_at D F p ≡ true) × (get_or T (t.k + 2 + p) 0 ≡ key_of (get_or D p 0) (cell_at C t p) p)
      go true e = (e, right.leaf p h ∙ leaf_waits D F (cell_at C t) p e)
      go false e = absurd (held (right.leaf p h ∙ leaf_nobody D F (cell_at C t) p e))

  -- The place whose key is at the top is the foremost.
  foremost_of :
      (p : ℕ) → p < t.k + 2 → waits_at D F p ≡ true → get_or T 1 0 ≡ key_of (get_or D p 0) (cell_at C t p) p → First (chart C S E t W) W (Some p)
  foremost_of p h w q = record {
    inside = λ u is. omega (arith, some_one is);
    none = λ z. absurd (none_some (sym z));
    some = λ u is. rw (← some_one is)
        (record {
          waits = x.1;
          first = λ v e w'.
              let y = waiting_key v e w' in
              let o = key_order (get_or D p 0) (cell_at C t p) p (get_or D v 0) (cell_at C t v) v (right.small p h) (omega arith) (right.small v y.0) (omega (arith, y.0)) (rw q at y.3) in
              (nearest_no_later wholes (cell (chart C S E t W)) (get_or D p 0 - 1) e p v).1
              (omega (arith, o.0, y.1, x.0), λ l. o.1 (omega (arith, y.1, x.0)));
        });
  }
    where
      -- It has a label, at which it waits.
      x : (0 < get_or D p 0) × WaitingAt (labels_of (t.k + 2) W) p (get_or D p 0 - 1)
      x = entry_waiting D F p w

  -- Where it holds a key, the last twelve bits are the foremost place.
  pub first_some : (get_or T 1 0 ≡ nobody → ⊥) → First (chart C S E t W) W (Some (get_or T 1 0 % 4096))
  first_some held =
      let top = top_leaf right.keyed (omega arith) in
      let x = leaf_key top.0 top.1 (λ q. held (sym top.2 ∙ q)) in
      let q : get_or T 1 0 ≡ key_of (get_or D top.0 0) (cell_at C t top.0) top.0 = sym top.2 ∙ x.1 in
      let place : get_or T 1 0 % 4096 ≡ top.0 = rw q (key_place (get_or D top.0 0) (cell_at C t top.0) top.0 (omega (arith, top.1))) in
      rw place (foremost_of top.0 top.1 x.0 q)
