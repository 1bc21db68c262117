-- How the neighbours of one turning point grow in the list, as a sweep shows them. Assumes nothing.
use Prim.Native.Nat.{ℕ, ◌+◌, ◌-◌, ◌≤◌, ◌<◌}
use mathlib.Core.List.{List, ◌++◌}
use mathlib.Core.Logic.{inl, inr, ⊎_elim}
use mathlib.Core.Path.{◌≡◌, refl, sym, ◌∙◌, ap, subst}
use native.Mathlib.Nat.{le_trans}
use native.Mathlib.Omega.{arith}
use lib.ListN.{length, get_or, take, drop, length-append, length-drop, get_or-append}
use lib.Seq.{take_at, drop_at, get_or-take, get_or-drop, get_or-append-add, length-take-le}
use Rattle.corners.specs.Lists.{part}
use Rattle.plan.specs.Rising.{In, insertion}
use Rattle.plan.specs.Inserting.{spliced, Inserted}
use Rattle.plan.specs.Linking.{PutShown, Finding, Crowded, Grown}
use Rattle.fields.specs.Fields.{Seen}
use Rattle.std.specs.Prelude.{Option, Some, None}
use Rattle.plan.proofs.Insertions.{part_length}
use Rattle.plan.proofs.Risings.{rising_fewer, in_inserted, still_in, was_in, rising_inserted}

-- ---- a list with xs spliced in at `from`
module _ (list : List ℕ) (from : ℕ) (xs : List ℕ) (l : from + length xs ≤ length list) where
  -- `from` entries stand before xs
  front : length (take from list) ≡ from
  front = length-take-le from list (omega arith)

  -- the list is as long as it was
  spliced_length : length (spliced list from xs) ≡ length list
  spliced_length =
      length-append (take from list) (xs ++ drop (from + length xs) list)
      ∙ (let a = front in let b = length-append xs (drop (from + length xs) list) in let c = length-drop (from + length xs) list in omega arith)

  -- before xs each entry is as it was
  spliced_before : (i : ℕ) → i < from → get_or (spliced list from xs) i 0 ≡ get_or list i 0
  spliced_before i m = get_or-append (take from list) _ 0 i (rw front m) ∙ get_or-take from list i 0 m

  -- behind xs each entry is as it was
  spliced_behind : (i : ℕ) → from + length xs ≤ i → get_or (spliced list from xs) i 0 ≡ get_or list i 0
  spliced_behind i m =
      let a : i ≡ length (take from list) + (length xs + (i - (from + length xs))) = rw front (omega arith) in
      ap (λ (n : ℕ). get_or (spliced list from xs) n 0) a
      ∙ get_or-append-add (take from list) (xs ++ drop (from + length xs) list) (length xs + (i - (from + length xs))) 0
      ∙ get_or-append-add xs (drop (from + length xs) list) (i - (from + length xs)) 0
      ∙ get_or-drop (from + length xs) list (i - (from + length xs)) 0
      ∙ ap (λ (n : ℕ). get_or list n 0) back
    where
      -- the end of xs and what is left from there make i
      back : from + length xs + (i - (from + length xs)) ≡ i
      back = omega arith

  -- what stands from `from` up to the end of xs is xs
  spliced_part : part (spliced list from xs) from (from + length xs) ≡ xs
  spliced_part =
      ap (λ (ys : List ℕ). take (from + length xs - from) ys) (drop_at (take from list) (xs ++ drop (from + length xs) list) from front)
      ∙ take_at xs (drop (from + length xs) list) (from + length xs - from) (omega arith)

-- ---- what an insertion leaves
module _ (list : List ℕ) (from m t k : ℕ) (exit : List ℕ) (l : from ≤ m) (i : Inserted list from m t (Some k) exit) where
  -- there is room for the part with t in its place
  room : from + length (insertion t (part list from m)) ≤ length list
  room = let e = i.0 in let r = i.1 in omega arith

  -- what stands from `from` up to k is the part with t in its place
  inserted_part : part exit from k ≡ insertion t (part list from m)
  inserted_part =
      ap (λ (xs : List ℕ). part xs from k) i.3 ∙ ap (λ (n : ℕ). part (spliced list from (insertion t (part list from m))) from n) i.0
      ∙ spliced_part list from (insertion t (part list from m)) room

  -- so the entries up to k took the place of those up to m, and nothing else changed
  inserted_grown : m ≤ k → Grown list from m k exit
  inserted_grown later =
      record {
        as_long = ap length i.3 ∙ spliced_length list from (insertion t (part list from m)) room;
        later = later;
        before = λ j p. ap (λ (xs : List ℕ). get_or xs j 0) i.3 ∙ spliced_before list from (insertion t (part list from m)) room j p;
        behind = λ j p. ap (λ (xs : List ℕ). get_or xs j 0) i.3 ∙ spliced_behind list from (insertion t (part list from m)) room j (let e = i.0 in omega arith);
        kept = λ u p. subst (In u) (sym inserted_part) (still_in u t (part list from m) p);
      }

-- ---- growing and growing again
-- a list that is left as it was has grown by nothing
pub grown_self : (list : List ℕ) (from m : ℕ) → Grown list from m m list
grown_self list from m = record { as_long = refl; later = omega arith; before = λ i p. refl; behind = λ i p. refl; kept = λ t i. i }

-- what grew, and then grew again, has grown
pub grown_trans : {a b c : List ℕ} {from m k j : ℕ} → Grown a from m k b → Grown b from k j c → Grown a from m j c
grown_trans p q =
    record {
      as_long = q.as_long ∙ p.as_long;
      later = le_trans p.later q.later;
      before = λ i l. q.before i l ∙ p.before i l;
      behind = λ i l. q.behind i l ∙ p.behind i (le_trans q.later l);
      kept = λ t i. q.kept t (p.kept t i);
    }

-- ---- what a row shows is put in its place
module _ (w h : ℕ) (words : List ℕ) (s : ℕ) (list : List ℕ) (from m : ℕ) (f : Finding w h words s list from m) where
  -- with t put in its place, the part ends no earlier than it did
  put_later : (t : ℕ) → m ≤ from + length (insertion t (part list from m))
  put_later t =
      let p = part_length list from m f.after f.inside in
      let q = rising_fewer (part list from m) (insertion t (part list from m)) f.rising (rising_inserted t _ f.rising) (λ u i. still_in u t _ i) in
      let a = f.after in
      omega arith

  -- the list of what was found with what was shown, if anything was
  pub record Put (shown : Option ℕ) (k : ℕ) (exit : List ℕ) : Type 0 where
    pub finding : Finding w h words s exit from k
    pub grown : Grown list from m k exit
    pub there : (t : ℕ) → shown ≡ Some t → In t (part exit from k)

  -- what is seen from s and was put in its place stands among those found
  put_in : (t k : ℕ) (exit : List ℕ) → Seen w h words s t → Inserted list from m t (Some k) exit → Put (Some t) k exit
  put_in t k exit seen i =
      let whole = inserted_part list from m t k exit f.after i in
      let later : m ≤ k = rw i.0 (put_later t) in
      record {
        finding = record {
          after = le_trans f.after later;
          inside = subst (λ (n : ℕ). k ≤ n) (sym (inserted_grown list from m t k exit f.after i later).as_long) i.1;
          few = ⊎_elim (λ e. rw e f.few) (λ l. l) i.2;
          rising = rw whole (rising_inserted t _ f.rising);
          seen = λ u p. ⊎_elim (λ e. subst (Seen w h words s) (sym e) seen) (f.seen u) (was_in u t _ (subst (In u) whole p));
        };
        grown = inserted_grown list from m t k exit f.after i later;
        there = λ u e. let g : u ≡ t = cc in rw (g, whole) (in_inserted t _);
      }

  -- so what a row shows, if it shows anything, stands among those found
  pub put_shown : (shown : Option ℕ) (k : ℕ) (exit : List ℕ) → ((t : ℕ) → shown ≡ Some t → Seen w h words s t) → PutShown list from m shown (Some k) exit → Put shown k exit
  put_shown None k exit seen p =
      let n : k ≡ m = cc in
      let z : (t : ℕ) → None ≡ Some t → In t (part list from m) = λ t e. cc in
      rw (n, p.1) (record { finding = f; grown = grown_self list from m; there = z })
  put_shown (Some t) k exit seen p = put_in t k exit (seen t refl) p

  -- where there is no room, there is more than there is room for
  pub crowded : (shown : Option ℕ) (exit : List ℕ) → ((t : ℕ) → shown ≡ Some t → Seen w h words s t) → PutShown list from m shown None exit →
      Crowded w h words s (length list) from × (length exit ≡ length list)
  crowded None exit seen p = let e : ◌≡◌ {A = Option ℕ} None (Some m) = p.0 in cc
  crowded (Some t) exit seen p = (
    record {
      found = insertion t (part list from m);
      rising = rising_inserted t _ f.rising;
      seen = λ u i. ⊎_elim (λ e. subst (Seen w h words s) (sym e) (seen t refl)) (f.seen u) (was_in u t _ i);
      too_many = ⊎_elim (λ l. inl (let e = p.0 in omega arith)) (λ l. inr (let e = p.0 in omega arith)) p.1;
    },
    ap length p.2,
  )
