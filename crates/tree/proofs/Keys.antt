-- Laws of a tree of keys.
-- Assumes nothing.
use mathlib.Core.Path.{◌≡◌, refl, ◌∙◌}
use mathlib.Core.Logic.{◌⊎◌, inl, inr, ⊎_elim}
use mathlib.Core.List.{List}
use Prim.Native.Nat.{ℕ, zero, suc, ◌+◌, ◌*◌, ◌-◌, ◌/◌, ◌%◌, ◌≤◌, ◌<◌, min}
use native.Mathlib.Omega.{arith}
use native.Mathlib.Decide.{ℕ_discrete, dec_lt}
use lib.ListN.{length, get_or, set, length-set}
use lib.Seq.{get_or-set_same, get_or-set_other}
use Rattle.tree.specs.Keys.{key_of, nobody, LeastAt, Keyed, Changed}

-- ---- keys
-- The last twelve bits of a key are its place.
pub key_place : (l c p : ℕ) → p < 4096 → key_of l c p % 4096 ≡ p
key_place l c p h = omega arith

-- So no key is nobody's, but of the last place.
pub key_some : (l c p : ℕ) → p < 4095 → key_of l c p ≡ nobody → ⊥
key_some l c p h q = omega arith

-- The lesser key has no more for a label, and for equal labels no more for a cell.
pub key_order :
    (l c p l' c' p' : ℕ) → c < 16384 → p < 4096 → c' < 16384 → p' < 4096 → key_of l c p ≤ key_of l' c' p' → (l ≤ l') × (l' ≤ l → c ≤ c')
key_order l c p l' c' p' a b a' b' h = (omega arith, λ e. omega arith)

-- A lower label gives a lower key.
pub key_lower : (l l' c p : ℕ) → l ≤ l' → key_of l c p ≤ key_of l' c p
key_lower l l' c p h = omega arith

-- ---- nodes
-- The other child of a node's parent.
abbrev pub brother : ℕ → ℕ
brother c = c + 1 - 2 * (c % 2)

-- A node and its brother are the children of its parent.
pub two_children :
    (T : List ℕ) (c : ℕ) → 0 < c → min (get_or T (2 * (c / 2)) 0) (get_or T (2 * (c / 2) + 1) 0) ≡ min (get_or T c 0) (get_or T (brother c) 0)
two_children T c pos = go (ℕ_discrete (c % 2) 0)
  where
    go : Dec (c % 2 ≡ 0) → min (get_or T (2 * (c / 2)) 0) (get_or T (2 * (c / 2) + 1) 0) ≡ min (get_or T c 0) (get_or T (brother c) 0)
    go (yes q) =
        let a : 2 * (c / 2) ≡ c = omega arith in
        let b : brother c ≡ c + 1 = omega arith in
        rw (a, b)
    go (no m) =
        let a : 2 * (c / 2) + 1 ≡ c = omega arith in
        let b : brother c ≡ 2 * (c / 2) = omega arith in
        rw (a, b) (omega arith)

-- A store to one node leaves right the nodes that neither are it nor stand right above it.
pub least_elsewhere : (T : List ℕ) (x v i : ℕ) → (i ≡ x → ⊥) → (i ≡ x / 2 → ⊥) → LeastAt T i → LeastAt (set T x v) i
least_elsewhere T x v i far apart w =
    rw (
      get_or-set_other T x i v 0 far,
      get_or-set_other T x (2 * i) v 0 (λ q. apart (omega arith)),
      get_or-set_other T x (2 * i + 1) v 0 (λ q. apart (omega arith)),
    ) w

-- A node that is set to the less of its children is right.
pub least_here :
    (T : List ℕ) (i v : ℕ) → 0 < i → i < length T → v ≡ min (get_or T (2 * i) 0) (get_or T (2 * i + 1) 0) → LeastAt (set T i v) i
least_here T i v pos h q =
    rw (
      get_or-set_same T i v 0 h,
      get_or-set_other T i (2 * i) v 0 (λ e. omega arith),
      get_or-set_other T i (2 * i + 1) v 0 (λ e. omega arith),
    ) q

-- ---- a key that goes up from a leaf
-- On the way up: node x holds the key, and all nodes but the one right above it are right. That one is right for what x held before.
pub record Climbing (n key : ℕ) (T₀ T : List ℕ) (x : ℕ) : Type 0 where
  pub low : 0 < x
  pub high : x < n + n
  pub room : n + n ≤ length T
  pub sized : length T ≡ length T₀
  pub leaves : (c : ℕ) → n ≤ c → get_or T c 0 ≡ get_or T₀ c 0
  pub here : get_or T x 0 ≡ key
  pub old : ℕ
  pub lower : key ≤ old
  pub right : (i : ℕ) → 0 < i → i < n → (i ≡ x / 2 → ⊥) → LeastAt T i
  pub above : 1 < x → get_or T (x / 2) 0 ≡ min old (get_or T (brother x) 0)

-- At first the leaf alone holds the key.
pub climbing_first : {n p key : ℕ} {T : List ℕ} → Keyed n T → p < n → key ≤ get_or T (n + p) 0 → Climbing n key (set T (n + p) key) (set T (n + p) key) (n + p)
climbing_first {n} {p} {key} {T} k h less = record {
  low = omega arith;
  high = omega arith;
  room = omega (arith, k.room, length-set T (n + p) key);
  sized = refl;
  leaves = λ c l. refl;
  here = get_or-set_same T (n + p) key 0 (omega (arith, k.room));
  old = get_or T (n + p) 0;
  lower = less;
  right = λ i pos l far. least_elsewhere T (n + p) key i (λ q. omega arith) far (k.least i pos l);
  above = λ more.
      rw (
        get_or-set_other T (n + p) ((n + p) / 2) key 0 (λ q. omega arith),
        get_or-set_other T (n + p) (brother (n + p)) key 0 (λ q. omega arith),
      ) (k.least ((n + p) / 2) (omega arith) (omega arith) ∙ two_children T (n + p) (omega arith));
}

module _ {n key : ℕ} {T₀ T : List ℕ} {x : ℕ} (w : Climbing n key T₀ T x) where
  -- One node further up.
  pub climbing_more : 1 < x → key < get_or T (x / 2) 0 → Climbing n key T₀ (set T (x / 2) key) (x / 2)
  climbing_more more less = record {
    low = omega arith;
    high = omega (arith, w.high);
    room = omega (arith, w.room, length-set T (x / 2) key);
    sized = length-set T (x / 2) key ∙ w.sized;
    leaves = λ c l. get_or-set_other T (x / 2) c key 0 (λ q. omega (arith, w.high)) ∙ w.leaves c l;
    here = get_or-set_same T (x / 2) key 0 (omega (arith, w.high, w.room));
    old = get_or T (x / 2) 0;
    lower = omega arith;
    right = λ i pos l far. go i pos l far (ℕ_discrete i (x / 2));
    above = λ more'.
        rw (
          get_or-set_other T (x / 2) (x / 2 / 2) key 0 (λ q. omega arith),
          get_or-set_other T (x / 2) (brother (x / 2)) key 0 (λ q. omega arith),
        ) (w.right (x / 2 / 2) (omega arith) (omega (arith, w.high)) (λ q. omega arith) ∙ two_children T (x / 2) (omega arith));
  }
    where
      go : (i : ℕ) → 0 < i → i < n → (i ≡ x / 2 / 2 → ⊥) → Dec (i ≡ x / 2) → LeastAt (set T (x / 2) key) i
      go i pos l far (yes q) =
          rw q
          (least_here T (x / 2) key (omega arith) (omega (arith, w.high, w.room)) (omega (arith, two_children T x w.low, w.here, w.above more, w.lower)))
      go i pos l far (no m) = least_elsewhere T (x / 2) key i m far (w.right i pos l m)

  -- The node above holds no more than the key: all nodes are right.
  pub climbing_early : 1 < x → get_or T (x / 2) 0 ≤ key → Keyed n T
  climbing_early more less = record { room = w.room; least = λ i pos l. go i pos l (ℕ_discrete i (x / 2)) }
    where
      go : (i : ℕ) → 0 < i → i < n → Dec (i ≡ x / 2) → LeastAt T i
      go i pos l (yes q) = rw q (omega (arith, two_children T x w.low, w.here, w.above more, w.lower))
      go i pos l (no m) = w.right i pos l m

  -- At the top all nodes are right.
  pub climbing_top : x ≤ 1 → Keyed n T
  climbing_top h = record { room = w.room; least = λ i pos l. w.right i pos l (λ q. omega arith) }

-- ---- a leaf that is emptied
-- Node j stands above node i, on the way from i to the top.
pub data Above : ℕ → ℕ → Type 0 where
  next : {i j : ℕ} → j ≡ i / 2 → Above i j
  later : {i j : ℕ} → Above (i / 2) j → Above i j

-- Nothing but node 0, which is not used, stands above the top.
above_top : {x i : ℕ} → Above x i → x ≤ 1 → i ≡ 0
above_top (next {i = x} {j = i} q) h = omega arith
above_top (later {i = x} a) h = above_top a (omega arith)

-- What stands above x stands right above it, or above what does.
above_split : {x i : ℕ} → Above x i → (i ≡ x / 2) ⊎ Above (x / 2) i
above_split (next q) = inl q
above_split (later a) = inr a

-- On the way up: node x holds `best`, and all nodes that do not stand above it are right.
pub record Mending (n : ℕ) (T₀ T : List ℕ) (x best : ℕ) : Type 0 where
  pub low : 0 < x
  pub high : x < n + n
  pub room : n + n ≤ length T
  pub sized : length T ≡ length T₀
  pub leaves : (c : ℕ) → n ≤ c → get_or T c 0 ≡ get_or T₀ c 0
  pub here : get_or T x 0 ≡ best
  pub right : (i : ℕ) → 0 < i → i < n → (Above x i → ⊥) → LeastAt T i

-- At first the leaf alone has changed.
pub mending_first : {n p key : ℕ} {T : List ℕ} → Keyed n T → p < n → Mending n (set T (n + p) key) (set T (n + p) key) (n + p) key
mending_first {n} {p} {key} {T} k h = record {
  low = omega arith;
  high = omega arith;
  room = omega (arith, k.room, length-set T (n + p) key);
  sized = refl;
  leaves = λ c l. refl;
  here = get_or-set_same T (n + p) key 0 (omega (arith, k.room));
  right = λ i pos l off. least_elsewhere T (n + p) key i (λ q. omega arith) (λ q. off (next q)) (k.least i pos l);
}

module _ {n : ℕ} {T₀ T : List ℕ} {x best : ℕ} (w : Mending n T₀ T x best) where
  -- One node further up.
  pub mending_more : {less : ℕ} → 1 < x → less ≡ min best (get_or T (brother x) 0) → Mending n T₀ (set T (x / 2) less) (x / 2) less
  mending_more {less} more is = record {
    low = omega arith;
    high = omega (arith, w.high);
    room = omega (arith, w.room, length-set T (x / 2) less);
    sized = length-set T (x / 2) less ∙ w.sized;
    leaves = λ c l. get_or-set_other T (x / 2) c less 0 (λ q. omega (arith, w.high)) ∙ w.leaves c l;
    here = get_or-set_same T (x / 2) less 0 (omega (arith, w.high, w.room));
    right = λ i pos l off. go i pos l off (ℕ_discrete i (x / 2));
  }
    where
      go : (i : ℕ) → 0 < i → i < n → (Above (x / 2) i → ⊥) → Dec (i ≡ x / 2) → LeastAt (set T (x / 2) less) i
      go i pos l off (yes q) =
          rw q
          (least_here T (x / 2) less (omega arith) (omega (arith, w.high, w.room)) (omega (arith, two_children T x w.low, w.here)))
      go i pos l off (no m) =
          least_elsewhere T (x / 2) less i m (λ q. off (next q)) (w.right i pos l (λ a. ⊎_elim m off (above_split a)))

  -- At the top all nodes are right.
  pub mending_top : x ≤ 1 → Keyed n T
  mending_top h = record { room = w.room; least = λ i pos l. w.right i pos l (λ a. omega (arith, above_top a h)) }

-- A tree in which, after the store to leaf p, the leaves have stayed is the tree with that leaf changed.
pub changed_of :
    {n p key : ℕ} {T T' : List ℕ} → Keyed n T → p < n → Keyed n T' → length T' ≡ length (set T (n + p) key) →
    ((c : ℕ) → n ≤ c → get_or T' c 0 ≡ get_or (set T (n + p) key) c 0) →
    Changed n T p key T'
changed_of {n} {p} {key} {T} k h k' sized leaves = record {
  keyed = k';
  here = leaves (n + p) (omega arith) ∙ get_or-set_same T (n + p) key 0 (omega (arith, k.room));
  others = λ q far. leaves (n + q) (omega arith) ∙ get_or-set_other T (n + p) (n + q) key 0 (λ e. far (omega arith));
  sized = sized ∙ length-set T (n + p) key;
}

-- ---- the top
module _ {n : ℕ} {T : List ℕ} (k : Keyed n T) where
  -- A node holds no more than its child.
  child_more : (c : ℕ) → 1 < c → c < n + n → get_or T (c / 2) 0 ≤ get_or T c 0
  child_more c more l = omega (arith, k.least (c / 2) (omega arith) (omega arith), two_children T c (omega arith))

  -- So the top holds no more than any node. By a bound m on c, since c / 2 is less than c.
  top_less : (m c : ℕ) → c ≤ m → 0 < c → c < n + n → get_or T 1 0 ≤ get_or T c 0
  top_less zero c h pos l = absurd (omega arith)
  top_less (suc m) c h pos l = go (top_less m) (ℕ_discrete c 1)
    where
      go : ((a : ℕ) → a ≤ m → 0 < a → a < n + n → get_or T 1 0 ≤ get_or T a 0) → Dec (c ≡ 1) → get_or T 1 0 ≤ get_or T c 0
      go up (yes q) = rw q (omega arith)
      go up (no f) = omega (arith, up (c / 2) (omega arith) (omega arith) (omega arith), child_more c (omega arith) l)

  -- The top holds no more than any leaf.
  pub top_least : (p : ℕ) → p < n → get_or T 1 0 ≤ get_or T (n + p) 0
  top_least p h = top_less (n + p) (n + p) (omega arith) (omega arith) (omega arith)

  -- What a node holds, some leaf holds. By a bound m on what is left of the nodes, since 2 c is more than c.
  some_leaf : (m c : ℕ) → n + n ≤ m + c → 0 < c → c < n + n → (p : ℕ) × (p < n) × (get_or T (n + p) 0 ≡ get_or T c 0)
  some_leaf zero c h pos l = absurd (omega arith)
  some_leaf (suc m) c h pos l = go (some_leaf m) (dec_lt c n)
    where
      go :
          ((a : ℕ) → n + n ≤ m + a → 0 < a → a < n + n → (p : ℕ) × (p < n) × (get_or T (n + p) 0 ≡ get_or T a 0)) → Dec (c < n) →
          (p : ℕ) × (p < n) × (get_or T (n + p) 0 ≡ get_or T c 0)
      go down (no f) = let q : n + (c - n) ≡ c = omega arith in (c - n, omega arith, rw q)
      go down (yes f) = pick (down (2 * c) (omega arith) (omega arith) (omega arith)) (down (2 * c + 1) (omega arith) (omega arith) (omega arith)) (dec_lt (get_or T (2 * c) 0) (get_or T (2 * c + 1) 0))
        where
          pick :
              (p : ℕ) × (p < n) × (get_or T (n + p) 0 ≡ get_or T (2 * c) 0) → (p : ℕ) × (p < n) × (get_or T (n + p) 0 ≡ get_or T (2 * c + 1) 0) →
              Dec (get_or T (2 * c) 0 < get_or T (2 * c + 1) 0) →
              (p : ℕ) × (p < n) × (get_or T (n + p) 0 ≡ get_or T c 0)
          pick a b (yes e) = (a.0, a.1, omega (arith, a.2, k.least c pos f))
          pick a b (no e) = (b.0, b.1, omega (arith, b.2, k.least c pos f))

  -- What the top holds, some leaf holds.
  pub top_leaf : 0 < n → (p : ℕ) × (p < n) × (get_or T (n + p) 0 ≡ get_or T 1 0)
  top_leaf some = some_leaf (n + n) 1 (omega arith) (omega arith) (omega arith)
