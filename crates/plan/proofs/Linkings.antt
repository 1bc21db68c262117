-- Starts and neighbours, as linking writes them, turning point by turning point. Assumes nothing.
use Prim.Native.Nat.{ℕ, suc, ◌+◌, ◌-◌, ◌*◌, ◌≤◌, ◌<◌}
use mathlib.Core.Bool.{true}
use mathlib.Core.List.{List, [], ◌∷◌, ◌++◌, append_assoc}
use mathlib.Core.Logic.{◌⊎◌, inl, inr, ⊎_elim}
use mathlib.Core.Path.{◌≡◌, refl, sym, ◌∙◌, ap, ap₂, subst}
use native.Mathlib.Nat.{le_trans}
use native.Mathlib.Omega.{arith}
use lib.ListN.{length, get_or, take, drop, set, length-set, length-append, length-drop, get_or-append}
use lib.Seq.{drop-cons, drop-set-lt, ext_get_or, get_or-take, get_or-drop, get_or-append-add, length-take-le}
use Rattle.ground.specs.Kind.{walkers}
use Rattle.corners.specs.Lists.{part, written}
use Rattle.corners.specs.Corners.{corner_cell, corner_cells}
use Rattle.plan.specs.Rising.{In}
use Rattle.plan.specs.Arcs.{Arcs}
use Rattle.plan.specs.Linking.{Grown, OneLinked, AllLinked}
use Rattle.std.specs.Prelude.{Some, None}
use Rattle.plan.proofs.Insertions.{part_length, spliced_self}
use Rattle.plan.proofs.Risings.{rising_fewer}
use Rattle.corners.proofs.Selects.{written_long, written_more}
use Rattle.plan.proofs.Pickings.{picked_exists, picked_rising, in_picked, rising_picked, select_rising}
use Rattle.plan.proofs.Links.{Row, Built, none, more, built_links, built_grows, built_exists}
use Rattle.plan.proofs.Seens.{linked_dec, corner_entry, seen_linked, linked_seen}

-- ---- what was written, with a part more
module _ (ns list₀ list exit : List ℕ) (k : ℕ) (room : length ns ≤ length list₀) (are : list ≡ written ns list₀)
    (g : Grown list (length ns) (length ns) k exit) (inside : k ≤ length exit) where
  -- the list keeps its length
  as_long : length exit ≡ length list₀
  as_long = g.as_long ∙ ap length are ∙ written_long ns list₀ room

  -- the first entries are those that were written
  first_kept : take (length ns) exit ≡ ns
  first_kept =
      let long = length-take-le (length ns) exit (le_trans g.later inside) in
      ext_get_or 0 _ _ long (λ i l. let m : i < length ns = rw long at l in
      get_or-take (length ns) exit i 0 m ∙ g.before i m ∙ ap (λ (xs : List ℕ). get_or xs i 0) are ∙ get_or-append ns (drop (length ns) list₀) 0 i m)

  -- what was lent stands behind them
  lent_behind : (i : ℕ) → length ns ≤ i → get_or list i 0 ≡ get_or list₀ i 0
  lent_behind i l =
      let e : length ns + (i - length ns) ≡ i = omega arith in
      ap (λ (xs : List ℕ). get_or xs i 0) are ∙ ap (λ (n : ℕ). get_or (written ns list₀) n 0) (sym e)
      ∙ get_or-append-add ns (drop (length ns) list₀) (i - length ns) 0
      ∙ get_or-drop (length ns) list₀ (i - length ns) 0 ∙ ap (λ (n : ℕ). get_or list₀ n 0) e

  -- and the entries beyond are as they were lent
  rest_kept : drop k exit ≡ drop k list₀
  rest_kept =
      ext_get_or 0 _ _ (length-drop k exit ∙ ap (λ (n : ℕ). n - k) as_long ∙ sym (length-drop k list₀))
      (λ i l. get_or-drop k exit i 0 ∙ g.behind (k + i) (omega arith) ∙ lent_behind (k + i) (let m = g.later in omega arith) ∙ sym (get_or-drop k list₀ i 0))

  -- how far the part goes
  pub to_end : length (ns ++ part exit (length ns) k) ≡ k
  to_end = length-append ns _ ∙ (let m = g.later in let p = part_length exit (length ns) k g.later inside in omega arith)

  -- the part stands behind what was written
  pub written_part : exit ≡ written (ns ++ part exit (length ns) k) list₀
  written_part =
      let row = part exit (length ns) k in
      let ends : length ns + length row ≡ k = sym (length-append ns row) ∙ to_end in
      sym (spliced_self exit (length ns) k g.later inside)
      ∙ ap₂ (λ (xs : List ℕ) (n : ℕ). xs ++ (row ++ drop n exit)) first_kept ends
      ∙ ap (λ (xs : List ℕ). ns ++ (row ++ xs)) rest_kept
      ∙ sym (append_assoc ns row (drop k list₀))
      ∙ ap (λ (n : ℕ). (ns ++ row) ++ drop n list₀) (sym to_end)

-- the entry of a turning point is one's cell
pub entry_turns : (w h : ℕ) (words corners : List ℕ) → corners ≡ corner_cells w h words → (i : ℕ) → i < length corners →
    (get_or corners i 0 < w * h) × (corner_cell w h words (get_or corners i 0) ≡ true)
entry_turns w h words corners are i l = rw are (corner_entry w h words i (rw are at l))

module _ (w h : ℕ) (words corners starts₀ list₀ : List ℕ) where
  -- the neighbours of the first i turning points, m of them, are written over the first entries of what was lent, and the starts too
  pub record Linking (starts list : List ℕ) (m i : ℕ) : Type 0 where
    pub in_corners : i ≤ length corners
    pub first_starts : List ℕ
    pub neighbours : List ℕ
    pub built : Built walkers w h words corners i first_starts neighbours
    pub count : m ≡ length neighbours
    pub few : m ≤ 32768
    pub room : m ≤ length list₀
    pub starts_are : starts ≡ written first_starts starts₀
    pub list_are : list ≡ written neighbours list₀

  module _ (are : corners ≡ corner_cells w h words) (starts_room : length corners < length starts₀) where
    -- before the first turning point, where the first start is 0
    pub linking_begin : get_or starts₀ 0 0 ≡ 0 → Linking starts₀ list₀ 0 0
    linking_begin e =
        record {
          in_corners = omega arith;
          first_starts = 0 ∷ [];
          neighbours = [];
          built = none;
          count = refl;
          few = omega arith;
          room = omega arith;
          starts_are = drop-cons starts₀ 0 0 (omega arith) ∙ ap (λ (n : ℕ). n ∷ drop 1 starts₀) e;
          list_are = refl;
        }

    -- what all turning points have is M
    arcs_of_lem : (s ns : List ℕ) → Built walkers w h words corners (length corners) s ns → Arcs w h words (length ns)
    arcs_of_lem s ns b = record { starts = s; neighbours = ns; links = rw are at (built_links walkers w h words corners b); count = refl }

    module _ (starts list : List ℕ) (m i : ℕ) (a : Linking starts list m i) where
      -- there is a start more than turning points
      starts_count : length a.first_starts ≡ suc i
      starts_count = (built_links walkers w h words corners a.built).one_more

      -- the starts are as many as were lent
      pub starts_long : length starts ≡ length starts₀
      starts_long = let l = a.in_corners in let e = starts_count in ap length a.starts_are ∙ written_long a.first_starts starts₀ (omega arith)

      -- and so are the neighbours
      pub list_long : length list ≡ length list₀
      list_long = let l = a.room in let e = a.count in ap length a.list_are ∙ written_long a.neighbours list₀ (omega arith)

      -- after the last turning point, of what was lent before the first start was written
      pub linking_end : (lent : List ℕ) → starts₀ ≡ set lent 0 0 → length corners ≤ i → AllLinked w h words corners lent list₀ m starts list
      linking_end lent first l =
          let k = a.in_corners in
          let e : i ≡ length corners = omega arith in
          let same : length starts₀ ≡ length lent = ap length first ∙ length-set lent 0 0 in
          record {
            starts = a.first_starts;
            neighbours = a.neighbours;
            links = rw (← e) (built_links walkers w h words corners a.built);
            count = sym a.count;
            few = a.few;
            starts_room = let n = starts_count in omega arith;
            room = a.room;
            starts_written =
                a.starts_are ∙ ap (λ (xs : List ℕ). written a.first_starts xs) first
                ∙ ap (λ (xs : List ℕ). a.first_starts ++ xs) (drop-set-lt (length a.first_starts) lent 0 0 (let n = starts_count in omega arith));
            list_written = a.list_are;
          }

      module _ (l : i < length corners) (exit : List ℕ) (k : ℕ) (o : OneLinked w h words (get_or corners i 0) list m (Some k) exit) where
        -- the part written is the turning point's row
        pub row_picked : Row walkers w h words corners i (part exit m k)
        row_picked =
            rising_picked corners (part exit m k) (rw are (select_rising (corner_cell w h words) (w * h))) o.1.rising
            (λ t p. let q = seen_linked w h words (get_or corners i 0) (entry_turns w h words corners are i l).1 t (o.1.seen t p) in (subst (In t) (sym are) q.0, q.1))
            (λ t p q. o.2 t (linked_seen w h words (get_or corners i 0) (entry_turns w h words corners are i l).1 t (subst (In t) are p) q))

        -- after one turning point more
        pub linking_next : Linking (set starts (i + 1) k) exit k (i + 1)
        linking_next =
            let ns = a.neighbours in
            let e : m ≡ length ns = a.count in
            let g : Grown list (length ns) (length ns) k exit = rw e at o.0 in
            let room : length ns ≤ length list₀ = subst (λ (n : ℕ). n ≤ length list₀) e a.room in
            let inside : k ≤ length exit = o.1.inside in
            let long = as_long ns list₀ list exit k room a.list_are g inside in
            let to : length (ns ++ part exit (length ns) k) ≡ k = to_end ns list₀ list exit k room a.list_are g inside in
            let b : Built walkers w h words corners (suc i) (a.first_starts ++ (length (ns ++ part exit (length ns) k) ∷ [])) (ns ++ part exit (length ns) k)
            = more a.built (subst (λ (n : ℕ). Row walkers w h words corners i (part exit n k)) e row_picked) in
            let one : i + 1 ≡ suc i = omega arith in
            record {
              in_corners = omega arith;
              first_starts = a.first_starts ++ (k ∷ []);
              neighbours = ns ++ part exit (length ns) k;
              built = rw one (rw to at b);
              count = sym to;
              few = o.1.few;
              room = rw (← long) inside;
              starts_are = rw (one, ← starts_count, a.starts_are) (written_more a.first_starts starts₀ k (let n = starts_count in omega arith));
              list_are = written_part ns list₀ list exit k room a.list_are g inside;
            }

      -- where there is no room, the neighbours are too many
      pub linking_full : (l : i < length corners) (exit : List ℕ) → OneLinked w h words (get_or corners i 0) list m None exit →
          (n : ℕ) × Arcs w h words n × ((length list₀ < n) ⊎ (32768 < n))
      linking_full l exit o =
          let found = o.0.found in
          let (row, r) = picked_exists (linked_dec w h words (get_or corners i 0)) corners in
          let fewer : length found ≤ length row = rising_fewer found row o.0.rising (picked_rising r (rw are (select_rising (corner_cell w h words) (w * h))))
          (λ t p. let q = seen_linked w h words (get_or corners i 0) (entry_turns w h words corners are i l).1 t (o.0.seen t p) in in_picked r t (subst (In t) (sym are) q.0) q.1) in
          let b : Built walkers w h words corners (suc i) _ (a.neighbours ++ row) = more a.built r in
          let (s, ns, all) = built_exists walkers w h words corners (linked_dec w h words) (length corners) in
          let grows : length (a.neighbours ++ row) ≤ length ns = built_grows walkers w h words corners (suc i) (length corners) _ s _ ns l b all in
          let sum = length-append a.neighbours row in
          let e = a.count in
          let long = list_long in (
            length ns,
            arcs_of_lem s ns all,
            ⊎_elim (λ p. inl (omega arith)) (λ p. inr (omega arith)) o.0.too_many,
          )
