-- The route written leg by leg along the column NEXT. Assumes nothing.
use Prim.Native.Nat.{ℕ, suc, ◌+◌, ◌/◌, ◌%◌, ◌≤◌, ◌<◌}
use mathlib.Core.List.{List, [], ◌∷◌, ◌++◌}
use mathlib.Core.Logic.{inr, ◌≢◌}
use mathlib.Core.Path.{◌≡◌, refl, sym, ◌∙◌, ap, subst}
use native.Mathlib.Omega.{arith}
use lib.ListN.{length, get_or, take, drop, set, length-append, take-append-drop}
use lib.Seq.{take-suc-set, drop-set-lt}
use Rattle.lengths.specs.Lengths.{len_of}
use Rattle.lengths.specs.declared.Length.{Length}
use Rattle.floor.specs.Words.{place_of}
use Rattle.ground.specs.Line.{line}
use Rattle.corners.specs.Lists.{written}
use Rattle.places.specs.declared.Trip.{Trip}
use Rattle.places.specs.Columns.{column_of, Label, Next}
use Rattle.places.specs.Places.{cell_at}
use Rattle.line.specs.Cells.{after, legs, steps, Cell, LineWritten}
use Rattle.chain.specs.Route.{RouteOf, cells_of}
use Rattle.chain.specs.Chain.{Journey, Walked, LeadsAlong, there, on, cells_at, Linked, Paved}
use Rattle.chain.proofs.Legal.{route_cells_lem}
use Rattle.line.proofs.Legs.{line_cells, legs_next}
use Rattle.line.proofs.Runs.{cell_of_lem}
use Rattle.chain.proofs.Places.{trip, cell_place}

-- ---- along the column
module _ {D N : List ℕ} {to : ℕ} where
  -- no place on the way has a greater entry than the last
  pub along_low : {v : ℕ} {rest : List ℕ} → LeadsAlong D N to v rest → get_or D v 0 ≤ get_or D to 0
  along_low there = omega arith
  along_low (on h e l r) = let m = along_low r in omega arith

  -- the way begins where it begins
  along_head : {v : ℕ} {rest : List ℕ} → LeadsAlong D N to v rest → (tail : List ℕ) × (rest ≡ v ∷ tail)
  along_head there = ([], refl)
  along_head (on {rest = rest} h e l r) = (rest, refl)

  -- at its end it is at an end
  along_end : {v : ℕ} {rest : List ℕ} → v ≡ to → LeadsAlong D N to v rest → rest ≡ v ∷ []
  along_end e there = refl
  along_end {v} e (on h q l r) = let m = along_low r in let z = ap (λ (i : ℕ). get_or D i 0) e in absurd (omega arith)

  -- elsewhere the column has an entry
  pub along_entry : {v : ℕ} {rest : List ℕ} → v ≢ to → LeadsAlong D N to v rest → (v < length N) × (0 < get_or N v 0)
  along_entry n there = absurd (n refl)
  along_entry n (on h e l r) = (h, omega arith)

  -- which is one more than the next place, whose entry in D is greater.
  pub along_next : {v : ℕ} {rest : List ℕ} (u : ℕ) → v ≢ to → get_or N v 0 ≡ u + 1 → LeadsAlong D N to v rest →
      (get_or D v 0 < get_or D u 0) × ((tail : List ℕ) × (rest ≡ v ∷ u ∷ tail) × LeadsAlong D N to u (u ∷ tail))
  along_next u n q there = absurd (n refl)
  along_next {v} u n q (on {u = x} {rest = rest} h e l r) =
      let s : x ≡ u = omega arith in
      let (tail, z) = along_head r in
      let r' : LeadsAlong D N to u (u ∷ tail) = subst (λ (i : ℕ). LeadsAlong D N to i (i ∷ tail)) s (subst (LeadsAlong D N to x) z r) in (
        subst (λ (i : ℕ). get_or D v 0 < get_or D i 0) s l,
        (tail, ap (λ (y : List ℕ). v ∷ y) z ∙ ap (λ (i : ℕ). v ∷ i ∷ tail) s, r'),
      )

-- ---- the legs written
-- how many entries the route takes
abbrev pub size : List ℕ → Trip → List ℕ → ℕ
size C t places = suc (length (legs t.w (cells_at C t places)))

-- Between the turns: with the legs of the places from v on written, the list will be as it has to be.
pub record Paving (C : List ℕ) (t : Trip) (W route₀ places : List ℕ) (v next : ℕ) (route : List ℕ) : Type 0 where
  pub rest : List ℕ
  pub along : LeadsAlong (column_of (t.k + 2) W Label) (column_of (t.k + 2) W Next) t.to v rest
  pub left : next + length (legs t.w (cells_at C t rest)) ≡ size C t places
  pub whole :
      take next route ++ (legs t.w (cells_at C t rest) ++ drop (size C t places) route)
      ≡ take 1 route₀ ++ (legs t.w (cells_at C t places) ++ drop (size C t places) route₀)

module _ {C : List ℕ} {t : Trip} {W places : List ℕ} where
  -- at first all legs are left
  pub paving_none : (route : List ℕ) {room : ℕ} → Paved C t W room places → Paving C t W route places t.from 1 route
  paving_none route p = record { rest = places; along = p.along; left = omega arith; whole = refl }

  module _ {route₀ : List ℕ} {v next : ℕ} {route : List ℕ} (p : Paving C t W route₀ places v next route) where
    module _ (u : ℕ) (other : v ≢ t.to) (entry : get_or (column_of (t.k + 2) W Next) v 0 ≡ u + 1) where
      -- the leg has room
      pub leg_room : next + steps (place_of t.w (cell_at C t v)) (place_of t.w (cell_at C t u)) ≤ size C t places
      leg_room =
          let (l, (tail, e, r)) = along_next u other entry p.along in
          let s = place_of t.w (cell_at C t v) in
          let d = place_of t.w (cell_at C t u) in
          let q =
          ap (λ (ps : List ℕ). length (legs t.w (cells_at C t ps))) e
          ∙ length-append (after t.w s (line s d)) (legs t.w (cell_at C t u ∷ cells_at C t tail)) in
          let m = line_cells t.w s d in
          let z = p.left in
          omega arith

      -- written, it leaves the others
      pub paving_next : {r : ℕ} {route' : List ℕ} →
          LineWritten t.w (place_of t.w (cell_at C t v)) (place_of t.w (cell_at C t u)) route next r route' → size C t places ≤ length route →
          Paving C t W route₀ places u r route'
      paving_next {r} {route'} done room =
          let (l, (tail, e, along)) = along_next u other entry p.along in
          let s = place_of t.w (cell_at C t v) in
          let d = place_of t.w (cell_at C t u) in
          let q =
          ap (λ (ps : List ℕ). length (legs t.w (cells_at C t ps))) e
          ∙ length-append (after t.w s (line s d)) (legs t.w (cell_at C t u ∷ cells_at C t tail)) in
          let m = line_cells t.w s d in
          let n = done.next in
          let z = p.left in
          let k = leg_room in
          record {
            rest = u ∷ tail;
            along = along;
            left = omega arith;
            whole =
                legs_next t.w (cell_at C t v) (cell_at C t u) (cells_at C t tail) route route' next r (size C t places) done (omega arith) (omega arith)
                ∙ ap (λ (ps : List ℕ). take next route ++ (legs t.w (cells_at C t ps) ++ drop (size C t places) route)) (sym e)
                ∙ p.whole;
          }

    -- at the goal the list is as it has to be
    pub paving_done : v ≡ t.to → route ≡ take 1 route₀ ++ (legs t.w (cells_at C t places) ++ drop (size C t places) route₀)
    paving_done e =
        let q : legs t.w (cells_at C t p.rest) ≡ [] = ap (λ (ps : List ℕ). legs t.w (cells_at C t ps)) (along_end e p.along) in
        let m : next ≡ size C t places = let z = p.left in let y = ap length q in omega arith in
        sym (take-append-drop (size C t places) route)
        ∙ ap (λ (n : ℕ). take n route ++ drop (size C t places) route) (sym m)
        ∙ ap (λ (cs : List ℕ). take next route ++ (cs ++ drop (size C t places) route)) (sym q)
        ∙ p.whole

-- the start's cell was written first
pub start_written : (C : List ℕ) (t : Trip) (places entry : List ℕ) → 0 < length entry →
    take 1 (set entry 0 t.start) ++ (legs t.w (cells_at C t places) ++ drop (size C t places) (set entry 0 t.start))
    ≡ written (t.start ∷ legs t.w (cells_at C t places)) entry
start_written C t places entry some =
    ap (λ (l : List ℕ). l ++ (legs t.w (cells_at C t places) ++ drop (size C t places) (set entry 0 t.start))) (take-suc-set entry 0 t.start some)
    ∙ ap (λ (l : List ℕ). t.start ∷ (legs t.w (cells_at C t places) ++ l)) (drop-set-lt (size C t places) entry 0 t.start (omega arith))

-- ---- what the search and the chain give
module _ {a : Journey} {C S E : List ℕ} {t : Trip} {W : List ℕ} (k : Walked a C S E t W) {r : Length} (l : Linked a C t W r) where
  -- the cells written along the chain are the route
  pub linked_route :
      RouteOf a.w a.h a.words a.start a.goal (t.start ∷ legs t.w (cells_at C t l.places))
  linked_route =
      subst (λ (x : ℕ). RouteOf a.w a.h a.words a.start a.goal (x ∷ legs t.w (cells_at C t l.places))) (sym k.charted.start_cell)
      (subst (λ (x : ℕ). RouteOf a.w a.h a.words a.start a.goal (a.start ∷ legs x (cells_at C t l.places))) (sym k.charted.width)
      (inr (record { barred = k.charted.barred; places = cells_at C t l.places; chain = l.chain; walked = refl })))

  -- and a list with room for the length's cells is enough for it
  pub linked_paved : (room : ℕ) → cells_of (len_of r) ≤ room → Paved C t W room l.places
  linked_paved room fits =
      let many = route_cells_lem a.w a.h a.words a.start a.goal (trip k.charted) linked_route (len_of r) l.shortest in
      record {
        corners = k.ready.fair.corners;
        few = k.ready.fair.few;
        columns = k.ready.room;
        along = l.along;
        start =
            let s = k.charted.start_cell in
            let i = k.charted.start_inside in
            let f = (trip k.charted).few_cells in
            omega arith;
        cells = λ i.
            subst (λ (x : ℕ). Cell x (cell_at C t i % x) (cell_at C t i / x)) (sym k.charted.width)
            (cell_of_lem a.w a.h (cell_at C t i) (trip k.charted).few_cells (cell_place k.charted i).inside);
        room = omega arith;
      }
