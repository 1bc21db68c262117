-- The route of a trip is a legal walk from start to goal of the shortest length.
-- Assumes nothing.
use Prim.Native.Nat.{ℕ, suc, ◌+◌, ◌*◌, ◌<◌}
use mathlib.Core.Path.{◌≡◌, refl, sym, ◌∙◌, ap, subst}
use mathlib.Core.List.{List, [], ◌∷◌, ◌++◌, append-nil, append_assoc}
use mathlib.Core.Logic.{inl, inr, ⊎_elim}
use native.Mathlib.Omega.{arith}
use lib.ListN.{length}
use Rattle.lengths.specs.Lengths.{Len, 𝟎, ◌⊕◌}
use Rattle.lengths.specs.Laws.{𝟎_least}
use Rattle.floor.specs.Board.{Place, Dir, go}
use Rattle.floor.specs.Words.{board, place_of, cell_of}
use Rattle.ground.specs.Kind.{walkers}
use Rattle.ground.specs.Walk.{end, Legal, Walk, len}
use Rattle.ground.specs.Line.{line}
use Rattle.ground.proofs.Axes.{counts}
use Rattle.ground.proofs.Numbers.{number_of_cell, within, free_cell}
use Rattle.ground.proofs.Walks.{start_free, walk_append, shortest_unique}
use Rattle.ground.proofs.Lines.{direct_line}
use Rattle.ground.proofs.LineEnds.{line_end, line_len}
use Rattle.ground.proofs.Least.{line_shortest}
use Rattle.plan.specs.Rising.{In}
use Rattle.effort.specs.Effort.{Far}
use Rattle.effort.specs.Net.{Startable}
use Rattle.line.specs.Cells.{after, legs}
use Rattle.line.proofs.Legs.{after_length, after_append}
use Rattle.chain.specs.Route.{ChainTo, here, back, RouteOf, cells_of}

-- one place more in a chain adds the leg to it
pub legs_snoc :
    (w : ℕ) (front : List ℕ) (u v : ℕ) →
    legs w ((front ++ (u ∷ [])) ++ (v ∷ []))
    ≡ legs w (front ++ (u ∷ [])) ++ after w (place_of w u) (line (place_of w u) (place_of w v))
legs_snoc w [] u v = append-nil (after w (place_of w u) (line (place_of w u) (place_of w v)))
legs_snoc w (a ∷ []) u v =
    let leg = after w (place_of w a) (line (place_of w a) (place_of w u)) in
    ap (λ (cs : List ℕ). leg ++ cs) (legs_snoc w [] u v)
    ∙ sym (append_assoc leg [] (after w (place_of w u) (line (place_of w u) (place_of w v))))
legs_snoc w (a ∷ b ∷ front) u v =
    let leg = after w (place_of w a) (line (place_of w a) (place_of w b)) in
    ap (λ (cs : List ℕ). leg ++ cs) (legs_snoc w (b ∷ front) u v)
    ∙ sym (append_assoc leg (legs w (b ∷ (front ++ (u ∷ [])))) (after w (place_of w u) (line (place_of w u) (place_of w v))))

-- a walk comes last to the cell at its end
pub after_last : (w : ℕ) (p : Place) (ds : List Dir) → (front : List ℕ) × (cell_of w p ∷ after w p ds ≡ front ++ (cell_of w (end p ds) ∷ []))
after_last w p [] = ([], refl)
after_last w p (d ∷ ds) =
    let (front, e) = after_last w (go d p) ds in
    (cell_of w p ∷ front, ap (λ (cs : List ℕ). cell_of w p ∷ cs) e)

module _ (w h : ℕ) (words : List ℕ) where
  -- a legal walk comes to cells of the floor only
  pub after_inside : (p : Place) (ds : List Dir) → Legal walkers (board w h words) p ds → (c : ℕ) → In c (after w p ds) → c < w * h
  after_inside p [] l c i = absurd i
  after_inside p (d ∷ ds) l c (inl e) =
      subst (λ (x : ℕ). x < w * h) (sym e) (free_cell (within w h words) (go d p) (start_free walkers (board w h words) (go d p) ds l.2))
  after_inside p (d ∷ ds) l c (inr i) = after_inside (go d p) ds l.2 c i

module _ (w h : ℕ) (words : List ℕ) (start goal : ℕ) where
  -- a chain to v lists v last
  pub chain_ends : {v : ℕ} {places : List ℕ} → ChainTo w h words start goal v places → (front : List ℕ) × (places ≡ front ++ (v ∷ []))
  chain_ends here = ([], refl)
  chain_ends (back {places = places} n b c) = (places, refl)

module _ (w h : ℕ) (words : List ℕ) (start goal : ℕ) (trip : Startable w h words start goal) where
  -- the start is no steps away
  pub start_near : {l : Len} → Far w h words start start l → 𝟎 ≡ l
  start_near f = shortest_unique (record { some = ([], (trip.start_free, refl), refl); least = λ ds a. 𝟎_least (len ds) }) f

  -- The legs of a chain to v are a walk to v of the shortest length.
  pub chain_legal :
      {v : ℕ} {places : List ℕ} → ChainTo w h words start goal v places → {l : Len} → Far w h words start v l →
      (ds : List Dir)
      × Walk walkers (board w h words) (place_of w start) (place_of w v) ds
      × (len ds ≡ l)
      × (legs w places ≡ after w (place_of w start) ds)
  chain_legal here f = ([], (trip.start_free, refl), start_near f, refl)
  chain_legal (back {v = v} {u = u} {places = places} n b c) {l} f =
      let (ds, a, e, k) = chain_legal c b.precedes.far in
      let leg = line (place_of w u) (place_of w v) in
      let (d, q) = direct_line (within w h words).padded (place_of w u) (place_of w v) b.precedes.joined.direct in
      let both = walk_append walkers (board w h words) (place_of w start) (place_of w u) (place_of w v) ds leg a d in
      let (front, whole) = chain_ends w h words start goal c in (
        ds ++ leg,
        both.0,
        both.1 ∙ ap (λ (x : Len). x ⊕ len leg) e ∙ ap (λ (x : Len). b.nearer ⊕ x) q ∙ b.precedes.sum ∙ shortest_unique b.shortest f,
        ap (λ (ps : List ℕ). legs w (ps ++ (v ∷ []))) whole
            ∙ legs_snoc w front u v
            ∙ ap (λ (ps : List ℕ). legs w ps ++ after w (place_of w u) leg) (sym whole)
            ∙ ap (λ (cs : List ℕ). cs ++ after w (place_of w u) leg) k
            ∙ ap (λ (p : Place). after w (place_of w start) ds ++ after w p leg) (sym a.1)
            ∙ sym (after_append w (place_of w start) ds leg),
      )

  -- The route is legal, ends at the goal and has the shortest length.
  pub route_legal :
      {cells : List ℕ} → RouteOf w h words start goal cells → (l : Len) → Far w h words start goal l →
      (ds : List Dir)
      × Walk walkers (board w h words) (place_of w start) (place_of w goal) ds
      × (len ds ≡ l)
      × (cells ≡ start ∷ after w (place_of w start) ds)
  route_legal (inl (clear, e)) l f =
      let s = place_of w start in
      let t = place_of w goal in
      (line s t, (clear, line_end s t), line_len s t ∙ shortest_unique (line_shortest (board w h words) s t clear) f, e)
  route_legal (inr r) l f =
      let (ds, a, e, k) = chain_legal r.chain f in
      (ds, a, e, r.walked ∙ ap (λ (cs : List ℕ). start ∷ cs) k)

  -- It has as many cells as its length says.
  pub route_cells_lem : {cells : List ℕ} → RouteOf w h words start goal cells → (l : Len) → Far w h words start goal l → length cells ≡ cells_of l
  route_cells_lem r l f =
      let (ds, a, e, k) = route_legal r l f in
      ap length k
      ∙ ap suc (after_length w (place_of w start) ds ∙ sym (counts ds).steps ∙ ap (λ (x : Len). x.straight + x.diagonal) e)
      ∙ omega arith

  -- It lists the goal last.
  pub route_ends :
      {cells : List ℕ} → RouteOf w h words start goal cells → (l : Len) → Far w h words start goal l →
      (front : List ℕ) × (cells ≡ front ++ (goal ∷ []))
  route_ends r l f =
      let (ds, a, e, k) = route_legal r l f in
      let (front, q) = after_last w (place_of w start) ds in (
        front,
        k
            ∙ ap (λ (c : ℕ). c ∷ after w (place_of w start) ds) (sym (number_of_cell w start))
            ∙ q
            ∙ ap (λ (p : Place). front ++ (cell_of w p ∷ [])) a.1
            ∙ ap (λ (c : ℕ). front ++ (c ∷ [])) (number_of_cell w goal),
      )

  -- It lists cells of the floor only.
  pub route_inside :
      {cells : List ℕ} → RouteOf w h words start goal cells → (l : Len) → Far w h words start goal l → (c : ℕ) → In c cells → c < w * h
  route_inside r l f c i =
      let (ds, a, e, k) = route_legal r l f in
      ⊎_elim (λ q. subst (λ (x : ℕ). x < w * h) (sym q) trip.start_inside) (after_inside w h words (place_of w start) ds a.0 c)
      (subst (In c) k i)
