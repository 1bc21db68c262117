-- What a query that is done has written: a legal walk from start to goal, as short as any.
-- Assumes nothing.
use Prim.Native.Nat.{ℕ, ◌*◌, ◌<◌}
use mathlib.Core.Path.{◌≡◌, sym, ◌∙◌, ap, subst}
use mathlib.Core.List.{List, [], ◌∷◌, ◌++◌}
use mathlib.Core.Logic.{inl}
use native.Mathlib.Nat.{le_of_eq, le_trans}
use lib.ListN.{length}
use Rattle.lengths.specs.Lengths.{Len, pair, ◌≼◌}
use Rattle.lengths.specs.Laws.{same_pair}
use Rattle.floor.specs.Board.{Dir}
use Rattle.floor.specs.Words.{board, place_of}
use Rattle.ground.specs.Kind.{walkers}
use Rattle.ground.specs.Walk.{Walk, len}
use Rattle.corners.specs.Lists.{written}
use Rattle.corners.proofs.Selects.{written_long}
use Rattle.plan.specs.Rising.{In}
use Rattle.effort.specs.Net.{Startable}
use Rattle.line.specs.Cells.{after}
use Rattle.chain.specs.Route.{cells_of}
use Rattle.chain.proofs.Legal.{route_legal, route_cells_lem, route_ends, route_inside}
use Rattle.answering.specs.Asked.{Asked, cell_of_start, cell_of_goal}
use Rattle.telling.specs.declared.Answer.{Answer}
use Rattle.query.specs.Query.{QueryOutcome}
use Rattle.query.proofs.Passed.{Passed, passed, trip_passed, done_room}

module _ (a : Asked) where
  -- the route list holds the cells of a shortest walk, as many and as long as the answer says, and keeps its length
  pub record Walked (r : Answer) (route : List ℕ) : Type 0 where
    pub steps : List Dir
    pub walk : Walk walkers (board a.w a.h a.words) (place_of a.w (cell_of_start a)) (place_of a.w (cell_of_goal a)) steps
    pub long : len steps ≡ pair r.straight r.diagonal
    pub shortest : (ds : List Dir) →
        Walk walkers (board a.w a.h a.words) (place_of a.w (cell_of_start a)) (place_of a.w (cell_of_goal a)) ds → len steps ≼ len ds
    pub cells : List ℕ
    pub visited : cells ≡ cell_of_start a ∷ after a.w (place_of a.w (cell_of_start a)) steps
    pub ends : (front : List ℕ) × (cells ≡ front ++ (cell_of_goal a ∷ []))
    pub inside : (c : ℕ) → In c cells → c < a.w * a.h
    pub counted : length cells ≡ r.cells
    pub there : route ≡ written cells a.route
    pub same_room : length route ≡ length a.route

  -- A query that is done has written a legal walk from start to goal, as short as any, and its answer says its length and its cells.
  pub query_walked : {r : Answer} {route work : List ℕ} → QueryOutcome a r route work → r.code ≡ 0 → Walked r route
  query_walked {r} {route} o z =
      let f = o.found (inl z) in
      let v = o.route_written z in
      let (ds, w, e, k) = route_legal a.w a.h a.words (cell_of_start a) (cell_of_goal a) trip v.is_route f.far f.shortest in
      let n : length v.cells ≡ cells_of f.far =
      route_cells_lem a.w a.h a.words (cell_of_start a) (cell_of_goal a) trip v.is_route f.far f.shortest in
      record {
        steps = ds;
        walk = w;
        long = e ∙ same_pair (sym f.straight) (sym f.diagonal);
        shortest = λ ws x. subst (λ (l : Len). l ≼ len ws) (sym e) (f.shortest.least ws x);
        cells = v.cells;
        visited = k;
        ends = route_ends a.w a.h a.words (cell_of_start a) (cell_of_goal a) trip v.is_route f.far f.shortest;
        inside = route_inside a.w a.h a.words (cell_of_start a) (cell_of_goal a) trip v.is_route f.far f.shortest;
        counted = n ∙ sym f.cells;
        there = v.there;
        same_room =
            ap length v.there
            ∙ written_long v.cells a.route (le_trans (le_of_eq n) (done_room a clear z f.far f.shortest));
      }
    where
      clear : Passed a r.code
      clear = passed a r.code o.number (inl z)

      trip : Startable a.w a.h a.words (cell_of_start a) (cell_of_goal a)
      trip = trip_passed a clear
