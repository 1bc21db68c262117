-- The chain of places back from a settled goal, and the column that leads along it.
-- Assumes nothing.
use Rattle.std.specs.Prelude.{ℕ, ◌+◌, ◌*◌, ◌-◌, ◌/◌, ◌%◌, ◌≤◌, ◌<◌, true, List, [], ◌∷◌, Option, Some, ◌⊎◌, ◌≡◌, length, get_or}
use Rattle.lengths.specs.Lengths.{len_of}
use Rattle.lengths.specs.declared.Length.{Length}
use Rattle.plan.specs.Plan.{Lists}
use Rattle.settling.specs.Labels.{Sound}
use Rattle.effort.specs.Effort.{Far}
use Rattle.places.specs.declared.Trip.{Trip}
use Rattle.places.specs.Columns.{column_of, Label, Settled, Next}
use Rattle.places.specs.Places.{cell_at, apart}
use Rattle.places.specs.Chart.{chart, net, order, Ready}
use Rattle.search.specs.Search.{labels_of}
use Rattle.line.specs.Cells.{legs, Cell}
use Rattle.chain.specs.Route.{Before, ChainTo}
use Rattle.chain.specs.Charted.{Charted}

-- what a trip is over: a floor, its plan, and start and goal by cell number
pub record Journey : Type 0 where
  pub w : ℕ
  pub h : ℕ
  pub words : List ℕ
  pub plan : Lists
  pub start : ℕ
  pub goal : ℕ

-- the search over a chart of the journey has settled the goal
pub record Walked (a : Journey) (C S E : List ℕ) (t : Trip) (W : List ℕ) : Type 0 where
  pub ready : Ready C S E t W
  pub charted : Charted a.w a.h a.words a.plan a.start a.goal (chart C S E t W)
  pub sound : Sound (net (chart C S E t W)) (order (chart C S E t W)) (labels_of (t.k + 2) W)
  pub found : (labels_of (t.k + 2) W).settled t.to ≡ true

-- the label of a place, plus one
abbrev pub label_at : Trip → List ℕ → ℕ → ℕ
label_at t W v = get_or (column_of (t.k + 2) W Label) v 0

-- more than 0 for a settled place
abbrev pub settled_at : Trip → List ℕ → ℕ → ℕ
settled_at t W v = get_or (column_of (t.k + 2) W Settled) v 0

-- a link to place u leads to v on a shortest walk: u is settled, and its label and the leg make v's label
pub record LeadsTo (C : List ℕ) (t : Trip) (W : List ℕ) (v u : ℕ) : Type 0 where
  pub settled : 0 < settled_at t W u
  pub adds : label_at t W u + apart t.w (cell_at C t u) (cell_at C t v) ≡ label_at t W v

-- r is the one of two places with the lesser cell number; the first may be none
pub record Lesser (C : List ℕ) (t : Trip) (a : Option ℕ) (b r : ℕ) : Type 0 where
  pub one_of : (a ≡ Some r) ⊎ (r ≡ b)
  pub first : (x : ℕ) → a ≡ Some x → cell_at C t r ≤ cell_at C t x
  pub second : cell_at C t r ≤ cell_at C t b

-- v is a settled place no further than the goal
pub record Reached (t : Trip) (W : List ℕ) (v : ℕ) : Type 0 where
  pub settled : 0 < settled_at t W v
  pub near : label_at t W v ≤ label_at t W t.to

-- r is the place before v on the route, linked to v, settled and nearer than v
pub record Prior (a : Journey) (C S E : List ℕ) (t : Trip) (W : List ℕ) (v r : ℕ) : Type 0 where
  pub inside : r < t.k + 2
  pub linked : (net (chart C S E t W)).Link v r
  pub settled : 0 < settled_at t W r
  pub nearer : label_at t W r < label_at t W v
  pub before : Before a.w a.h a.words a.start a.goal (cell_at C t v) (cell_at C t r)

-- N leads from a place to the place `to` along a list of places: at each but the last it has one more than the next, whose entry in D is
-- greater
pub data LeadsAlong (D N : List ℕ) (to : ℕ) : ℕ → List ℕ → Type 0 where
  there : LeadsAlong D N to to (to ∷ [])
  on : {v u : ℕ} {rest : List ℕ} →
      v < length N → get_or N v 0 ≡ u + 1 → get_or D v 0 < get_or D u 0 → LeadsAlong D N to u rest → LeadsAlong D N to v (v ∷ rest)

-- the column NEXT of a work space leads from the start's place to the goal's
abbrev pub NextAlong : Trip → List ℕ → List ℕ → Type 0
NextAlong t W = LeadsAlong (column_of (t.k + 2) W Label) (column_of (t.k + 2) W Next) t.to t.from

-- the cells of a list of places
abbrev pub cells_at : List ℕ → Trip → List ℕ → List ℕ
cells_at C t [] = []
cells_at C t (i ∷ is) = cell_at C t i ∷ cells_at C t is

-- the column NEXT leads along the chain back from the goal, whose legs make the length r, the shortest
pub record Linked (a : Journey) (C : List ℕ) (t : Trip) (W : List ℕ) (r : Length) : Type 0 where
  pub places : List ℕ
  pub along : NextAlong t W places
  pub chain : ChainTo a.w a.h a.words a.start a.goal a.goal (cells_at C t places)
  pub shortest : Far a.w a.h a.words a.start a.goal (len_of r)

-- the column NEXT leads along these places, whose cells are of a floor with at most 16,384 cells, and a list of this size has room for the
-- start and all legs
pub record Paved (C : List ℕ) (t : Trip) (W : List ℕ) (size : ℕ) (places : List ℕ) : Type 0 where
  pub corners : length C ≡ t.k
  pub few : t.k ≤ 2048
  pub columns : 6 * (t.k + 2) ≤ length W
  pub along : NextAlong t W places
  pub start : t.start < 65536
  pub cells : (i : ℕ) → Cell t.w (cell_at C t i % t.w) (cell_at C t i / t.w)
  pub room : length (legs t.w (cells_at C t places)) < size
