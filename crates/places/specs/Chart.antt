-- The places of a trip and their links, as they are listed: corners by index, then the start, then the goal.
-- Assumes nothing.
use Rattle.std.specs.Prelude.{◌≡◌, cond, List, Option, Some, None, ℕ, ◌+◌, ◌*◌, ◌-◌, ◌≤◌, ◌<◌, ltb, eqb, length, get_or}
use Rattle.settling.specs.Chains.{Net, wholes}
use Rattle.settling.specs.Order.{Ranking, nearest}
use Rattle.places.specs.declared.Trip.{Trip}
use Rattle.places.specs.Columns.{column_of, ByStart, ByGoal}
use Rattle.places.specs.Places.{index_of, Ascending, cell_at, apart}

-- What a search goes over: the corners' cells; where the neighbours of each corner begin in the list of neighbours, which are cells;
-- which corners are linked to the start and which to the goal (no entry is set for one that is itself a corner); and the trip.
pub record Chart : Type 0 where
  pub corners : List ℕ
  pub starts : List ℕ
  pub neighbours : List ℕ
  pub by_start : List ℕ
  pub by_goal : List ℕ
  pub trip : Trip

-- The chart that lists in memory hold: the flags stand in two columns of the work space.
abbrev pub chart : List ℕ → List ℕ → List ℕ → Trip → List ℕ → Chart
chart C S E t W = record {
  corners = C;
  starts = S;
  neighbours = E;
  by_start = column_of (t.k + 2) W ByStart;
  by_goal = column_of (t.k + 2) W ByGoal;
  trip = t;
}

-- The place where the flag of corner i is set, else none.
unfoldable pub flagged : List ℕ → ℕ → ℕ → Option ℕ
flagged L i place = cond (ltb 0 (get_or L i 0)) (Some place) None

-- The rows of k corners lie one after the other.
pub record Rows (S : List ℕ) (k : ℕ) : Type 0 where
  pub starts : length S ≡ k + 1
  pub rising : (u : ℕ) → u < k → get_or S u 0 ≤ get_or S (u + 1) 0

-- How many neighbours corner u has, by where the rows begin.
unfoldable pub arcs_of : List ℕ → ℕ → ℕ
arcs_of S u = get_or S (u + 1) 0 - get_or S u 0

-- L lists the neighbours of corner u.
pub record NeighboursOf (S E : List ℕ) (u : ℕ) (L : List ℕ) : Type 0 where
  pub count : length L ≡ arcs_of S u
  pub each : (j : ℕ) → j < arcs_of S u → get_or L j 0 ≡ get_or E (get_or S u 0 + j) 0

-- How many links of place u there are to look at: a corner has its neighbours, the start and the goal; start and goal have each corner.
unfoldable pub count_of : List ℕ → ℕ → ℕ → ℕ
count_of S k u = cond (ltb u k) (arcs_of S u + 2) k

module _ (𝓒 : Chart) where
  abbrev pub arcs : ℕ → ℕ
  arcs = arcs_of 𝓒.starts

  abbrev pub link_count : ℕ → ℕ
  link_count = count_of 𝓒.starts 𝓒.trip.k

  -- Link j of corner u: the place that it leads to, or none. First its neighbours, then the start, then the goal.
  unfoldable pub corner_link : ℕ → ℕ → Option ℕ
  corner_link u j =
      cond (ltb j (arcs u)) (Some (index_of 𝓒.corners (get_or 𝓒.neighbours (get_or 𝓒.starts u 0 + j) 0)))
      (cond (eqb j (arcs u)) (flagged 𝓒.by_start u 𝓒.trip.k) (flagged 𝓒.by_goal u (𝓒.trip.k + 1)))

  -- Link j of any place: start and goal are linked to each corner that has their flag.
  unfoldable pub link_at : ℕ → ℕ → Option ℕ
  link_at u j =
      cond (ltb u 𝓒.trip.k) (corner_link u j) (cond (eqb u 𝓒.trip.k) (flagged 𝓒.by_start j j) (flagged 𝓒.by_goal j j))

  abbrev pub cell : ℕ → ℕ
  cell = cell_at 𝓒.corners 𝓒.trip

  -- What is asked of a chart.
  pub record Fair : Type 0 where
    pub corners : length 𝓒.corners ≡ 𝓒.trip.k
    pub few : 𝓒.trip.k ≤ 2048
    pub ascending : Ascending 𝓒.corners
    -- the rows of the corners lie one after the other within the list of neighbours
    pub rows : Rows 𝓒.starts 𝓒.trip.k
    pub within : (u : ℕ) → u ≤ 𝓒.trip.k → get_or 𝓒.starts u 0 ≤ length 𝓒.neighbours
    -- a neighbour is a corner, and another one
    pub known : (j : ℕ) → j < length 𝓒.neighbours → index_of 𝓒.corners (get_or 𝓒.neighbours j 0) < 𝓒.trip.k
    pub other :
        (u j : ℕ) → u < 𝓒.trip.k → get_or 𝓒.starts u 0 ≤ j → j < get_or 𝓒.starts (u + 1) 0 → get_or 𝓒.neighbours j 0 ≡ get_or 𝓒.corners u 0 → ⊥
    -- cells are on a floor no wider and no higher than 255, which has no more than 16,384 of them
    pub some_width : 0 < 𝓒.trip.w
    pub width : 𝓒.trip.w ≤ 255
    pub cells : (i : ℕ) → i < 𝓒.trip.k + 2 → cell i < 255 * 𝓒.trip.w
    pub small : (i : ℕ) → i < 𝓒.trip.k + 2 → cell i < 16384
    -- the start has its own place only where it is no corner, and else has no flags; the same for the goal; and the two differ
    pub from : 𝓒.trip.from ≤ 𝓒.trip.k
    pub to : 𝓒.trip.to < 𝓒.trip.k + 2
    pub start_new : 𝓒.trip.from ≡ 𝓒.trip.k → (i : ℕ) → i < 𝓒.trip.k → get_or 𝓒.corners i 0 ≡ 𝓒.trip.start → ⊥
    pub goal_new : 𝓒.trip.to ≡ 𝓒.trip.k + 1 → (i : ℕ) → i < 𝓒.trip.k → get_or 𝓒.corners i 0 ≡ 𝓒.trip.goal → ⊥
    pub start_flags : (i : ℕ) → i < 𝓒.trip.k → 0 < get_or 𝓒.by_start i 0 → 𝓒.trip.from ≡ 𝓒.trip.k
    pub goal_flags : (i : ℕ) → i < 𝓒.trip.k → 0 < get_or 𝓒.by_goal i 0 → 𝓒.trip.to ≡ 𝓒.trip.k + 1
    pub differ : 𝓒.trip.start ≡ 𝓒.trip.goal → ⊥

-- The net: a link leads from u to v where one of u's links does, and is as long as the two cells are apart.
abbrev pub net : Chart → Net wholes
net 𝓒 = record {
  start = 𝓒.trip.from;
  Link = λ u v. (j : ℕ) × (j < link_count 𝓒 u) × (link_at 𝓒 u j ≡ Some v);
  weight = λ u v. apart 𝓒.trip.w (cell 𝓒 u) (cell 𝓒 v);
}

-- The nearest goes first, and of equal lengths the smaller cell number.
abbrev pub order : Chart → Ranking wholes
order 𝓒 = nearest wholes (cell 𝓒)

-- What the search needs: a fair chart, and room for the columns.
pub record Ready (C S E : List ℕ) (t : Trip) (W : List ℕ) : Type 0 where
  pub fair : Fair (chart C S E t W)
  pub room : 6 * (t.k + 2) ≤ length W
