-- The places of a trip as a net on cell numbers, whose links are what Definition 2 joins: the net that a search settles (crate `settling`).
-- Its lengths are whole numbers, which order the floor's lengths exactly where these have fewer than 80,782 diagonal steps.
-- Assumes nothing.
use Rattle.std.specs.Prelude.{ℕ, ◌*◌, ◌<◌, ◌≤◌, List, ◌≢◌, ◌≡◌}
use Rattle.lengths.specs.Lengths.{Len, ◌⊕◌}
use Rattle.lengths.specs.Laws.{weight}
use Rattle.floor.specs.Board.{Free}
use Rattle.floor.specs.Words.{board, place_of}
use Rattle.ground.specs.Kind.{walkers, octile}
use Rattle.ground.specs.Link.{Direct}
use Rattle.settling.specs.Chains.{Net, wholes}
use Rattle.settling.specs.Order.{Ranking, nearest}
use Rattle.effort.specs.Effort.{PlaceCell, Far}

-- the nearest goes first, and of equal lengths the smaller cell number
abbrev pub by_cell : Ranking wholes
by_cell = nearest wholes (λ c. c)

-- the weight of what two cells are apart
abbrev pub apart : ℕ → ℕ → ℕ → ℕ
apart w u v = weight (octile (place_of w u) (place_of w v))

module _ (w h : ℕ) (words : List ℕ) (start goal : ℕ) where
  -- a trip can be started: a floor of at most 16,384 cells, two cells of it, and the start free
  pub record Startable : Type 0 where
    pub few_cells : w * h ≤ 16384
    pub start_inside : start < w * h
    pub goal_inside : goal < w * h
    pub start_free : Free (board w h words) (place_of w start)

  -- two different places that are joined as Definition 2 says
  pub record Joined (u v : ℕ) : Type 0 where
    pub from : PlaceCell w h words start goal u
    pub to : PlaceCell w h words start goal v
    pub two : u ≢ v
    pub direct : Direct walkers (board w h words) (place_of w u) (place_of w v)

  -- the net of a trip
  abbrev pub net_of : Net wholes
  net_of = record { start = start; Link = Joined; weight = apart w }

  -- u is joined to v, m is its own shortest length, and m with what the two are apart is l: where l is v's shortest length, u stands right
  -- before v on a shortest walk
  pub record Precedes (v : ℕ) (l : Len) (u : ℕ) (m : Len) : Type 0 where
    pub joined : Joined u v
    pub far : Far w h words start u m
    pub sum : m ⊕ octile (place_of w u) (place_of w v) ≡ l
