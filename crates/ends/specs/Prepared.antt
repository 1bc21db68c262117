-- A work space made ready for the search: a clean one with the flags of start and goal. These are states of code.
use Rattle.std.specs.Prelude.{ℕ, ◌+◌, ◌*◌, ◌<◌, ◌≤◌, false, List, ◌↔◌, ◌≢◌, ◌≡◌, length, get_or, drop}
use Rattle.floor.specs.Board.{Free}
use Rattle.floor.specs.Words.{Floor, board, place_of}
use Rattle.corners.specs.Corners.{corner_cell}
use Rattle.fields.specs.Fields.{Seen}
use Rattle.plan.specs.Plan.{Lists, Fits}
use Rattle.places.specs.Columns.{column_of, Only}
use Rattle.places.specs.Chart.{chart}
use Rattle.places.specs.declared.Trip.{Trip}
use Rattle.search.specs.Search.{Blank}
use Rattle.chain.specs.Route.{LineClear}
use Rattle.chain.specs.Charted.{Charted}
use Rattle.ends.specs.Flags.{Flag}

-- column c holds nothing
abbrev pub Empty : ℕ → ℕ → List ℕ → Type 0
Empty n c W = (i : ℕ) → get_or (column_of n W c) i 0 ≡ 0

-- the flags of a cell: all corners seen from it where it is none itself, and else none
pub record EndFlags (w h : ℕ) (words corners : List ℕ) (cell n c : ℕ) (W W' : List ℕ) : Type 0 where
  pub only : Only n W c W'
  pub flags : (i : ℕ) → i < length corners → Flag n c W' i ↔ ((corner_cell w h words cell ≡ false) × Seen w h words cell (get_or corners i 0))

module _ (w h : ℕ) (words : List ℕ) (p : Lists) (start goal : ℕ) where
  -- what a search for a trip takes
  pub record Searchable (work : List ℕ) : Type 0 where
    pub floor : Floor w h words
    pub fits : Fits w h words p
    pub start_inside : start < w * h
    pub goal_inside : goal < w * h
    pub start_free : Free (board w h words) (place_of w start)
    pub goal_free : Free (board w h words) (place_of w goal)
    pub differ : start ≢ goal
    pub barred : ¬ (LineClear w h words start goal)
    pub room : 6 * (length p.corners + 2) ≤ length work

-- ready for the search
pub record Prepared (w h : ℕ) (words : List ℕ) (p : Lists) (start goal : ℕ) (t : Trip) (W W' : List ℕ) : Type 0 where
  pub charted : Charted w h words p start goal (chart p.corners p.starts p.neighbours t W')
  pub blank : Blank (t.k + 2) W'
  pub count : t.k ≡ length p.corners
  pub rest : drop (6 * (t.k + 2)) W' ≡ drop (6 * (t.k + 2)) W
  pub sized : length W' ≡ length W
