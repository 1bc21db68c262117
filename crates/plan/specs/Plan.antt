-- The plan of a floor (01, "Turning points, clearances, links"): clearances, turning points, starts and neighbours.
use Rattle.std.specs.Prelude.{ℕ, suc, ◌<◌, ◌≤◌, ◌≡◌, List, length, get_or}
use Rattle.floor.specs.Words.{board, place_of}
use Rattle.ground.specs.Kind.{Kind, walkers}
use Rattle.ground.specs.Link.{Link}
use Rattle.corners.specs.Lists.{part, Picked}
use Rattle.marks.specs.Marks.{Marks}

-- two cells, by number, are linked: Definition 3 on the floor's board
abbrev pub LinkedCells : Kind → ℕ → ℕ → List ℕ → ℕ → ℕ → Type 0
LinkedCells K w h words s t = Link K (board w h words) (place_of w s) (place_of w t)

-- The first n turning points have their neighbours: those of turning point k stand at the places starts[k] up to but not including
-- starts[k+1], ascending, and there is nothing between, before or after them.
pub record LinksTo (K : Kind) (w h : ℕ) (words corners : List ℕ) (n : ℕ) (starts neighbours : List ℕ) : Type 0 where
  pub one_more : length starts ≡ suc n
  pub first : get_or starts 0 0 ≡ 0
  pub last : get_or starts n 0 ≡ length neighbours
  pub rising : (k : ℕ) → k < n → get_or starts k 0 ≤ get_or starts (suc k) 0
  pub row : (k : ℕ) → k < n →
      Picked (LinkedCells K w h words (get_or corners k 0)) corners (part neighbours (get_or starts k 0) (get_or starts (suc k) 0))

-- what linking finds: starts and neighbours of all turning points
abbrev pub Links : Kind → ℕ → ℕ → List ℕ → List ℕ → List ℕ → List ℕ → Type 0
Links K w h words corners starts neighbours = LinksTo K w h words corners (length corners) starts neighbours

-- the four lists of a plan, or those that are lent for one
pub record Lists : Type 0 where
  pub clear : List ℕ
  pub corners : List ℕ
  pub starts : List ℕ
  pub neighbours : List ℕ

-- the four lists are the floor's plan
pub record PlanOf (w h : ℕ) (words : List ℕ) (p : Lists) : Type 0 where
  pub marks : Marks w h words p.clear p.corners
  pub links : Links walkers w h words p.corners p.starts p.neighbours

-- the lists are this floor's own plan, which is within its limits
pub record Fits (w h : ℕ) (words : List ℕ) (p : Lists) : Type 0 where
  pub own : PlanOf w h words p
  pub few_corners : length p.corners ≤ 2048
  pub few_arcs : length p.neighbours ≤ 32768
