-- The survey's promise: which of document 01's numbers it gives, what it returns and what it leaves in the four lists.
use Rattle.std.specs.Prelude.{ℕ, ◌+◌, ◌*◌, ◌<◌, ◌≡◌, Result, Ok, Err, List, [], ◌∷◌, ◌++◌, ◌⊎◌, length}
use Rattle.floor.specs.Refusals.{Refusal, refuse, FirstOf}
use Rattle.floor.specs.Words.{floor_rows, free_cells}
use Rattle.corners.specs.Lists.{written, wiped}
use Rattle.corners.specs.Corners.{corner_cells}
use Rattle.plan.specs.Plan.{Lists, PlanOf}
use Rattle.plan.specs.Arcs.{TooMany}
use Rattle.floor.specs.declared.refusal.Refusal.{Refusal as RefusedAs}
use Rattle.floor.specs.Codes.{number}
use Rattle.survey.specs.declared.Surveyed.{Surveyed}

-- K, the number of turning points
abbrev pub corner_count : ℕ → ℕ → List ℕ → ℕ
corner_count w h words = length (corner_cells w h words)

-- the rows 4 to 6 of document 01's table, of a floor and how many entries are lent for clearances, turning points and starts
abbrev pub lent_rows : ℕ → ℕ → List ℕ → ℕ → ℕ → ℕ → List Refusal
lent_rows w h words bytes corners starts =
    refuse 4 (bytes < 4 * (w * h))
    ∷ refuse 5 ((corners < corner_count w h words) ⊎ (2048 < corner_count w h words))
    ∷ refuse 6 (starts < corner_count w h words + 1)
    ∷ []

-- the rows 1 to 6
abbrev pub early_rows : ℕ → ℕ → List ℕ → ℕ → ℕ → ℕ → List Refusal
early_rows w h words bytes corners starts = floor_rows w h words ++ lent_rows w h words bytes corners starts

-- the row 7
abbrev pub last_row : ℕ → ℕ → List ℕ → ℕ → List Refusal
last_row w h words entries = refuse 7 (TooMany w h words entries) ∷ []

-- the rows 1 to 7, of a floor and the lists that are lent for its plan
abbrev pub survey_rows : ℕ → ℕ → List ℕ → Lists → List Refusal
survey_rows w h words lent =
    early_rows w h words (length lent.clear) (length lent.corners) (length lent.starts)
    ++ last_row w h words (length lent.neighbours)

-- four lists
abbrev pub lists : List ℕ → List ℕ → List ℕ → List ℕ → Lists
lists clear corners starts neighbours = record { clear = clear; corners = corners; starts = starts; neighbours = neighbours }

-- four lists with every entry set to 0
abbrev pub wiped_all : Lists → Lists
wiped_all lent = lists (wiped lent.clear) (wiped lent.corners) (wiped lent.starts) (wiped lent.neighbours)

-- after 0: the plan is written into the first entries of each list, and the numbers are those of the plan
pub record Done (w h : ℕ) (words : List ℕ) (lent : Lists) (r : Surveyed) (left : Lists) : Type 0 where
  pub plan : Lists
  pub is_plan : PlanOf w h words plan
  pub clear : left.clear ≡ written plan.clear lent.clear
  pub corners : left.corners ≡ written plan.corners lent.corners
  pub starts : left.starts ≡ written plan.starts lent.starts
  pub neighbours : left.neighbours ≡ written plan.neighbours lent.neighbours
  pub free_count : r.free ≡ free_cells w h words
  pub corners_told : r.corners ≡ length plan.corners
  pub arc_count : r.arcs ≡ length plan.neighbours

-- the answer of a refusal: all numbers but the code are 0
abbrev pub refusal : ℕ → Surveyed
refusal code = record { code = code; free = 0; corners = 0; arcs = 0 }

-- in a refusal all numbers but the code are 0
pub record Refused (r : Surveyed) : Type 0 where
  pub no_free : r.free ≡ 0
  pub no_corners : r.corners ≡ 0
  pub no_arcs : r.arcs ≡ 0

-- the outcome of a survey, of every floor and every four lists
pub record SurveyOutcome (w h : ℕ) (words : List ℕ) (lent : Lists) (r : Surveyed) (left : Lists) : Type 0 where
  pub number : FirstOf (survey_rows w h words lent) r.code
  pub done : r.code ≡ 0 → Done w h words lent r left
  pub refused : 0 < r.code → Refused r
  pub kept : 0 < r.code → r.code < 7 → left ≡ lent
  pub seven_wipes : r.code ≡ 7 → left ≡ wiped_all lent

-- the answer that C gets: that of an accepted floor, or the number of a refusal
abbrev pub answer_of : Result Surveyed RefusedAs → Surveyed
answer_of (Ok s) = s
answer_of (Err r) = refusal (number r)

-- the outcome, where a refusal is told as such
abbrev pub SurveyTold : ℕ → ℕ → List ℕ → Lists → Result Surveyed RefusedAs → Lists → Type 0
SurveyTold w h words lent told left = SurveyOutcome w h words lent (answer_of told) left
