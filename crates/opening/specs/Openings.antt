-- What stands before the trips (01, "Floorwalk: the program and its listing"): the sizes, the map and its survey, or the first refusal.
use Rattle.std.specs.Prelude.{ℕ, ◌+◌, ◌*◌, ◌^◌, ◌<◌, ◌≤◌, List, ◌≡◌, length, get_or, take, Result, Ok, Err}
use Rattle.floor.specs.Words.{row_words, free_cells, SizeRefused, Floor}
use Rattle.plan.specs.Plan.{Lists, PlanOf}
use Rattle.survey.specs.Survey.{lists, SurveyOutcome}
use Rattle.survey.specs.declared.Surveyed.{Surveyed}
use Rattle.reading.specs.Lines.{At, TwoLine}
use Rattle.reading.specs.Maps.{RowAt, row_place, Filled}
use Rattle.writing.specs.Answers.{Put, floor_line, survey_refused, input_refused}
use Rattle.opening.specs.Grounds.{Ground, Walkable}
use Rattle.opening.specs.declared.Refused.{Refused}
use Rattle.opening.specs.declared.Site.{Site}

-- line 1 gives sizes that are not refused, and the rows of the map begin at `from`
pub record SizesAt (text : List ℕ) (w h from : ℕ) : Type 0 where
  pub line : At (TwoLine w h) text 0 from
  pub accepted : ¬ (SizeRefused w h)

-- a map stands after them, up to `next`, and these words are its floor's: 64-bit words, as many as the rows need
pub record MapAt (text : List ℕ) (w h next : ℕ) (words : List ℕ) : Type 0 where
  pub from : ℕ
  pub sizes : SizesAt text w h from
  pub before : List ℕ
  pub after : List ℕ
  pub filled : Filled text from w h before after
  pub room : h * row_words w ≤ length after
  pub wide : (i : ℕ) → get_or after i 0 < 2 ^ 64
  pub cut : words ≡ take (h * row_words w) after
  pub ends : next ≡ row_place from w h

-- row y is the first that does not fit
pub record BadRow (text : List ℕ) (y : ℕ) : Type 0 where
  pub w : ℕ
  pub h : ℕ
  pub from : ℕ
  pub sizes : SizesAt text w h from
  pub inside : y < h
  pub fit : (z : ℕ) → z < y → RowAt text (row_place from w z) w
  pub unfit : ¬ (RowAt text (row_place from w y) w)

-- lists of the largest sizes that a plan may need
pub record Largest (lent : Lists) : Type 0 where
  pub clear : length lent.clear ≡ 65536
  pub corners : length lent.corners ≡ 2048
  pub starts : length lent.starts ≡ 2049
  pub neighbours : length lent.neighbours ≡ 32768

-- the survey of a map, with such lists, refuses by this number
pub record BadFloor (text : List ℕ) (code : ℕ) : Type 0 where
  pub w : ℕ
  pub h : ℕ
  pub next : ℕ
  pub words : List ℕ
  pub map : MapAt text w h next words
  pub lent : Lists
  pub left : Lists
  pub largest : Largest lent
  pub answer : Surveyed
  pub outcome : SurveyOutcome w h words lent answer left
  pub number : answer.code ≡ code
  pub refused : 0 < code

-- a refusal before the trips, and its bytes
pub data TurnedAway (text : List ℕ) : List ℕ → Type 0 where
  no_sizes : ((w h next : ℕ) → ¬ (At (TwoLine w h) text 0 next)) → TurnedAway text (input_refused 1)
  bad_sizes : (w h from : ℕ) → At (TwoLine w h) text 0 from → SizeRefused w h → TurnedAway text (survey_refused 1)
  bad_row : (y : ℕ) → BadRow text y → TurnedAway text (input_refused (y + 2))
  bad_floor : (code : ℕ) → BadFloor text code → TurnedAway text (survey_refused code)

-- the line of a surveyed floor
abbrev pub ground_line : Ground → List ℕ
ground_line g =
    floor_line g.w g.h (free_cells g.w g.h g.words) (length g.plan.corners) (length g.plan.neighbours)

-- the map's floor is g, which can be walked on, and the trips begin at `next`
pub record OpenFloor (text : List ℕ) (g : Ground) (next : ℕ) : Type 0 where
  pub map : MapAt text g.w g.h next g.words
  pub walkable : Walkable g

-- ---- what the code leaves
-- the room for what stands before the trips
pub record Lent (words : List ℕ) (lent : Lists) (out : List ℕ) : Type 0 where
  pub words_size : length words ≡ 512
  pub largest : Largest lent
  pub out_size : length out ≡ 131072

-- the first entries of the lists, as many as a plan of k turning points and m arcs has
abbrev pub cut_plan : ℕ → ℕ → ℕ → ℕ → Lists → Lists
cut_plan w h k m left =
    lists (take (4 * (w * h)) left.clear) (take k left.corners) (take (k + 1) left.starts) (take m left.neighbours)

-- a floor by its words, and its plan by the first entries of the lists
abbrev pub ground_of : Site → List ℕ → Lists → Ground
ground_of s words left =
    record {
      w = s.w;
      h = s.h;
      words = take (s.h * row_words s.w) words;
      plan = cut_plan s.w s.h s.corners s.arcs left;
    }

-- a floor was opened, and its line written
pub record SiteOpen (text words : List ℕ) (left : Lists) (before after : List ℕ) (s : Site) : Type 0 where
  pub floor : OpenFloor text (ground_of s words left) s.next
  pub put : Put before after 0 s.used (ground_line (ground_of s words left))
  pub corners : s.corners ≤ 2048
  pub arcs : s.arcs ≤ 32768
  pub short : s.used ≤ 256

-- a refusal was written
pub record TurnedPut (text before after : List ℕ) (used : ℕ) : Type 0 where
  pub bytes : List ℕ
  pub turned : TurnedAway text bytes
  pub put : Put before after 0 used bytes
  pub short : used ≤ 256

-- what opening a text comes to
abbrev pub OpenedTo : List ℕ → List ℕ → Lists → List ℕ → List ℕ → Result Site Refused → Type 0
OpenedTo text words left before after (Ok s) = SiteOpen text words left before after s
OpenedTo text words left before after (Err r) = TurnedPut text before after r.used

-- what a survey takes: a floor of accepted sizes, and room
pub record Surveyable (w h : ℕ) (words : List ℕ) (lent : Lists) (out : List ℕ) : Type 0 where
  pub wide : w ≤ 255
  pub high : h ≤ 255
  pub counted : length words ≡ h * row_words w
  pub largest : Largest lent
  pub out_size : 256 ≤ length out

-- a survey refused, and its refusal was written
pub record SurveyPut (w h : ℕ) (words : List ℕ) (lent left : Lists) (before after : List ℕ) (used : ℕ) : Type 0 where
  pub answer : Surveyed
  pub outcome : SurveyOutcome w h words lent answer left
  pub refused : 0 < answer.code
  pub put : Put before after 0 used (survey_refused answer.code)
  pub short : used ≤ 256

-- a survey was made, and its line was written
pub record FloorPut (w h next : ℕ) (words : List ℕ) (left : Lists) (before after : List ℕ) (s : Site) : Type 0 where
  pub width : s.w ≡ w
  pub height : s.h ≡ h
  pub goes_on : s.next ≡ next
  pub floor : Floor w h words
  pub own : PlanOf w h words (cut_plan w h s.corners s.arcs left)
  pub corners : s.corners ≤ 2048
  pub arcs : s.arcs ≤ 32768
  pub put : Put before after 0 s.used (floor_line w h (free_cells w h words) s.corners s.arcs)
  pub short : s.used ≤ 256

-- what surveying a floor comes to
abbrev pub FloorOpened : ℕ → ℕ → ℕ → List ℕ → Lists → Lists → List ℕ → List ℕ → Result Site Refused → Type 0
FloorOpened w h next words lent left before after (Ok s) = FloorPut w h next words left before after s
FloorOpened w h next words lent left before after (Err r) = SurveyPut w h words lent left before after r.used

-- an open floor, as its lists are handed on
pub record Kept (text : List ℕ) (s : Site) (words : List ℕ) (left : Lists) (out : List ℕ) : Type 0 where
  pub floor : OpenFloor text (ground_of s words left) s.next
  pub corners : s.corners ≤ 2048
  pub arcs : s.arcs ≤ 32768
  pub short : s.used ≤ 256
  pub room : Lent words left out
