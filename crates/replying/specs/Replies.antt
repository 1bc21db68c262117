-- The reply to a line (01, "Floorwalk: the program and its listing"): the query's answer as a line, or the line's refusal.
use Rattle.std.specs.Prelude.{ℕ, zero, suc, ◌+◌, ◌≤◌, Bool, true, false, List, [], ◌∷◌, ◌++◌, ◌⊎◌, ◌≡◌, length, take}
use Rattle.lengths.specs.Lengths.{pair, figure_of}
use Rattle.telling.specs.declared.Answer.{Answer}
use Rattle.answering.specs.Asked.{Asked}
use Rattle.query.specs.Query.{QueryOutcome}
use Rattle.reading.specs.Lines.{At, FourLine}
use Rattle.writing.specs.Answers.{Put, answer_numbers, route_cells, input_refused}
use Rattle.opening.specs.Grounds.{Ground}
use Rattle.replying.specs.declared.Spot.{Spot}

-- the trip from (x, y) to (u, v), with the room that is lent for it
abbrev pub asked : Ground → ℕ → ℕ → ℕ → ℕ → List ℕ → List ℕ → Asked
asked g x y u v route work =
    record { w = g.w; h = g.h; words = g.words; plan = g.plan; sx = x; sy = y; gx = u; gy = v; route = route; work = work }

-- the printed figure
abbrev pub figure_in : Answer → ℕ
figure_in a = figure_of (pair a.straight a.diagonal)

-- for code 0 a colon and the cells, else nothing
unfoldable pub route_part : ℕ → List ℕ → List ℕ
route_part zero cells = route_cells cells
route_part (suc code) cells = []

-- the six numbers
abbrev pub numbers_of : Answer → List ℕ
numbers_of a = answer_numbers a.code a.straight a.diagonal a.cells a.effort (figure_in a)

-- the line of an answer
abbrev pub reply_line : Answer → List ℕ → List ℕ
reply_line a route = numbers_of a ++ route_part a.code (take a.cells route) ++ 10 ∷ []

-- the reply to a trip: the line of what the query answers, when a route may have 16,384 cells and the work space 12,300 entries
pub record TripReply (g : Ground) (x y u v : ℕ) (bytes : List ℕ) : Type 0 where
  pub route : List ℕ
  pub work : List ℕ
  pub route_left : List ℕ
  pub work_left : List ℕ
  pub answer : Answer
  pub route_size : length route ≡ 16384
  pub work_long : length work ≡ 12300
  pub outcome : QueryOutcome (asked g x y u v route work) answer route_left work_left
  pub line : bytes ≡ reply_line answer route_left

-- the reply to the line at a place, which ends at `next`
pub record LineReply (g : Ground) (text : List ℕ) (at next : ℕ) (bytes : List ℕ) : Type 0 where
  pub x : ℕ
  pub y : ℕ
  pub u : ℕ
  pub v : ℕ
  pub line : At (FourLine x y u v) text at next
  pub reply : TripReply g x y u v bytes

-- no line of a trip stands at a place
abbrev pub NoTrip : List ℕ → ℕ → Type 0
NoTrip text at = (x y u v next : ℕ) → ¬ (At (FourLine x y u v) text at next)

-- ---- what the code leaves
-- an answer that the route list and a line of output hold: a route of code 0 is in the list, which has at most 16,384 cells
pub record Printable (a : Answer) (route : List ℕ) : Type 0 where
  pub written : a.code ≡ 0 → a.cells ≤ length route
  pub few : length route ≤ 16384

-- at most so many bytes were written from a place on
pub record PutLine (most : ℕ) (before after : List ℕ) (at r : ℕ) (bytes : List ℕ) : Type 0 where
  pub put : Put before after at r bytes
  pub short : length bytes ≤ most

-- a spot by its numbers
abbrev pub spot_of : ℕ → ℕ → ℕ → Bool → Spot
spot_of at line used last = record { at = at; line = line; used = used; last = last }

-- a spot where a line may begin: inside the text, with a number that fits, and not the last
pub record Begins (text : List ℕ) (s : Spot) : Type 0 where
  pub inside : s.at ≤ length text
  pub numbered : s.line ≤ s.at + 257
  pub going : s.last ≡ false

-- the room for a reply
pub record Room (route work out : List ℕ) (at : ℕ) : Type 0 where
  pub route_size : length route ≡ 16384
  pub work_long : length work ≡ 12300
  pub out_size : at + 98432 ≤ length out

-- the refusal of the line at a spot was written after the output so far, and r is the last spot
pub record RefusedAt (spot : Spot) (before after : List ℕ) (r : Spot) : Type 0 where
  pub end : ℕ
  pub is : r ≡ spot_of spot.at spot.line end true
  pub line : PutLine 64 before after spot.used end (input_refused spot.line)

-- the reply to the line at a spot was written after the output so far, and r is the spot of the next line
pub record AnsweredAt (g : Ground) (text : List ℕ) (spot : Spot) (before after : List ℕ) (r : Spot) : Type 0 where
  pub next : ℕ
  pub end : ℕ
  pub is : r ≡ spot_of next (spot.line + 1) end false
  pub bytes : List ℕ
  pub reply : LineReply g text spot.at next bytes
  pub line : PutLine 98432 before after spot.used end bytes

-- the line at a spot was answered, or has no trip and was refused
abbrev pub RepliedTo : Ground → List ℕ → Spot → List ℕ → List ℕ → Spot → Type 0
RepliedTo g text spot before after r = AnsweredAt g text spot before after r ⊎ (NoTrip text spot.at × RefusedAt spot before after r)
