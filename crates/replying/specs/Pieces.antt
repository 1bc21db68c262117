-- Lines and the bytes that answer them (01, "Floorwalk: the program and its listing"), and the pieces of the output in which they are made.
-- The text is what is taken of the input, and `more` says whether the input goes on after it.
use Rattle.std.specs.Prelude.{ℕ, ◌+◌, ◌<◌, ◌≤◌, Bool, true, false, List, [], ◌++◌, ◌⊎◌, ◌≡◌, length}
use Rattle.writing.specs.Answers.{Put, input_refused}
use Rattle.opening.specs.Grounds.{Ground}
use Rattle.replying.specs.Replies.{LineReply, NoTrip, spot_of}
use Rattle.replying.specs.declared.Spot.{Spot}

-- the lines from a place and a number on up to another place and number are answered by these bytes
pub data Passed (g : Ground) (text : List ℕ) (from first : ℕ) : ℕ → ℕ → List ℕ → Type 0 where
  none : Passed g text from first from first []
  one_more : {at line next : ℕ} {bytes reply : List ℕ} →
      Passed g text from first at line bytes → LineReply g text at next reply → Passed g text from first next (line + 1) (bytes ++ reply)

-- what follows the last line that is answered: nothing where the input ends, and the refusal of the next line where that does not fit
pub data Ending (text : List ℕ) (more : Bool) (at line : ℕ) : List ℕ → Type 0 where
  over : at ≡ length text → more ≡ false → Ending text more at line []
  unfit : at < length text → NoTrip text at → Ending text more at line (input_refused line)
  past : at ≡ length text → more ≡ true → Ending text more at line (input_refused line)

-- ---- what the code leaves
-- a line is left at a spot, and the piece has room for its reply and a refusal after it
pub record LineLeft (text : List ℕ) (s : Spot) : Type 0 where
  pub going : s.last ≡ false
  pub room : s.used ≤ 32576
  pub inside : s.at < length text

-- the room for a piece, with some output so far
pub record PieceRoom (route work out : List ℕ) (used : ℕ) : Type 0 where
  pub route_size : length route ≡ 16384
  pub work_long : length work ≡ 12300
  pub out_size : length out ≡ 131072
  pub little : used ≤ 32576

-- nothing is ended: the spot is the last already, or more text follows
pub record Stays (text : List ℕ) (s : Spot) (before after : List ℕ) (r : Spot) : Type 0 where
  pub is : r ≡ s
  pub kept : after ≡ before
  pub reason : (s.last ≡ true) ⊎ (s.at < length text)

-- the listing ended at a spot
pub record Closed (text : List ℕ) (more : Bool) (s : Spot) (before after : List ℕ) (r : Spot) : Type 0 where
  pub going : s.last ≡ false
  pub end : ℕ
  pub is : r ≡ spot_of s.at s.line end true
  pub tail : List ℕ
  pub put : Put before after s.used end tail
  pub short : length tail ≤ 64
  pub ending : s.at ≤ length text → Ending text more s.at s.line tail

-- the piece stays open, or what ends the listing was put
abbrev pub FinishedTo : List ℕ → Bool → Spot → List ℕ → List ℕ → Spot → Type 0
FinishedTo text more s before after r = Stays text s before after r ⊎ Closed text more s before after r

-- a piece was made after the output so far: lines answered, and where it is the last what follows them; otherwise some line was answered
-- and some is left
pub record PieceMade (g : Ground) (text : List ℕ) (more : Bool) (from : Spot) (before after : List ℕ) (r : Spot) : Type 0 where
  pub bytes : List ℕ
  pub tail : List ℕ
  pub passed : Passed g text from.at from.line r.at r.line bytes
  pub put : Put before after from.used r.used (bytes ++ tail)
  pub short : r.used ≤ length before
  pub inside : r.at ≤ length text
  pub numbered : r.line ≤ r.at + 257
  pub later : from.at ≤ r.at
  pub ended : r.last ≡ true → Ending text more r.at r.line tail
  pub going : r.last ≡ false → (tail ≡ []) × (from.at < r.at)
