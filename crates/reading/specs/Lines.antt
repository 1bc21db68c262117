-- What a line of numbers means (01, "Floorwalk: the program and its listing"): decimals from 0 to 999, one space apart, and a newline.
-- A space is the byte 32, a newline the byte 10.
use Rattle.std.specs.Prelude.{ℕ, ◌+◌, ◌<◌, ◌≤◌, ◌≡◌, List, [], ◌∷◌, ◌++◌, length, get_or, drop, Option, Some, None}
use Rattle.reading.specs.declared.Number.{Number}
use Rattle.reading.specs.declared.Two.{Two}
use Rattle.reading.specs.declared.Four.{Four}
use Rattle.writing.specs.Numbers.{decimal}

-- what bytes stand at a place of a text, and that they reach to `next`
pub record At (Is : List ℕ → Type 0) (text : List ℕ) (at next : ℕ) : Type 0 where
  pub line : List ℕ
  pub rest : List ℕ
  pub is : Is line
  pub split : drop at text ≡ line ++ rest
  pub ends : next ≡ at + length line

-- bytes that are of one form and then of another
pub record Then (First Second : List ℕ → Type 0) (line : List ℕ) : Type 0 where
  pub front : List ℕ
  pub back : List ℕ
  pub first : First front
  pub second : Second back
  pub joined : line ≡ front ++ back

-- a number from 0 to 999 and the byte that ends it
pub record Ended (n end : ℕ) (line : List ℕ) : Type 0 where
  pub written : line ≡ decimal n ++ end ∷ []
  pub small : n ≤ 999

-- two numbers, one space apart, and the byte that ends them
abbrev pub Pair : ℕ → ℕ → ℕ → List ℕ → Type 0
Pair a b end = Then (Ended a 32) (Ended b end)

-- the line `w h`
abbrev pub TwoLine : ℕ → ℕ → List ℕ → Type 0
TwoLine w h = Pair w h 10

-- the line `x y u v`
abbrev pub FourLine : ℕ → ℕ → ℕ → ℕ → List ℕ → Type 0
FourLine x y u v = Then (Pair x y 32) (Pair u v 10)

-- What a reader gives back: what stands at the place and where the text goes on; or `None` where nothing of the form stands there.
abbrev pub NumberRead : List ℕ → ℕ → ℕ → Option Number → Type 0
NumberRead text at end (Some n) = At (Ended n.value end) text at n.next
NumberRead text at end None = (n next : ℕ) → ¬ (At (Ended n end) text at next)

-- the same of two numbers
abbrev pub PairRead : List ℕ → ℕ → ℕ → Option Two → Type 0
PairRead text at end (Some p) = At (Pair p.first p.second end) text at p.next
PairRead text at end None = (a b next : ℕ) → ¬ (At (Pair a b end) text at next)

-- of the line `w h`
abbrev pub TwoRead : List ℕ → ℕ → Option Two → Type 0
TwoRead text at r = PairRead text at 10 r

-- and of the line `x y u v`
abbrev pub FourRead : List ℕ → ℕ → Option Four → Type 0
FourRead text at (Some f) = At (FourLine f.start.x f.start.y f.goal.x f.goal.y) text at f.next
FourRead text at None = (x y u v next : ℕ) → ¬ (At (FourLine x y u v) text at next)

-- the text has a byte of a kind at a place
pub record Has (Is : ℕ → Type 0) (text : List ℕ) (at : ℕ) : Type 0 where
  pub inside : at < length text
  pub is : Is (get_or text at 0)
