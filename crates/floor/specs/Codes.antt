-- The numbers of the refusals.
use Rattle.std.specs.Prelude.{ℕ, Result, Ok, Err}
use Rattle.floor.specs.declared.refusal.Refusal.{Refusal}
use Rattle.floor.specs.declared.refusal.Refusal.TheVariants.{Size, Words, Unused, Clearances, Corners, Starts, Neighbours, Plan, Start, Goal, Work}

-- the number of a refusal in document 01's table
abbrev pub number : Refusal → ℕ
number Size = 1
number Words = 2
number Unused = 3
number Clearances = 4
number Corners = 5
number Starts = 6
number Neighbours = 7
number Plan = 8
number Start = 9
number Goal = 10
number Work = 11

-- the number that document 01 gives back: 0 where nothing is refused
abbrev pub code_of : {A : Type 0} → Result A Refusal → ℕ
code_of (Ok a) = 0
code_of (Err r) = number r
