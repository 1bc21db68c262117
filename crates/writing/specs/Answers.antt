-- The bytes of floorwalk's lines (01, "Floorwalk: the program and its listing"), and what writing bytes into a list means.
use Rattle.std.specs.Prelude.{ℕ, ◌+◌, ◌≡◌, List, [], ◌∷◌, ◌++◌, length, take, drop}
use Rattle.writing.specs.Numbers.{decimal}

-- a list with bytes written into it from a place on
unfoldable pub put_at : List ℕ → ℕ → List ℕ → List ℕ
put_at out at bytes = take at out ++ bytes ++ drop (at + length bytes) out

-- bytes have been written into a list from a place on, and end at r
pub record Put (before after : List ℕ) (at r : ℕ) (bytes : List ℕ) : Type 0 where
  pub written : after ≡ put_at before at bytes
  pub ends : r ≡ at + length bytes

-- a text and a number
unfoldable pub named : List ℕ → ℕ → List ℕ
named text n = text ++ decimal n

-- a space and a number
unfoldable pub spaced : ℕ → List ℕ
spaced n = named (32 ∷ []) n

-- a text, a number and a newline
unfoldable pub number_line : List ℕ → ℕ → List ℕ
number_line text n = named text n ++ 10 ∷ []

-- the texts of the lines, each with the spaces round it
-- `floor `
abbrev pub floor_name : List ℕ
floor_name = 102 ∷ 108 ∷ 111 ∷ 111 ∷ 114 ∷ 32 ∷ []

-- ` free `
abbrev pub free_name : List ℕ
free_name = 32 ∷ 102 ∷ 114 ∷ 101 ∷ 101 ∷ 32 ∷ []

-- ` corners `
abbrev pub corners_name : List ℕ
corners_name = 32 ∷ 99 ∷ 111 ∷ 114 ∷ 110 ∷ 101 ∷ 114 ∷ 115 ∷ 32 ∷ []

-- ` arcs `
abbrev pub arcs_name : List ℕ
arcs_name = 32 ∷ 97 ∷ 114 ∷ 99 ∷ 115 ∷ 32 ∷ []

-- `survey refused `
abbrev pub survey_name : List ℕ
survey_name = 115 ∷ 117 ∷ 114 ∷ 118 ∷ 101 ∷ 121 ∷ 32 ∷ 114 ∷ 101 ∷ 102 ∷ 117 ∷ 115 ∷ 101 ∷ 100 ∷ 32 ∷ []

-- `input refused at line `
abbrev pub input_name : List ℕ
input_name = 105 ∷ 110 ∷ 112 ∷ 117 ∷ 116 ∷ 32 ∷ 114 ∷ 101 ∷ 102 ∷ 117 ∷ 115 ∷ 101 ∷ 100 ∷ 32 ∷ 97 ∷ 116 ∷ 32 ∷ 108 ∷ 105 ∷ 110 ∷ 101 ∷ 32 ∷ []

-- `floor W H free F corners K arcs M`, and a newline
unfoldable pub floor_line : ℕ → ℕ → ℕ → ℕ → ℕ → List ℕ
floor_line w h free k m =
    named floor_name w ++ spaced h ++ named free_name free ++ named corners_name k ++ named arcs_name m ++ 10 ∷ []

-- `survey refused C`, and a newline
unfoldable pub survey_refused : ℕ → List ℕ
survey_refused code = number_line survey_name code

-- `input refused at line N`, and a newline
unfoldable pub input_refused : ℕ → List ℕ
input_refused line = number_line input_name line

-- the six numbers of an answer, one space apart
unfoldable pub answer_numbers : ℕ → ℕ → ℕ → ℕ → ℕ → ℕ → List ℕ
answer_numbers code a b cells effort figure = decimal code ++ spaced a ++ spaced b ++ spaced cells ++ spaced effort ++ spaced figure

-- each cell of a route after a space
unfoldable pub cell_bytes : List ℕ → List ℕ
cell_bytes [] = []
cell_bytes (c ∷ cs) = spaced c ++ cell_bytes cs

-- a space, a colon and the cells of a route
unfoldable pub route_cells : List ℕ → List ℕ
route_cells cells = 32 ∷ 58 ∷ cell_bytes cells
