-- The two kinds of walk: which steps each permits, and the least length that could join two places. Document 01's walker takes all eight
-- directions and its distance is the octile one; a truck (02, request m) takes straight steps only.
use Rattle.std.specs.Prelude.{◌+◌, Bool, true, not}
use Rattle.lengths.specs.Lengths.{Len, pair, gap, octile_of}
use Rattle.floor.specs.Board.{Place, Dir, slanted}

-- a kind of walk: the directions that it permits, and how far apart two places are at the least
pub record Kind : Type 0 where
  pub permits : Dir → Bool
  pub apart : Place → Place → Len

-- the octile distance of two places
abbrev pub octile : Place → Place → Len
octile s t = octile_of (gap s.x t.x) (gap s.y t.y)

-- document 01's walker
abbrev pub walkers : Kind
walkers = record { permits = λ d. true; apart = octile }

-- a truck, which goes round two sides
abbrev pub trucks : Kind
trucks = record { permits = λ d. not (slanted d); apart = λ s t. pair (gap s.x t.x + gap s.y t.y) 0 }
