-- Cells by column and row.
use Rattle.std.specs.Prelude.{ℕ, List, ◌<◌}
use Rattle.floor.specs.declared.lent.Cell.{Cell}

-- the cell lies on a floor of these sides
abbrev pub Within : ℕ → ℕ → List ℕ → Cell → Type 0
Within w h words c = (c.x < w) × (c.y < h)
