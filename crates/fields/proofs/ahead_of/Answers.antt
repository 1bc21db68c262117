-- `fields::ahead_of` meets its contract: column and row move by the direction's offsets. Assumes nothing.
use mathlib.Core.Path.{ap₂, ◌∙◌}
use Rattle.floor.specs.Board.{at, dir_at}
use Rattle.fields.proofs.Aheads.{Added, added}
use Rattle.fields.proofs.ahead_of.Goals as goal
use Rattle.fields.proofs.ahead_of.Goals.{After-in_window}

-- the law for the offsets that were read
read : (c : After-in_window) →
    Added (dir_at c.args.dir) c.args.k c.args.from.x c.args.from.y c.in_window.result
read c = added _ _ _ _ _ c.in_window.ensures c.requires.column c.requires.row

pub moved-requires : goal.moved-requires
moved-requires c = (c.requires.column_near, c.requires.few, c.in_window.ensures.column_in, (read (goal.at.moved-requires c).After-in_window).column_fits)

pub moved-requires-2 : goal.moved-requires-2
moved-requires-2 c = (c.requires.row_near, c.requires.few, c.in_window.ensures.row_in, (read (goal.at.moved-requires-2 c).After-in_window).row_fits)

pub returns : goal.returns
returns c = ap₂ at c.moved.ensures c.moved-2.ensures ∙ (read (goal.at.returns c).After-in_window).there
