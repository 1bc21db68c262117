-- `windows::three_at` meets its contract: one law of the board for each way out. Assumes nothing.
use mathlib.Core.Path.{◌∙◌}
use Rattle.floor.proofs.Places.{free_zero, free_past, free_inside}
use Rattle.windows.proofs.Triples.{triple_blocked, triple_same}
use Rattle.windows.proofs.three_at.Goals as goal
use Rattle.windows.proofs.three_at.Goals.{then-y-eq0-via-then-y-eq0, then-y-eq0-via-else-y-eq0+then-grid-y}

pub returns-then-y-eq0 : goal.returns-then-y-eq0
returns-then-y-eq0 c =
    elim c.then-y-eq0.branch [
      | then-y-eq0-via-then-y-eq0 w ↦ triple_blocked _ _ (free_zero _ _ _ _ w.if-y-eq0.true)
      | then-y-eq0-via-else-y-eq0+then-grid-y w ↦ triple_blocked _ _ (free_past _ _ _ _ w.if-grid-y.true)
    ]

pub returns : goal.returns
returns c =
    let g = c.args.grid.now in
    c.three_in.ensures
    ∙ triple_same _ _ c.args.x (free_inside g.w g.h g.words.now c.args.y _ c.if-y-eq0.false c.if-grid-y.false c.row_of.ensures.same)
