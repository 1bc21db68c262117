-- `reading::read_rows` meets its contract. The loop's invariant: the rows passed fit, and stand in the words. Assumes nothing.
use Prim.Native.Nat.{◌+◌, ◌*◌, ◌<◌, ◌≤◌}
use mathlib.Core.Path.{◌≡◌, subst}
use native.Mathlib.Omega.{arith}
use lib.ListN.{length, length-take, length-drop}
use borrow.Author.Rules.{rules}
use Rattle.floor.specs.Words.{row_words}
use Rattle.floor.proofs.Places.{row_ends}
use Rattle.reading.specs.Maps.{RowAt}
use Rattle.reading.proofs.Letters.{row_inside}
use Rattle.reading.proofs.Fills.{filled_none, filled_put, next_place}
use Rattle.reading.proofs.read_rows.Goals as goal
use Rattle.reading.proofs.read_rows.Goals.{Else-not-is_row, In-loop-row}

-- the row ends within the words
ends : (c : In-loop-row) → c.loop-row.row * c.row_words-n.result + c.row_words-n.result ≤ length c.loop-row.floor
ends c =
    rw c.row_words-n.ensures
    (omega (arith, row_ends c.loop-row.row c.args.h (row_words c.args.w) c.loop-row-test.true, c.loop-row.invariant.2.long))

-- the row that was found
fits : (c : Else-not-is_row) → RowAt c.args.text.now c.loop-row.at c.args.w
fits c = c.is_row.ensures.yes c.if-not-is_row.false

-- and ends within the text
inside : (c : Else-not-is_row) → c.loop-row.at + c.args.w < length c.args.text.now
inside c = row_inside _ _ _ (fits c)

pub loop-row-preserved : goal.loop-row-preserved
loop-row-preserved c =
    let at = goal.at.loop-row-preserved c in
    let l = c.loop-row in
    let a = c.args in (
      next_place a.from a.w l.row l.at l.invariant.0,
      omega (arith, inside at.Else-not-is_row),
      filled_put a.text.now a.from a.w l.row c.row_words-n.result l.at a.floor.now l.floor c.put_row.new.row
          c.row_words-n.ensures l.invariant.0 (ends at.In-loop-row) c.put_row.auto.row (fits at.Else-not-is_row) c.put_row.ensures l.invariant.2,
    )
