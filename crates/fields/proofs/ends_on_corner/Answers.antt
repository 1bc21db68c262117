-- `fields::ends_on_corner` meets its contract: what is required is the first answer, and both sides decide the others. Assumes nothing.
use mathlib.Core.Bool.{true≢false}
use mathlib.Core.Path.{sym, ◌∙◌}
use native.Mathlib.Omega.{arith}
use borrow.Author.Tests.{lt-ltb}
use Rattle.ground.proofs.Logic.{or_left}
use Rattle.fields.proofs.Clears.{leads, leads_not, entry_in, entry_clear, corner_sides}
use Rattle.fields.proofs.ends_on_corner.Goals as goal
use Rattle.fields.proofs.ends_on_corner.Goals.{then-clearance-gt0, else-clearance-gt0}

pub clearance-requires : goal.clearance-requires
clearance-requires c = let p = c.requires in entry_in p.known _ _ _ p.cells.0.straight p.cells.0.next_free

pub returns-then-opens_out : goal.returns-then-opens_out
returns-then-opens_out c =
    let p = c.requires in
    let clear = entry_clear p.known _ _ _ p.cells.0.straight p.cells.0.next_free in
    c.if-opens_out.true
    ∙ sym (elim c.if-clearance-gt0.branch [
      | then-clearance-gt0 w ↦ p.cells.1 (leads clear (omega arith))
      | else-clearance-gt0 w ↦
          corner_sides p.known _ _ _ _ _ p.cells.0 (leads_not clear (omega arith))
          ∙ or_left _ _ (sym w.opens_out.ensures ∙ sym w.value-is ∙ c.if-opens_out.true)
    ])

pub returns-else-opens_out : goal.returns-else-opens_out
returns-else-opens_out c =
    let p = c.requires in
    let clear = entry_clear p.known _ _ _ p.cells.0.straight p.cells.0.next_free in
    elim c.if-clearance-gt0.branch [
      | then-clearance-gt0 w ↦ absurd (true≢false (sym (lt-ltb 0 _ w.if-clearance-gt0.true) ∙ sym w.value-is ∙ c.if-opens_out.false))
      | else-clearance-gt0 w ↦
          c.opens_out-else-opens_out.ensures
          ∙ sym (rw (sym w.opens_out.ensures ∙ sym w.value-is ∙ c.if-opens_out.false) at (corner_sides p.known _ _ _ _ _ p.cells.0 (leads_not clear (omega arith))))
    ]
