-- `fields::pass_row` meets its contract: one law of passing a row for each way that the tests go. Assumes nothing.
use Prim.Native.Nat.{◌<◌}
use native.Mathlib.Omega.{arith}
use mathlib.Core.Bool.{true, false, ◌&&◌}
use mathlib.Core.Path.{◌≡◌, sym, ◌∙◌}
use lib.Dec.{ltb}
use borrow.Author.Tests.{ltb-true, lt-ltb}
use Rattle.floor.specs.Board.{at, dir_at, step, corner}
use Rattle.floor.specs.Words.{board}
use Rattle.floor.specs.Lent.{of, on}
use Rattle.ground.proofs.Logic.{and_left, and_right}
use Rattle.fields.specs.Fields.{slant, NewRow}
use Rattle.fields.proofs.Passes.{begins_on, told_step, goes_come, come_row, begins_number, passed_turn, passed_last, passed_on}
use Rattle.fields.proofs.pass_row.Goals as goal
use Rattle.fields.proofs.pass_row.Goals.{After-ahead_of-at, Else-turns, After-slants-on}

pub ahead_of-at-requires : goal.ahead_of-at-requires
ahead_of-at-requires c = goes_come c.requires

-- the sweep stands there
stands : (c : After-ahead_of-at) →
    let a = c.args in
    on NewRow a.floor.now.grid a.clear.now (record { start = a.start; field = a.field; row = a.row; at = c.ahead_of-at.result; reach = a.reach })
stands c = come_row c.requires _ c.ahead_of-at.ensures

pub turns-requires : goal.turns-requires
turns-requires c = stands (goal.at.turns-requires c).After-ahead_of-at

-- the first test fails: the row is the first, or begins at no turning point
begins : (c : Else-turns) →
    let a = c.args in
    let p = c.ahead_of-at.result in
    0 < a.row → corner (of board a.floor.now.grid) (at p.x p.y) ≡ false
begins c z = rw (lt-ltb 0 c.args.row z) at (sym c.turns.ensures ∙ c.if-turns.false)

pub overflow_mul-at : goal.overflow_mul-at
overflow_mul-at c = omega (arith, begins_number c.requires _ c.ahead_of-at.ensures)

pub overflow_add-at : goal.overflow_add-at
overflow_add-at c = omega (arith, begins_number c.requires _ c.ahead_of-at.ensures)

pub returns-then-turns : goal.returns-then-turns
returns-then-turns c =
    let a = c.args in
    let p = c.ahead_of-at.result in
    let later = ltb 0 a.row in
    let turn = corner (of board a.floor.now.grid) (at p.x p.y) in
    let both : (later && turn) ≡ true = sym c.turns.ensures ∙ c.if-turns.true in
    passed_turn c.requires _ c.ahead_of-at.ensures _ (ltb-true 0 _ (and_left later turn both)) (and_right later turn both) c.edge.ensures

pub row_end-e-requires : goal.row_end-e-requires
row_end-e-requires c = (stands (goal.at.row_end-e-requires c).After-ahead_of-at, begins (goal.at.row_end-e-requires c).Else-turns)

pub slants-on-requires : goal.slants-on-requires
slants-on-requires c = (begins_on (stands (goal.at.slants-on-requires c).After-ahead_of-at), c.requires.field_in)

-- the second test: the step on is legal
stepped : (c : After-slants-on) →
    let a = c.args in
    let p = c.ahead_of-at.result in
    step (of board a.floor.now.grid) (dir_at (slant a.field)) (at p.x p.y) ≡ c.slants-on.result
stepped c = told_step (come_row c.requires _ c.ahead_of-at.ensures) c.slants-on.ensures

pub returns-then-on : goal.returns-then-on
returns-then-on c =
    passed_on c.requires _ c.ahead_of-at.ensures (begins (goal.at.returns-then-on c).Else-turns) _ c.row_end-e.ensures _ c.beyond.ensures
    (stepped (goal.at.returns-then-on c).After-slants-on ∙ c.if-on.true)

pub returns-else-on : goal.returns-else-on
returns-else-on c =
    passed_last c.requires _ c.ahead_of-at.ensures (begins (goal.at.returns-else-on c).Else-turns) _ c.row_end-e.ensures _ c.beyond.ensures
    (stepped (goal.at.returns-else-on c).After-slants-on ∙ c.if-on.false)
