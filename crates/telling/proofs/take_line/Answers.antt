-- `telling::take_line` meets its contract. Assumes nothing.
use mathlib.Core.Path.{◌∙◌}
use native.Mathlib.Omega.{arith}
use lib.ListN.{length-set}
use Rattle.floor.specs.Board.{at}
use Rattle.floor.specs.Words.{number_of}
use Rattle.telling.proofs.Telling.{line_room, line_taken, line_kept}
use Rattle.telling.proofs.take_line.Goals as goal

pub write_line-requires : goal.write_line-requires
write_line-requires c =
    let s = c.args in
    let m = line_room (at s.from.x s.from.y) (at s.to.x s.to.y) s.route.now c.line_length.ensures c.tell-r.ensures c.if-r-eq0.true in
    let e = length-set s.route.now 0 (number_of s.w s.from.x s.from.y) in
    (c.requires.cells.0, c.requires.cells.1, omega arith)

pub returns-then-r-eq0 : goal.returns-then-r-eq0
returns-then-r-eq0 c =
    let s = c.args in
    line_taken (at s.from.x s.from.y) (at s.to.x s.to.y) s.route.now c.line_length.ensures c.tell-r.ensures s.w (number_of s.w s.from.x s.from.y) c.if-r-eq0.true
    c.write_line.ensures

pub returns-else-r-eq0 : goal.returns-else-r-eq0
returns-else-r-eq0 c =
    let s = c.args in
    line_kept (at s.from.x s.from.y) (at s.to.x s.to.y) s.route.now c.line_length.ensures c.tell-r.ensures s.w (number_of s.w s.from.x s.from.y) c.if-r-eq0.false
