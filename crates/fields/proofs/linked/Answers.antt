-- `fields::linked` meets its contract: one law of where a row's clearance ends for each way that the tests go. Assumes nothing.
use native.Mathlib.Omega.{arith}
use Rattle.fields.proofs.Passes.{row_clear, goes_row, end_next, row_ends, linked_far, linked_none, linked_test}
use Rattle.fields.proofs.linked.Goals as goal

pub returns-then-s-m : goal.returns-then-s-m
returns-then-s-m c = let p = c.requires in linked_far p.row.0 p.row.1 _ (row_clear p.row.0 c.args.m p.end) c.if-s-m.true

pub returns-then-m-eq0 : goal.returns-then-m-eq0
returns-then-m-eq0 c = let p = c.requires in linked_none p.row.0 p.row.1 _ (row_clear p.row.0 c.args.m p.end) c.if-m-eq0.true

pub ahead_of-end-requires : goal.ahead_of-end-requires
ahead_of-end-requires c = let p = c.requires in rw c.side_of-dir.ensures (goes_row p.row.0 _ _ (row_clear p.row.0 c.args.m p.end) (omega arith))

pub ahead_of-before-requires : goal.ahead_of-before-requires
ahead_of-before-requires c = let p = c.requires in rw c.side_of-dir.ensures (goes_row p.row.0 _ _ (row_clear p.row.0 c.args.m p.end) (omega arith))

pub ends_on_corner-requires-clause-cells : goal.ends_on_corner-requires-clause-cells
ends_on_corner-requires-clause-cells c =
    let p = c.requires in
    let k = row_clear p.row.0 c.args.m p.end in
    let dir = c.side_of-dir.ensures in
    let there = rw dir at c.ahead_of-end.ensures in
    rw dir (end_next p.row.0 _ _ _ _ _ k (omega arith) (rw dir at c.ahead_of-before.ensures) there, row_ends p.row.0 _ _ _ k there)

pub returns : goal.returns
returns c =
    let p = c.requires in
    linked_test p.row.0 p.row.1 _ (row_clear p.row.0 c.args.m p.end) _ _ _ (omega arith) (omega arith) (rw c.side_of-dir.ensures at c.ahead_of-end.ensures)
    c.ends_on_corner.ensures
