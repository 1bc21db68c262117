-- `plan::linking::link` meets its contract: the loop's invariant: starts and neighbours of the turning points passed are written. Assumes nothing.
use Rattle.std.proofs.Common.{set, length, ◌<◌, refl, ◌∙◌, length-set, get_or-set_same, arith}
use Rattle.ground.proofs.Cells.{corner_free}
use Rattle.plan.proofs.Linkings.{linking_begin, entry_turns, starts_long, list_long, linking_end, linking_next, linking_full}
use Rattle.plan.proofs.linking.link.Goals as goal
use Rattle.plan.proofs.linking.link.Goals.{Start}

-- a start more than turning points was lent, the first of them written
room : (c : Start) → length c.args.corners.now < length (set c.args.starts.now 0 0)
room c = rw length-set c.requires.starts

pub loop-i-init : goal.loop-i-init
loop-i-init c = linking_begin _ _ _ _ _ _ c.requires.corners (room (goal.at.loop-i-init c).Start) (get_or-set_same c.args.starts.now 0 0 0 (let p = c.requires.starts in omega arith))

pub link_one-requires : goal.link_one-requires
link_one-requires c =
    let p = c.requires in
    let l = c.loop-i.invariant in
    let e = entry_turns _ _ _ _ p.corners c.loop-i.i c.loop-i-test.true in (
      rw c.from.ensures
          (record { known = record { floor = c.args.floor.now.good; long = p.clear.0; cleared = p.clear.1 }; cell_in = e.0; free = corner_free _ _ e.1 }),
      (rw (list_long _ _ _ _ _ _ p.corners (room (goal.at.link_one-requires c).Start) _ _ _ _ l) l.room, l.few),
    )

pub returns-in_err-m : goal.returns-in_err-m
returns-in_err-m c =
    let r = room (goal.at.returns-in_err-m c).Start in
    let l = c.loop-i.invariant in
    let o = rw c.from.ensures at c.in_err-m.ensures in
    rw c.from_residual.ensures (
      linking_full _ _ _ _ _ _ c.requires.corners r _ _ _ _ l c.loop-i-test.true c.link_one.new.list o,
      starts_long _ _ _ _ _ _ c.requires.corners r _ _ _ _ l ∙ length-set c.args.starts.now 0 0,
      c.link_one.auto.list ∙ list_long _ _ _ _ _ _ c.requires.corners r _ _ _ _ l,
    )

pub loop-i-preserved : goal.loop-i-preserved
loop-i-preserved c =
    linking_next _ _ _ _ _ _ c.requires.corners (room (goal.at.loop-i-preserved c).Start) _ _ _ _ c.loop-i.invariant
    c.loop-i-test.true _ _ (rw c.from.ensures at c.in_ok-m.ensures)

pub returns : goal.returns
returns c =
    linking_end _ _ _ _ _ _ c.requires.corners (room (goal.at.returns c).Start) _ _ _ _ c.loop-i.invariant c.args.starts.now refl c.loop-i-test.false
