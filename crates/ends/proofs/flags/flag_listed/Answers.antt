-- `ends::flags::flag_listed` meets its contract. Assumes nothing.
use Rattle.std.proofs.Common.{ap, ◌∙◌, arith}
use borrow.Author.Count.{below_none, below_more}
use Rattle.plan.specs.Rising.{In}
use Rattle.plan.proofs.Risings.{at_in}
use Rattle.plan.proofs.Parts.{in_at}
use Rattle.places.specs.Places.{index_of}
use Rattle.ends.proofs.Flagged.{same_room, flagging_none, flagging_more, flagging_one, put_flag}
use Rattle.ends.proofs.flags.flag_listed.Goals as goal
use Rattle.ends.proofs.flags.flag_listed.Goals.{in-Some, in_default}

pub loop-cell-init : goal.loop-cell-init
loop-cell-init c = record { flagging = flagging_none _ _ _ _ _; passed = below_none _ }

pub put-requires : goal.put-requires
put-requires c =
    let room = same_room c.requires.room c.loop-cell.invariant.flagging.only in
    let at = c.in-Some.ensures in
    record { column = room.column; place = omega arith; room = room.room }

pub loop-cell-preserved : goal.loop-cell-preserved
loop-cell-preserved c =
    let l = c.loop-cell in
    let found = c.args.found.now in
    let room = same_room c.requires.room l.invariant.flagging.only in
    let here = at_in found l.cell-index c.loop-cell-test.true in
    let listed = c.requires.listed _ here in
    let cell = ap (index_of c.args.corners.now) c.from.ensures in
    elim c.match-find.branch [
      | in-Some w ↦
          let put = rw (w.in-Some.ensures.1 ∙ cell, ← w.work-is) at w.put.ensures in
          let one = flagging_one (λ t. In t found) _ _ _ l.work room _ here listed _ put in
          record {
            flagging = flagging_more _ _ _ _ l.invariant.flagging one;
            passed = below_more _ _ (λ j k. one.kept _ (l.invariant.passed j k)) (put_flag (λ t. In t found) _ _ _ l.work room _ here listed _ put);
          }
      | in_default w ↦ absurd (let none = w.in_default.ensures in omega arith)
    ]

pub returns : goal.returns
returns c =
    let i = c.loop-cell.invariant in
    (i.flagging, λ t k. let (j, l, e) = in_at t c.args.found.now k in rw (← e) (i.passed j (omega arith)))
