-- `plan::inserting::insert` meets its contract: t is there already, or there is no room, or what stands behind it moves on. Assumes nothing.
use Rattle.std.proofs.Common.{inl, inr}
use Rattle.plan.proofs.Insertions.{inserted_there, inserted_full, inserted_new}
use Rattle.plan.proofs.inserting.insert.Goals as goal
use Rattle.plan.proofs.inserting.insert.Goals.{then-list-m-via-then-list-m, then-list-m-via-else-list-m+then-m-ge-MAX_ARCS}

pub returns-in-Ok : goal.returns-in-Ok
returns-in-Ok c =
    let p = c.requires.place in
    let h = c.in-Ok.ensures in
    inserted_there _ _ _ p.0 p.1 _ _ c.requires.rising h.0 h.1

pub returns-then-list-m : goal.returns-then-list-m
returns-then-list-m c =
    let p = c.requires.place in
    let h = c.in-Err.ensures in
    inserted_full _ _ _ p.0 p.1 _ _ h.0 h.1 h.2
    (elim c.then-list-m.branch [
      | then-list-m-via-then-list-m w ↦ inl w.if-list-m.true
      | then-list-m-via-else-list-m+then-m-ge-MAX_ARCS w ↦ inr w.if-m-ge-MAX_ARCS.true
    ])

pub returns : goal.returns
returns c =
    let p = c.requires.place in
    let h = c.in-Err.ensures in
    inserted_new _ _ _ p.0 p.1 c.args.t c.in-Err.place h.0 h.1 h.2 c.if-list-m.false c.if-m-ge-MAX_ARCS.false _ c.copy_within.ensures.after
