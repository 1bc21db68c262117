-- `answering::search_answer` meets its contract: the work space is cleared and prepared, and the search made in it. Assumes nothing.
use mathlib.Core.Logic.{inr}
use mathlib.Core.Path.{refl, ◌∙◌, ap, subst}
use Prim.Native.Nat.{ℕ, ◌<◌, ◌≤◌}
use native.Mathlib.Omega.{arith}
use lib.ListN.{length}
use Rattle.places.proofs.Charts.{fair_before, corner_small}
use Rattle.telling.proofs.Wiping.{zeroed_length}
use Rattle.answering.proofs.Searching.{cleared_empty, still_searchable, search_ready, search_bounded, goal_read, few_settled, goal_walked, answer_found, lost_effort, lost_beyond, found_beyond}
use Rattle.answering.proofs.search_answer.Goals as goal

pub prepare-trip-requires : goal.prepare-trip-requires
prepare-trip-requires c =
    let z = c.zero_first.ensures in
    let long = ap length z ∙ zeroed_length c.args.work.now _ c.requires.room in
    record { able = still_searchable c.requires _ long; empty = cleared_empty _ c.args.work.now _ c.requires.room z }

pub index_corners-requires : goal.index_corners-requires
index_corners-requires c =
    let z = c.zero_first.ensures in
    let long = ap length z ∙ zeroed_length c.args.work.now _ c.requires.room in
    let p = c.prepare-trip.ensures in
    let ready = search_ready c.requires long p in
    record { ascending = ready.fair.ascending; few = omega (arith, ready.fair.corners, ready.fair.few); small = corner_small ready; room = omega arith }

pub invariant_of-roads : goal.invariant_of-roads
invariant_of-roads c =
    let z = c.zero_first.ensures in
    let long = ap length z ∙ zeroed_length c.args.work.now _ c.requires.room in
    record { fair = fair_before _ _ _ _ _ (search_ready c.requires long c.prepare-trip.ensures).fair; indexed = c.index_corners.ensures.indexed }

pub run-effort-requires : goal.run-effort-requires
run-effort-requires c =
    let z = c.zero_first.ensures in
    let long = ap length z ∙ zeroed_length c.args.work.now _ c.requires.room in
    let p = c.prepare-trip.ensures in
    record { ready = search_ready c.requires long p; blank = p.blank; bounded = search_bounded c.requires long p }

pub retrace-requires : goal.retrace-requires
retrace-requires c =
    let z = c.zero_first.ensures in
    let long = ap length z ∙ zeroed_length c.args.work.now _ c.requires.room in
    let p = c.prepare-trip.ensures in
    let r = c.run-effort.ensures in
    let g = subst (λ (x : ℕ). 0 < x) c.get-settled.ensures (omega arith) in
    record { walked = (_, goal_walked c.requires long p r g); effort = few_settled c.requires long p r }

pub returns-then-settled : goal.returns-then-settled
returns-then-settled c =
    let z = c.zero_first.ensures in
    let long = ap length z ∙ zeroed_length c.args.work.now _ c.requires.room in
    let p = c.prepare-trip.ensures in
    let r = c.run-effort.ensures in
    let g = subst (λ (x : ℕ). 0 < x) c.get-settled.ensures (omega arith) in
    let e = c.retrace.ensures in
    record { answer = answer_found c.requires long p r g (e.told _ (goal_walked c.requires long p r g)); beyond = found_beyond c.requires long p r z e.only }

pub returns-else-settled : goal.returns-else-settled
returns-else-settled c =
    let z = c.zero_first.ensures in
    let long = ap length z ∙ zeroed_length c.args.work.now _ c.requires.room in
    let p = c.prepare-trip.ensures in
    let r = c.run-effort.ensures in
    let l = subst (λ (x : ℕ). x ≤ 0) c.get-settled.ensures (omega arith) in
    let n = c.tell_none.ensures in
    record {
      answer = inr (record {
        code = n.code;
        straight = n.straight;
        diagonal = n.diagonal;
        cells = n.cells;
        billed = rw n.billed (lost_effort c.requires long p r l);
        kept = refl;
      });
      beyond = lost_beyond c.requires long p r z;
    }
