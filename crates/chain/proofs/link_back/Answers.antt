-- `chain::link_back` meets its contract: the loop's invariant: NEXT leads from v to the goal along the end of the chain, and what
-- leads to v with the legs' lengths is the shortest length. The label falls with each turn. Assumes nothing.
use Prim.Native.Nat.{ℕ, ◌+◌, ◌*◌, ◌≤◌, ◌<◌}
use mathlib.Core.Path.{subst}
use native.Mathlib.Omega.{arith}
use lib.ListN.{length}
use Rattle.lengths.specs.Lengths.{pair, len_of}
use Rattle.places.proofs.Columns.{only_same, only_trans}
use Rattle.places.specs.Roads.{on}
use Rattle.chain.specs.Chain.{Journey, Walked, Prior}
use Rattle.chain.proofs.Backwards.{goal_reached, reached_inside, Tracing, tracing_none, leg_fits, tracing_next, tracing_done, reached_kept, prior_kept, walked_kept}
use Rattle.chain.proofs.link_back.Goals as goal
use Rattle.chain.proofs.link_back.Goals.{After-leg_length-leg, After-place_before-u, At-loop-v}

pub loop-v-init : goal.loop-v-init
loop-v-init c = (only_same _ _ _, goal_reached c.requires.1, λ a k. tracing_none k)

pub place_before-u-requires : goal.place_before-u-requires
place_before-u-requires c =
    let t = c.args.roads.now.trip in
    let l = c.loop-v in
    record {
      walked = (c.requires.0, walked_kept t l.invariant.0 c.requires.1);
      reached = reached_kept t l.invariant.0 l.invariant.1;
      other = c.loop-v-test.true;
    }

-- the place before v, by the labels as they were
prior : (c : After-place_before-u) (a : Journey) →
    on (Walked a) c.args.roads.now c.args.work.now →
    on (Prior a) c.args.roads.now c.args.work.now c.loop-v.v c.place_before-u.result
prior c a k =
    let t = c.args.roads.now.trip in
    let o = c.loop-v.invariant.0 in
    prior_kept t o (c.place_before-u.ensures a (walked_kept t o k))

-- v is one of the places
v_inside : (c : After-place_before-u) → c.loop-v.v < c.args.roads.now.trip.k + 2
v_inside c = reached_inside c.requires.1 c.loop-v.v c.loop-v.invariant.1.settled

pub leg_length-leg-requires : goal.leg_length-leg-requires
leg_length-leg-requires c =
    let k = c.requires.1 in
    let s = (goal.at.leg_length-leg-requires c).After-place_before-u in
    ((prior s c.requires.0 k).inside, v_inside s)

-- with one leg more the counts fit
fits : (c : After-leg_length-leg) →
    on (Prior c.requires.0) c.args.roads.now c.args.work.now c.loop-v.v c.place_before-u.result →
    (c.loop-v.straight + (len_of c.leg_length-leg.result).straight < 65536) × (c.loop-v.diagonal + (len_of c.leg_length-leg.result).diagonal < 65536)
fits c p =
    let k = c.requires.1 in
    leg_fits k (c.loop-v.invariant.2 c.requires.0 k) p c.leg_length-leg.ensures

pub overflow_add-straight : goal.overflow_add-straight
overflow_add-straight c =
    let s = goal.at.overflow_add-straight c in
    let f = (fits s.After-leg_length-leg (prior s.After-place_before-u c.requires.0 c.requires.1)).0 in
    omega arith

pub overflow_add-diagonal : goal.overflow_add-diagonal
overflow_add-diagonal c =
    let s = goal.at.overflow_add-diagonal c in
    let f = (fits s.After-leg_length-leg (prior s.After-place_before-u c.requires.0 c.requires.1)).1 in
    omega arith

pub overflow_cast-v : goal.overflow_cast-v
overflow_cast-v c = let f = c.requires.1.ready.fair.few in let v = v_inside (goal.at.overflow_cast-v c).After-place_before-u in omega arith

pub overflow_add-v : goal.overflow_add-v
overflow_add-v c = let f = c.requires.1.ready.fair.few in let v = v_inside (goal.at.overflow_add-v c).After-place_before-u in omega arith

-- the columns still have room
room : (c : At-loop-v) → 6 * (c.args.roads.now.trip.k + 2) ≤ length c.loop-v.work
room c = let r = c.requires.1.ready.room in let e = c.loop-v.invariant.0.sized in omega arith

pub put-requires : goal.put-requires
put-requires c =
    let s = goal.at.put-requires c in
    record {
      column = omega arith;
      place = (prior s.After-place_before-u c.requires.0 c.requires.1).inside;
      room = room s.At-loop-v;
    }

pub loop-v-smaller : goal.loop-v-smaller
loop-v-smaller c = (prior (goal.at.loop-v-smaller c).After-place_before-u c.requires.0 c.requires.1).nearer

pub loop-v-preserved : goal.loop-v-preserved
loop-v-preserved c =
    let s = goal.at.loop-v-preserved c in
    let l = c.loop-v in
    let p = prior s.After-place_before-u c.requires.0 c.requires.1 in (
      only_trans l.invariant.0 c.put.ensures.only,
      record { settled = p.settled; near = let n = p.nearer in let m = l.invariant.1.near in omega arith },
      λ a k.
          tracing_next k (l.invariant.2 a k) (prior s.After-place_before-u a k) c.leg_length-leg.ensures c.loop-v-test.true l.invariant.1.settled
          (room s.At-loop-v) c.put.ensures,
    )

pub returns : goal.returns
returns c =
    let s = c.args in
    let l = c.loop-v in
    record {
      only = l.invariant.0;
      linked =
          λ a k.
          tracing_done k l.invariant.0
          (subst (λ (v : ℕ). Tracing a s.roads.now.corners.now s.roads.now.trip s.work.now l.work v (pair l.straight l.diagonal)) c.loop-v-test.false (l.invariant.2 a k));
    }
