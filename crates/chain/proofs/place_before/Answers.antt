-- `chain::place_before` meets its contract: the loop's invariant: of the links looked at, the best is known. Assumes nothing.
use mathlib.Core.Path.{◌≡◌, sym, ◌∙◌, ap}
use native.Mathlib.Omega.{arith}
use Rattle.std.specs.Prelude.{is_some}
use Rattle.places.specs.Chart.{chart, link_count}
use Rattle.places.specs.Roads.{of, on}
use Rattle.places.proofs.Cells.{some_one, none_some}
use Rattle.places.proofs.Links.{link_fits}
use Rattle.chain.proofs.Backwards.{Best, best_none, best_skip, best_more, reached_inside, best_some, best_prior}
use Rattle.chain.specs.Chain.{LeadsTo}
use Rattle.chain.proofs.place_before.Goals as goal
use Rattle.chain.proofs.place_before.Goals.{After-loop-j, in-Some+then-leads_to, in-Some+else-leads_to, in_default}

pub leads_to-requires-clause-inside : goal.leads_to-requires-clause-inside
leads_to-requires-clause-inside c =
    let k = c.requires.walked.1 in
    (reached_inside k c.args.v c.requires.reached.settled, link_fits _ k.ready.fair c.args.v c.in-Some.u c.loop-j.j (omega (arith, c.link_count-count.ensures)) (sym c.link_at.ensures ∙ c.in-Some.is))

pub loop-j-preserved : goal.loop-j-preserved
loop-j-preserved c =
    let b = c.loop-j.invariant in
    let e = sym c.link_at.ensures in
    elim c.match-link_at.branch [
      | in-Some+then-leads_to w ↦ rw w.best-is (best_more b (e ∙ w.in-Some.is) (w.leads_to.ensures.yes w.if-leads_to.true) w.lesser.ensures)
      | in-Some+else-leads_to w ↦
          rw w.best-is (best_skip b (λ x q. rw (some_one (sym (e ∙ w.in-Some.is) ∙ q)) at (w.leads_to.ensures.no w.if-leads_to.false)))
      | in_default w ↦ rw w.best-is (best_skip b (λ x q. absurd (none_some (sym (e ∙ w.in_default.is) ∙ q))))
    ]

-- all links have been looked at
all_seen : (c : After-loop-j) → on Best c.args.roads.now c.args.work.now c.args.v (link_count (of chart c.args.roads.now c.args.work.now) c.args.v) c.loop-j.best
all_seen c =
    let q : c.loop-j.j ≡ link_count (of chart c.args.roads.now c.args.work.now) c.args.v = omega (arith, c.link_count-count.ensures, c.loop-j.auto.j-end) in
    rw q at c.loop-j.invariant

pub unwrap-requires : goal.unwrap-requires
unwrap-requires c =
    ap is_some (best_some c.requires.walked.1 c.requires.reached c.requires.other (all_seen (goal.at.unwrap-requires c).After-loop-j)).1

pub returns : goal.returns
returns c = λ a k. best_prior k c.requires.reached c.requires.other (all_seen (goal.at.returns c).After-loop-j) c.unwrap.result c.unwrap.ensures
