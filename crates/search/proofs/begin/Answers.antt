-- `search::begin` meets its contract. Assumes nothing.
use native.Mathlib.Omega.{arith}
use Rattle.search.proofs.Steps.{blank_right}
use Rattle.search.proofs.begin.Goals as goal

pub offer-requires-clause-right : goal.offer-requires-clause-right
offer-requires-clause-right c =
    let p = c.requires in
    let fair = c.args.roads.now.fair in
    let few = fair.few in
    blank_right fair.small (omega (arith, p.bare.0)) p.bare.1 p.blank
