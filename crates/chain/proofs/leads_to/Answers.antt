-- `chain::leads_to` meets its contract. Assumes nothing.
use mathlib.Core.Bool.{true≢false}
use mathlib.Core.Path.{sym, ◌∙◌}
use native.Mathlib.Omega.{arith}
use Rattle.places.proofs.Links.{two_cells}
use Rattle.chain.proofs.Backwards.{leads_tells}
use Rattle.chain.proofs.leads_to.Goals as goal

pub returns-then-get-eq0 : goal.returns-then-get-eq0
returns-then-get-eq0 c = record { yes = λ h. absurd (true≢false (sym h)); no = λ h l. let s = l.settled in let g = c.get.ensures in omega arith }

pub returns : goal.returns
returns c =
    leads_tells _ _ _ c.args.v c.args.u
    c.get.ensures
    c.if-get-eq0.false
    (c.from.ensures ∙ c.get-near.ensures)
    (c.from-3.ensures ∙ c.get-far.ensures)
    c.cell_of-a.ensures
    c.cell_of-b.ensures
    (c.from-2.ensures ∙ c.leg-leg.ensures.apart)
