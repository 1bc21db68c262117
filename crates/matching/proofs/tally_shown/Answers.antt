-- `matching::tally_shown` meets its contract. Assumes nothing.
use Rattle.matching.proofs.Tallying.{told_by}
use Rattle.matching.proofs.tally_shown.Goals as goal

pub returns-in-Some : goal.returns-in-Some
returns-in-Some c = rw c.in-Some.is (told_by _ _ _ _ c.listed.ensures _ c.then_some.ensures)
