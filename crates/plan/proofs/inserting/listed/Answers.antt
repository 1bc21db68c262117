-- `plan::inserting::listed` meets its contract: in ascending entries t stands where it is found, or nowhere. Assumes nothing.
use Rattle.plan.proofs.Searches.{told_in}
use Rattle.plan.proofs.inserting.listed.Goals as goal

pub returns : goal.returns
returns c = told_in _ _ c.requires _ _ c.binary_search.ensures.position c.is_ok.ensures.value
