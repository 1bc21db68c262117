-- `marks::mark_clearances` meets its contract: the four passes mark all four directions. Assumes nothing.
use Rattle.marks.proofs.Marked.{four_marked}
use Rattle.marks.proofs.mark_clearances.Goals as goal

pub returns : goal.returns
returns c = four_marked _ _ _ _ _ c.mark_way.ensures c.mark_way-2.ensures c.mark_way-3.ensures c.mark_way-4.ensures
