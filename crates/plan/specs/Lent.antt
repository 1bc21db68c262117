-- The four lists of a plan as they are lent.
use Rattle.plan.specs.Plan.{Lists}
use Rattle.plan.specs.declared.Plan.{Plan}

abbrev pub lists_of : Plan → Lists
lists_of p = record { clear = p.clear.now; corners = p.corners.now; starts = p.starts.now; neighbours = p.neighbours.now }
