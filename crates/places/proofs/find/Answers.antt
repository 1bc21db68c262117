-- `places::find` meets its contract. Assumes nothing.
use native.Mathlib.Omega.{arith}
use Rattle.places.proofs.Cells.{narrow_some, narrow_none, search_found, index_none}
use Rattle.places.proofs.find.Goals as goal

pub returns-in_err-x : goal.returns-in_err-x
returns-in_err-x c =
    rw c.from_residual.ensures
    (index_none _ _ (λ i h q. let big = narrow_none _ c.try_from.ensures c.in_err-x.ensures.value in omega (arith, big, q, c.type_inv.cells i)))

pub returns : goal.returns
returns c = rw (c.ok-2.ensures.value, ← narrow_some _ c.try_from.ensures c.in_ok-x.ensures.value) (search_found _ c.requires _ _ c.binary_search.ensures.position)
