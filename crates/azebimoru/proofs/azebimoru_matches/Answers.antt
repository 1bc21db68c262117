-- `azebimoru::azebimoru_matches` meets its contract: a floor that is refused has no plan of its own. Assumes nothing.
use native.Mathlib.Omega.{arith}
use Rattle.floor.specs.Words.{floor_rows}
use Rattle.floor.proofs.Accepted.{rows_pass}
use Rattle.floor.proofs.Tables.{missing, first_unique}
use Rattle.floor.proofs.Numbers.{some_number}
use Rattle.azebimoru.proofs.azebimoru_matches.Goals as goal

pub returns-in-Err : goal.returns-in-Err
returns-in-Err c =
    missing (λ o.
    let e = first_unique (floor_rows _ _ _) _ 0 c.in-Err.ensures.code (rows_pass _ _ _ o.floor) in
    let l = some_number c.in-Err.field-0 in
    omega arith)
