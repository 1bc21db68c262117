-- `survey::survey_floor` meets its contract: each way out is an outcome that the promise allows. Assumes nothing.
use Rattle.std.proofs.Common.{◌∙◌}
use Rattle.std.proofs.lemmas.Result.{err_from_is_err_and}
use Rattle.floor.proofs.Accepted.{few_words}
use Rattle.floor.proofs.Numbers.{some_number}
use Rattle.survey.proofs.Surveys.{rows_lent, early_floor, early_lent, lent_bytes, same_wiped, outcome_lent, outcome_refused, outcome_full, outcome_done}
use Rattle.survey.proofs.survey_floor.Goals as goal

pub returns-in_err-floor : goal.returns-in_err-floor
returns-in_err-floor c =
    let r = c.from_residual in
    let p = err_from_is_err_and r.result r.ensures.1 in
    rw (p.1, p.2) (outcome_refused _ _ _ _ _ _ _ _ (early_floor _ _ _ _ _ _ _ c.in_err-floor.ensures.code (some_number _)))

pub returns-in_err-k : goal.returns-in_err-k
returns-in_err-k c =
    let s = c.in_ok-floor.ensures.same in
    let r = c.from_residual-in_err-k in
    let p = err_from_is_err_and r.result r.ensures.1 in
    rw (p.1, p.2)
    (outcome_lent s _ _ _ (outcome_refused _ _ _ _ _ _ _ _ (early_lent _ _ _ _ _ _ _ (rows_lent s _ c.in_ok-floor.ensures.code) c.in_err-k.ensures.code)))

pub returns-in_default : goal.returns-in_default
returns-in_default c =
    let a = c.args in
    let s = c.in_ok-floor.ensures.same in
    let p = early_lent _ _ _ _ _ _ _ (rows_lent s _ c.in_ok-floor.ensures.code) c.in_ok-k.ensures.code in
    let o = c.in_default.ensures in
    outcome_lent s _ _ _ (outcome_full _ _ _ _ _ _ _ p o.0 _
    (c.wipe.ensures ∙ same_wiped c.mark_clearances.new.clear c.mark_corners.new.corners c.link.new.starts c.link.new.list
    a.clear.now a.corners.now a.starts.now a.neighbours.now c.mark_clearances.ensures.as_long c.mark_corners.auto.corners o.1 o.2))

pub count_free-requires : goal.count_free-requires
count_free-requires c = few_words _ _ _ c.in_ok-floor.floor.good.sized

pub returns : goal.returns
returns c =
    let s = c.in_ok-floor.ensures.same in
    let p = early_lent _ _ _ _ _ _ _ (rows_lent s _ c.in_ok-floor.ensures.code) c.in_ok-k.ensures.code in
    outcome_lent s _ _ _ (outcome_done _ _ _ _ _ _ _ p c.in_ok-floor.floor.good (lent_bytes _ _ _ _ _ _ c.in_ok-k.ensures.code) _ _ _ _ _ _ _ c.count_free.ensures c.in_ok-k.ensures.count
    c.mark_clearances.ensures c.mark_corners.ensures c.in-Some.ensures)
