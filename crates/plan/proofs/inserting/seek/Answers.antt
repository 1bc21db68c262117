-- `plan::inserting::seek` meets its contract: the first entry from behind that is not above t tells where t stands or belongs. Assumes nothing.
use Rattle.std.proofs.Common.{◌≡◌, ◌<◌, ◌≤◌, ◌-◌, ⊎_elim, arith}
use Rattle.lengths.specs.Laws.{le_or_lt}
use Rattle.plan.proofs.Risings.{rising_later}
use Rattle.plan.proofs.inserting.seek.Goals as goal

pub returns-else-row-i-2 : goal.returns-else-row-i-2
returns-else-row-i-2 c =
    let row = c.args.row.now in
    let i = c.loop-i.i - 1 in
    let in_row = c.loop-i.auto.i in
    let some = c.loop-i-test.true in
    let most = c.if-row-i.true in
    let other = c.if-row-i-2.false in (
      omega arith,
      (λ k l. ⊎_elim (λ (q : i ≤ k). let e : k ≡ i = omega arith in rw e (omega arith))
          (λ (q : k < i). let h = rising_later row c.requires k i q (omega arith) in omega arith) (le_or_lt i k)),
      (λ k l m. c.loop-i.invariant k (omega arith) m),
    )
