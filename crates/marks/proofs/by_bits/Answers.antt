-- `marks::by_bits` meets its contract: what is read is the next cell's entry where there is a step, else the cell's own. Assumes nothing.
use Prim.Native.Nat.{◌+◌, ◌-◌, ◌*◌}
use mathlib.Core.Bool.{not, cond}
use mathlib.Core.Path.{◌≡◌, ap, ap₂, ◌∙◌}
use lib.ListN.{length, get_or}
use Rattle.marks.specs.Marking.{ahead_of, back_of}
use Rattle.marks.proofs.Orders.{read_made}
use Rattle.marks.proofs.by_bits.Goals as goal
use Rattle.marks.proofs.by_bits.Goals.{After-times-b}

-- what is added to the cell's number
added : (c : After-times-b) → let a = c.args in c.times-a.result ≡ cond a.step.legal (ahead_of a.w a.dir) 0
added c = c.times-a.ensures ∙ ap (λ n. cond c.args.step.legal n 0) c.ahead.ensures

-- what is taken off
taken : (c : After-times-b) → let a = c.args in c.times-b.result ≡ cond a.step.legal (back_of a.w a.dir) 0
taken c = c.times-b.ensures ∙ ap (λ n. cond c.args.step.legal n 0) c.back.ensures

pub returns : goal.returns
returns c =
    let a = c.args in
    let b = (goal.at.returns c).After-times-b in
    c.times-2.ensures
    ∙ ap (λ n. cond a.step.legal (1 + n) 0) c.times.ensures
    ∙ ap (λ n. cond a.step.legal (1 + cond (not a.step.turns) n 0) 0) c.entry-v.ensures.same
    ∙ ap₂ (λ m n. cond a.step.legal (1 + cond (not a.step.turns) (get_or a.clear.now (4 * (a.cell + m - n) + a.dir) 0) 0) 0) (added b) (taken b)
    ∙ read_made a.w (length a.clear.now) a.cell a.dir a.clear.now a.step.legal a.step.turns c.requires.next
