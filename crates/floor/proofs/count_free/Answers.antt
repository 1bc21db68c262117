-- `floor::count_free` meets its contract: the sum over the words is that over their bits. Assumes nothing.
use Rattle.std.proofs.Common.{◌≡◌, ◌-◌, length, ◌∙◌, rules, arith}
use Rattle.std.specs.List.{sum_by}
use lib.Count.{ones}
use lib.Seq.{take-length}
use Rattle.floor.proofs.Ones.{clear_all}
use Rattle.floor.proofs.count_free.Goals as goal

pub returns : goal.returns
returns c =
    let words = c.args.words.now in
    let s : c.sum.result ≡ sum_by (λ word. 64 - ones word) words = search rules in
    s ∙ (rw take-length at (clear_all words (λ i. omega (arith, c.type_inv.words i)) (length words) (omega arith)))
