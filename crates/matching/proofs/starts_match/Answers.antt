-- `matching::starts_match` meets its contract: each of its four tests refutes a part of it. Assumes nothing.
use Rattle.std.proofs.Common.{arith}
use Rattle.floor.proofs.Tables.{missing}
use Rattle.matching.proofs.Sorted.{steps_told}
use Rattle.matching.proofs.starts_match.Goals as goal

pub returns-then-starts-n : goal.returns-then-starts-n
returns-then-starts-n c = missing (λ s. let e = s.one_more in omega arith)

pub returns-then-starts-ne0 : goal.returns-then-starts-ne0
returns-then-starts-ne0 c = missing (λ s. let e = s.first in omega arith)

pub returns : goal.returns
returns c =
    let t = steps_told _ _ c.is_sorted.ensures.cases in
    record {
      yes = λ e. record { one_more = omega arith; first = omega arith; last = omega arith; rising = λ k l. t.yes e k (omega arith) };
      no = λ e s. t.no e (λ k l. s.rising k (let o = s.one_more in omega arith));
    }
