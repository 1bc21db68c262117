-- `matching::rises` meets its contract. Assumes nothing.
use Rattle.std.proofs.Common.{rules}
use Rattle.std.specs.Prelude.{ltb}
use Rattle.std.proofs.lemmas.List.Sorted.{answers_always}
use Rattle.matching.proofs.Sorted.{rising_told}
use Rattle.matching.proofs.rises.Goals as goal

pub returns : goal.returns
returns c = rising_told _ _ (c.is_sorted_by.ensures.cases ltb (answers_always _ _ _ (λ f a r g k. search rules)))
