-- `telling::zero_first` meets its contract. Assumes nothing.
use Prim.Native.Nat.{ℕ}
use mathlib.Core.List.{List, ◌++◌}
use mathlib.Core.Path.{◌∙◌, ap}
use lib.ListN.{drop}
use Rattle.telling.proofs.Wiping.{zeroed_filled}
use Rattle.telling.proofs.zero_first.Goals as goal

pub returns : goal.returns
returns c =
    ap (λ (xs : List ℕ). xs ++ drop c.args.count c.args.work.now) (c.fill.ensures.after (λ y q. q)) ∙ zeroed_filled c.args.work.now c.args.count c.requires
