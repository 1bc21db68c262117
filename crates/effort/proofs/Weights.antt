-- Weights order lengths exactly, where these have fewer than 80,782 diagonal steps.
-- Assumes nothing.
use Prim.Native.Nat.{◌+◌, ◌<◌, ◌≤◌}
use mathlib.Core.Path.{◌≡◌}
use native.Mathlib.Omega.{arith}
use Rattle.lengths.specs.Lengths.{Len, ◌⊕◌, ◌≺◌, ◌≼◌}
use Rattle.lengths.specs.Laws.{weight, exact, worth-≼, ≼_of_worth, ≺_of_worth}

-- weights add up
pub weight_sum : (x y : Len) → weight (x ⊕ y) ≡ weight x + weight y
weight_sum x y = omega arith

module _ {x y : Len} where
  -- a short length that is at most another weighs at most what it weighs
  pub weighs-≼ : x.diagonal < 80782 → x ≼ y → weight x ≤ weight y
  weighs-≼ = worth-≼ exact

  -- what weighs at most what a short length weighs is at most it
  pub ≼_by_weight : y.diagonal < 80782 → weight x ≤ weight y → x ≼ y
  ≼_by_weight = ≼_of_worth exact

  -- what weighs less than a short length is less
  pub ≺_by_weight : y.diagonal < 80782 → weight x < weight y → x ≺ y
  ≺_by_weight = ≺_of_worth exact
