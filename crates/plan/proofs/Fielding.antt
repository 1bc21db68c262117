-- The eight fields of one turning point, one after the other: what they show stands in its place. Assumes nothing.
use Prim.Native.Nat.{ℕ, ◌+◌, ◌≤◌, ◌<◌}
use mathlib.Core.List.{List}
use mathlib.Core.Path.{◌≡◌, ◌∙◌}
use native.Mathlib.Decide.{ℕ_discrete}
use native.Mathlib.Omega.{arith}
use Rattle.corners.specs.Lists.{part}
use Rattle.plan.specs.Rising.{In}
use Rattle.fields.specs.Fields.{ShownIn}
use Rattle.plan.specs.Linking.{Finding, Grown, FieldSwept, OneLinked}
use Rattle.std.specs.Prelude.{Some, None}
use Rattle.plan.proofs.Growing.{grown_trans}

module _ (w h : ℕ) (words : List ℕ) (cell : ℕ) (list₀ : List ℕ) (from : ℕ) where
  -- what the first fields show stands in the list from `from` up to `end`
  pub record Fielded (list : List ℕ) (end field : ℕ) : Type 0 where
    pub in_fields : field ≤ 8
    pub grown : Grown list₀ from from end list
    pub finding : Finding w h words cell list from end
    pub passed : (g n t : ℕ) → g < field → ShownIn w h words cell g n t → In t (part list from end)

  module _ (list : List ℕ) (end field : ℕ) (a : Fielded list end field) (more : field < 8) (exit : List ℕ) where
    -- after one field more
    pub fielded_next : (k : ℕ) → FieldSwept w h words cell list from end field (Some k) exit → Fielded exit k (field + 1)
    fielded_next k s =
        record {
          in_fields = omega arith;
          grown = grown_trans a.grown s.0;
          finding = s.1;
          passed = λ g n t l i. by g n t l i (ℕ_discrete g field);
        }
      where
        by : (g n t : ℕ) → g < field + 1 → ShownIn w h words cell g n t → Dec (g ≡ field) → In t (part exit from k)
        by g n t l i (yes e) = s.2 n t (rw e at i)
        by g n t l i (no d) = s.0.kept t (a.passed g n t (omega (arith, d)) i)

    -- where a field finds no room
    pub fielded_crowded : FieldSwept w h words cell list from end field None exit → OneLinked w h words cell list₀ from None exit
    fielded_crowded s = (rw a.grown.as_long at s.0, s.1 ∙ a.grown.as_long)

  -- after the last field all that is seen stands in the list
  pub fielded_end : (list : List ℕ) (end field : ℕ) → Fielded list end field → 8 ≤ field → OneLinked w h words cell list₀ from (Some end) list
  fielded_end list end field a n = (a.grown, a.finding, λ t s. a.passed s.field s.row t (let f = s.field_in in omega arith) s.shown)
