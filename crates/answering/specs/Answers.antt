-- What the search for an answer leaves.
use Rattle.std.specs.Prelude.{ℕ, ◌≡◌, List, ◌⊎◌, length, drop}
use Rattle.lengths.specs.Lengths.{Len}
use Rattle.plan.specs.Plan.{Lists}
use Rattle.effort.specs.Effort.{Far, EffortFound, EffortLost}
use Rattle.chain.specs.Route.{RouteOf}
use Rattle.telling.specs.Told.{Measured, RouteLeft}
use Rattle.telling.specs.declared.Answer.{Answer}

module _ (w h : ℕ) (words : List ℕ) (p : Lists) (start goal : ℕ) where
  -- the search found the goal
  pub record SearchFound (r : Answer) (route₀ route₁ : List ℕ) : Type 0 where
    pub far : Len
    pub shortest : Far w h words start goal far
    pub measured : Measured r far
    pub billed : EffortFound w h words start goal r.effort
    pub cells : List ℕ
    pub is_route : RouteOf w h words start goal cells
    pub left : RouteLeft r cells route₀ route₁ far

  -- the search found no way
  pub record SearchLost (r : Answer) (route₀ route₁ : List ℕ) : Type 0 where
    pub code : r.code ≡ 12
    pub straight : r.straight ≡ 0
    pub diagonal : r.diagonal ≡ 0
    pub cells : r.cells ≡ 0
    pub billed : EffortLost w h words start goal r.effort
    pub kept : route₁ ≡ route₀

  abbrev pub SearchAnswer : Answer → List ℕ → List ℕ → Type 0
  SearchAnswer r route₀ route₁ = SearchFound r route₀ route₁ ⊎ SearchLost r route₀ route₁

-- beyond the first entries that a trip uses, a work space is as it was
pub record Beyond (count : ℕ) (W W' : List ℕ) : Type 0 where
  pub sized : length W' ≡ length W
  pub rest : drop count W' ≡ drop count W
