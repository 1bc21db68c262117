-- What recognising a plan's starts and neighbours takes and tells. These are states of code.
use Rattle.std.specs.Prelude.{ℕ, suc, ◌≤◌, ◌<◌, List, ◌⊎◌, ◌≡◌, length, get_or}
use Rattle.ground.specs.Kind.{walkers}
use Rattle.corners.specs.Lists.{part, Picked}
use Rattle.fields.specs.Fields.{ShownIn, Seen}
use Rattle.plan.specs.Plan.{LinkedCells}
use Rattle.plan.specs.Rising.{In, Rising}
use Rattle.std.specs.Prelude.{Option, Some, None}

-- ---- a turning point's neighbours, counted
-- a row showed nothing and the count stays, or what it showed is listed and counted; or what it showed is not listed
abbrev pub TallyShown : List ℕ → Option ℕ → ℕ → Option ℕ → Type 0
TallyShown listed None count told = told ≡ Some count
TallyShown listed (Some t) count (Some k) = In t listed × (k ≡ suc count)
TallyShown listed (Some t) count None = ¬ (In t listed)

-- row n of field g is passed before row m of field f
abbrev pub Before : ℕ → ℕ → ℕ → ℕ → Type 0
Before g n f m = (g < f) ⊎ ((g ≡ f) × (n < m))

module _ (w h : ℕ) (words : List ℕ) (s : ℕ) where
  -- a row before row m of field f shows t from cell s
  pub record ShownBefore (f m t : ℕ) : Type 0 where
    pub field : ℕ
    pub row : ℕ
    pub before : Before field row f m
    pub shown : ShownIn w h words s field row t

  -- `count` turning points, all of them listed, are shown from cell s by rows before row m of field f, among them all that the fields
  -- before f show
  pub record Tallied (listed : List ℕ) (f m count : ℕ) : Type 0 where
    pub found : List ℕ
    pub rising : Rising found
    pub many : length found ≡ count
    pub known : (t : ℕ) → In t found → In t listed
    pub shown : (t : ℕ) → In t found → ShownBefore f m t
    pub all : (g n t : ℕ) → g < f → ShownIn w h words s g n t → In t found

  -- a turning point that is seen from cell s is not listed
  pub record Unlisted (listed : List ℕ) : Type 0 where
    pub t : ℕ
    pub seen : Seen w h words s t
    pub missing : ¬ (In t listed)

  -- field f was counted too, or one that it shows is not listed
  abbrev pub FieldTallied : List ℕ → ℕ → Option ℕ → Type 0
  FieldTallied listed f (Some k) = Tallied listed (suc f) 0 k
  FieldTallied listed f None = Unlisted listed

-- ---- starts
-- the starts of n turning points with m neighbours: one more than the turning points, from 0 up to m
pub record Started (n m : ℕ) (starts : List ℕ) : Type 0 where
  pub one_more : length starts ≡ suc n
  pub first : get_or starts 0 0 ≡ 0
  pub last : get_or starts n 0 ≡ m
  pub rising : (k : ℕ) → k < n → get_or starts k 0 ≤ get_or starts (suc k) 0

-- each turning point has its neighbours where the starts say
abbrev pub RowsMatch : ℕ → ℕ → List ℕ → List ℕ → List ℕ → List ℕ → Type 0
RowsMatch w h words corners starts list =
    (k : ℕ) → k < length corners →
    Picked (LinkedCells walkers w h words (get_or corners k 0)) corners (part list (get_or starts k 0) (get_or starts (suc k) 0))
