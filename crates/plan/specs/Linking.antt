-- What linking leaves in the list of neighbours, turning point by turning point. These are states of code.
use Rattle.std.specs.Prelude.{ℕ, ◌+◌, ◌≤◌, ◌<◌, List, ◌⊎◌, ◌≡◌, length, get_or}
use Rattle.ground.specs.Kind.{walkers}
use Rattle.corners.specs.Lists.{part, written}
use Rattle.plan.specs.Plan.{Links}
use Rattle.plan.specs.Rising.{In, Rising}
use Rattle.fields.specs.Fields.{ShownIn, Seen}
use Rattle.plan.specs.Inserting.{Inserted}
use Rattle.plan.specs.Arcs.{TooMany}
use Rattle.std.specs.Prelude.{Option, Some, None}

-- nothing was shown, or what was shown was put in its place
abbrev pub PutShown : List ℕ → ℕ → ℕ → Option ℕ → Option ℕ → List ℕ → Type 0
PutShown list from m None r exit = (r ≡ Some m) × (exit ≡ list)
PutShown list from m (Some t) r exit = Inserted list from m t r exit

module _ (w h : ℕ) (words : List ℕ) (s : ℕ) where
  -- what stands from `from` up to m ascends, and each was seen from s
  pub record Finding (list : List ℕ) (from m : ℕ) : Type 0 where
    pub after : from ≤ m
    pub inside : m ≤ length list
    pub few : m ≤ 32768
    pub rising : Rising (part list from m)
    pub seen : (t : ℕ) → In t (part list from m) → Seen w h words s t

  -- more was seen from s than there is room for from `from` on, or than there may be
  pub record Crowded (length-lent from : ℕ) : Type 0 where
    pub found : List ℕ
    pub rising : Rising found
    pub seen : (t : ℕ) → In t found → Seen w h words s t
    pub too_many : (length-lent < from + length found) ⊎ (32768 < from + length found)

-- the entries from `from` up to k took the place of those up to m, and nothing else changed
pub record Grown (entry : List ℕ) (from m k : ℕ) (exit : List ℕ) : Type 0 where
  pub as_long : length exit ≡ length entry
  pub later : m ≤ k
  pub before : (i : ℕ) → i < from → get_or exit i 0 ≡ get_or entry i 0
  pub behind : (i : ℕ) → k ≤ i → get_or exit i 0 ≡ get_or entry i 0
  pub kept : (t : ℕ) → In t (part entry from m) → In t (part exit from k)

-- field f was swept from cell s, and what its rows show put in place
abbrev pub FieldSwept : ℕ → ℕ → List ℕ → ℕ → List ℕ → ℕ → ℕ → ℕ → Option ℕ → List ℕ → Type 0
FieldSwept w h words s entry from m f (Some k) exit =
    Grown entry from m k exit × Finding w h words s exit from k × ((n t : ℕ) → ShownIn w h words s f n t → In t (part exit from k))
FieldSwept w h words s entry from m f None exit = Crowded w h words s (length entry) from × (length exit ≡ length entry)

-- all eight were: what stands from `from` on is what is seen from s
abbrev pub OneLinked : ℕ → ℕ → List ℕ → ℕ → List ℕ → ℕ → Option ℕ → List ℕ → Type 0
OneLinked w h words s entry from (Some k) exit =
    Grown entry from from k exit × Finding w h words s exit from k × ((t : ℕ) → Seen w h words s t → In t (part exit from k))
OneLinked w h words s entry from None exit = Crowded w h words s (length entry) from × (length exit ≡ length entry)

-- starts and neighbours were written, m of these
pub record AllLinked (w h : ℕ) (words corners starts₀ list₀ : List ℕ) (m : ℕ) (starts₁ list₁ : List ℕ) : Type 0 where
  pub starts : List ℕ
  pub neighbours : List ℕ
  pub links : Links walkers w h words corners starts neighbours
  pub count : length neighbours ≡ m
  pub few : m ≤ 32768
  pub starts_room : length starts ≤ length starts₀
  pub room : m ≤ length list₀
  pub starts_written : starts₁ ≡ written starts starts₀
  pub list_written : list₁ ≡ written neighbours list₀

-- linking wrote all, or there are more neighbours than there is room for or than there may be
abbrev pub LinkOutcome : ℕ → ℕ → List ℕ → List ℕ → List ℕ → List ℕ → Option ℕ → List ℕ → List ℕ → Type 0
LinkOutcome w h words corners starts₀ list₀ (Some m) starts₁ list₁ = AllLinked w h words corners starts₀ list₀ m starts₁ list₁
LinkOutcome w h words corners starts₀ list₀ None starts₁ list₁ =
    TooMany w h words (length list₀) × (length starts₁ ≡ length starts₀) × (length list₁ ≡ length list₀)
