-- What the two kinds of walk have in common, for the theorems that hold of both: which two directions may stand in one leg (mates), that
-- they may change places, that other steps have a detour, and that a walk of mates has the length that its ends are apart.
-- Assumes nothing: the record is a list of what is to be proved of a kind.
use mathlib.Core.Path.{◌≡◌}
use mathlib.Core.Bool.{true, false}
use mathlib.Core.List.{List, [], ◌∷◌}
use mathlib.Core.Logic.{◌⊎◌}
use Rattle.lengths.specs.Lengths.{◌≺◌, ◌≼◌}
use Rattle.floor.specs.Board.{Board, Padded, Place, Dir, dx, dy, go, corner}
use Rattle.ground.specs.Kind.{Kind}
use Rattle.ground.specs.Walk.{end, Legal, Walk, len}
use Rattle.ground.specs.Line.{compass}
use Rattle.ground.proofs.Cells.{back}

-- a is a mate of every direction of a list
abbrev pub AllMates : (Dir → Dir → Type 0) → Dir → List Dir → Type 0
AllMates Mates a [] = Unit {0}
AllMates Mates a (b ∷ ρ) = Mates a b × AllMates Mates a ρ

-- every two directions of a list are mates
abbrev pub Tame : (Dir → Dir → Type 0) → List Dir → Type 0
Tame Mates [] = Unit {0}
Tame Mates (a ∷ ρ) = AllMates Mates a ρ × Tame Mates ρ

-- a walk with the same ends that is shorter
pub record Detour (K : Kind) (B : Board) (s : Place) (ds : List Dir) : Type 0 where
  pub walk : List Dir
  pub legal : Legal K B s walk
  pub same_end : end s walk ≡ end s ds
  pub shorter : len walk ≺ len ds

-- the direction back
abbrev pub opposite_of : Dir → Dir
opposite_of d = compass (back (dx d)) (back (dy d))

-- what is permitted is permitted backwards
pub record Returns (K : Kind) : Type 0 where
  pub permits_back : (d : Dir) → K.permits d ≡ true → K.permits (opposite_of d) ≡ true

-- what is asked of a kind
pub record Ways (K : Kind) : Type 1 where
  -- which two directions may stand in one leg
  pub Mates : Dir → Dir → Type 0
  -- two mates lead to the same place in either order
  pub meet : (a b : Dir) (s : Place) → Mates a b → go a (go b s) ≡ go b (go a s)
  -- A: they may change places where the place between them is no turning point
  pub swap : {B : Board} → Padded B → (a b : Dir) (ρ : List Dir) (s : Place) → Mates a b → corner B (go a s) ≡ false →
      Legal K B s (a ∷ b ∷ ρ) → Legal K B s (b ∷ a ∷ ρ)
  -- B: two steps round a place that is no turning point are mates, or there is a shorter walk
  pub turn : {B : Board} → Padded B → (a b : Dir) (ρ : List Dir) (s : Place) → Legal K B s (a ∷ b ∷ ρ) → corner B (go a s) ≡ false →
      Mates a b ⊎ Detour K B s (a ∷ b ∷ ρ)
  -- a walk of mates is as long as its ends are apart, and a list that is so long is one of mates; none is shorter
  pub tame_apart : {B : Board} → Padded B → (s : Place) (ds : List Dir) → Legal K B s ds → Tame Mates ds → len ds ≡ K.apart s (end s ds)
  pub apart_tame : (s : Place) (ds : List Dir) → len ds ≡ K.apart s (end s ds) → Tame Mates ds
  pub apart_least : (B : Board) (s t : Place) (ds : List Dir) → Walk K B s t ds → K.apart s t ≼ len ds
  -- both ways are the same
  pub apart_comm : (s t : Place) → K.apart s t ≡ K.apart t s
  pub returns : Returns K
