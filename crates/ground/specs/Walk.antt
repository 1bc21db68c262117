-- Walks on a board, their ends and lengths, and shortest walks (01, "The floor" and "Lengths").
use Rattle.std.specs.Prelude.{◌≡◌, Bool, true, false, cond, ◌&&◌, ◌||◌, List, [], ◌∷◌}
use Rattle.lengths.specs.Lengths.{Len, pair, 𝟎, ◌⊕◌, ◌≼◌}
use Rattle.floor.specs.Board.{Board, Place, Dir, go, Free, slanted, step, corner}
use Rattle.ground.specs.Kind.{Kind}

-- where a list of directions from a place ends
abbrev pub end : Place → List Dir → Place
end p [] = p
end p (d ∷ ds) = end (go d p) ds

-- it is legal all along
abbrev pub Legal : Kind → Board → Place → List Dir → Type 0
Legal K B p [] = Free B p
Legal K B p (d ∷ ds) = Free B p × ((K.permits d && step B d p) ≡ true) × Legal K B (go d p) ds

-- a walk from s to t
abbrev pub Walk : Kind → Board → Place → Place → List Dir → Type 0
Walk K B s t ds = Legal K B s ds × (end s ds ≡ t)

-- the length of one step
abbrev pub size : Dir → Len
size d = cond (slanted d) (pair 0 1) (pair 1 0)

-- the length of a walk: how many straight and how many diagonal steps
abbrev pub len : List Dir → Len
len [] = 𝟎
len (d ∷ ds) = size d ⊕ len ds

-- the length of the shortest walks from s to t
pub record Shortest (K : Kind) (B : Board) (s t : Place) (l : Len) : Type 0 where
  pub some : (ds : List Dir) × Walk K B s t ds × (len ds ≡ l)
  pub least : (ds : List Dir) → Walk K B s t ds → l ≼ len ds

-- no walk leads from s to t
abbrev pub NoWalk : Kind → Board → Place → Place → Type 0
NoWalk K B s t = (ds : List Dir) → ¬ (Walk K B s t ds)

-- whether a walk passes a turning point other than at its two ends
abbrev pub passes : Board → Place → List Dir → Bool
passes B p [] = false
passes B p (d ∷ []) = false
passes B p (d ∷ e ∷ ds) = corner B (go d p) || passes B (go d p) (e ∷ ds)
