-- 000, Definitions 2 and 3, and chains of links.
use Rattle.std.specs.Prelude.{◌≡◌, true, false, List, ◌≢◌}
use Rattle.lengths.specs.Lengths.{Len, ◌⊕◌}
use Rattle.floor.specs.Board.{Board, Place, Dir, corner}
use Rattle.ground.specs.Kind.{Kind}
use Rattle.ground.specs.Walk.{Walk, len, passes}

-- no legal walk from s to t of this length passes a turning point other than at its two ends
abbrev pub Clear : Kind → Board → Place → Place → Len → Type 0
Clear K B s t l = (ds : List Dir) → Walk K B s t ds → len ds ≡ l → passes B s ds ≡ false

-- Definition 2: some legal walk has the length that the two places are apart, and none of that length passes a third turning point
pub record Direct (K : Kind) (B : Board) (s t : Place) : Type 0 where
  pub reached : (ds : List Dir) × Walk K B s t ds × (len ds ≡ K.apart s t)
  pub clear : Clear K B s t (K.apart s t)

-- Definition 3: two different turning points are linked when they are direct
pub record Link (K : Kind) (B : Board) (s t : Place) : Type 0 where
  pub from : corner B s ≡ true
  pub to : corner B t ≡ true
  pub two : s ≢ t
  pub direct : Direct K B s t

-- A chain: places each joined to the next as Definition 2 says, all but the two ends turning points, with the sum of what they are apart.
pub data Chain (K : Kind) (B : Board) : Place → Place → Len → Type 0 where
  last : {s t : Place} → s ≢ t → Direct K B s t → Chain K B s t (K.apart s t)
  join : {s p t : Place} {l : Len} → s ≢ p → Direct K B s p → corner B p ≡ true → Chain K B p t l → Chain K B s t (K.apart s p ⊕ l)
