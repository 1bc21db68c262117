-- Tables over the eight directions and over pairs of offsets.
-- Assumes nothing.
use Rattle.floor.specs.Board.{Dir, N, E, S, W, NE, SE, SW, NW, Offset, less, same, more}

-- what is shown of each of the eight directions is shown of all
pub each : (R : Dir → Type 0) → R N → R E → R S → R W → R NE → R SE → R SW → R NW → (d : Dir) → R d
each R n e s w ne se sw nw N = n
each R n e s w ne se sw nw E = e
each R n e s w ne se sw nw S = s
each R n e s w ne se sw nw W = w
each R n e s w ne se sw nw NE = ne
each R n e s w ne se sw nw SE = se
each R n e s w ne se sw nw SW = sw
each R n e s w ne se sw nw NW = nw

-- what is shown of each offset is shown of all
pub offset : (R : Offset → Type 0) → R less → R same → R more → (o : Offset) → R o
offset R l s m less = l
offset R l s m same = s
offset R l s m more = m

-- what is shown of each two offsets is shown of all
pub offset_pair : (R : Offset → Offset → Type 0) → R less less → R less same → R less more → R same less → R same same → R same more →
    R more less → R more same → R more more → (h v : Offset) → R h v
offset_pair R ll ls lm sl ss sm ml ms mm h v =
    offset (λ h. (v : Offset) → R h v) (offset (R less) ll ls lm) (offset (R same) sl ss sm) (offset (R more) ml ms mm) h v
