-- A claim of all shortest lengths from one place, and how it is checked: the start claims no length, and no legal step leads from a claimed
-- place to one that is unclaimed or claims more than the step adds. And the same as a test over every place of a bounded board.
use Rattle.std.specs.Prelude.{◌≡◌, Bool, true, not, cond, ◌&&◌, ℕ, eqb}
use Rattle.lengths.specs.Lengths.{Len, 𝟎, ◌⊕◌, ◌≼◌, shorter}
use Rattle.floor.specs.Board.{Board, Place, Free, Dir, dir_at, go, step}
use Rattle.ground.specs.Kind.{Kind}
use Rattle.ground.specs.Walk.{size}
use Rattle.ground.specs.Test.{upto}

-- whether a place is claimed to be reached, and at what length
pub record Claim : Type 0 where
  pub reached : Place → Bool
  pub far : Place → Len

-- the start claims no length, and every legal step from a claimed place leads to one that claims no more than the step adds
pub record Certified (K : Kind) (B : Board) (s : Place) (c : Claim) : Type 0 where
  pub start : c.reached s ≡ true
  pub zero : c.far s ≡ 𝟎
  pub onward : (p : Place) (d : Dir) → Free B p → (K.permits d && step B d p) ≡ true → c.reached p ≡ true →
      (c.reached (go d p) ≡ true) × (c.far (go d p) ≼ c.far p ⊕ size d)

-- the test f passes for each of the eight directions
abbrev pub every : (Dir → Bool) → Bool
every f = upto 7 (λ n. f (dir_at n))

-- the step d from p, if it is legal and p is claimed, leads to a claimed place that claims no more than the step adds
abbrev pub onward : Kind → Board → Claim → Place → Dir → Bool
onward K B c p d =
    cond (B p.x p.y && ((K.permits d && step B d p) && c.reached p))
    (c.reached (go d p) && not (shorter (c.far p ⊕ size d) (c.far (go d p)))) true

-- the test of a claim on a board that is bounded by w and h
unfoldable pub certifies : Kind → Board → ℕ → ℕ → Place → Claim → Bool
certifies K B w h s c =
    c.reached s
    && ((eqb (c.far s).straight 0 && eqb (c.far s).diagonal 0)
    && upto w (λ x. upto h (λ y. every (onward K B c (record { x = x; y = y })))))
