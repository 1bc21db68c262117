-- Rays: steps in one direction from a place. Assumes nothing.
use Prim.Native.Nat.{ℕ, zero, suc, ◌≤◌, ◌<◌}
use mathlib.Core.Bool.{true}
use mathlib.Core.Path.{◌≡◌, refl}
use native.Mathlib.Omega.{arith}
use lib.ListN.{replicate}
use Rattle.floor.specs.Board.{Board, Place, Free, Dir, go, step}
use Rattle.ground.specs.Kind.{walkers}
use Rattle.ground.specs.Walk.{Legal}
use Rattle.ground.specs.Clearance.{ahead}
use Rattle.ground.proofs.Logic.{and_left}
use Rattle.ground.proofs.Walks.{start_free}

-- one step further is one step from there
pub ahead_next : (d : Dir) (n : ℕ) (s : Place) → ahead d (suc n) s ≡ go d (ahead d n s)
ahead_next d zero s = refl
ahead_next d (suc n) s = ahead_next d n (go d s)

module _ (B : Board) (d : Dir) where
  -- where a legal step leads is free
  pub step_free : (p : Place) → step B d p ≡ true → Free B (go d p)
  unfolding step
  step_free p h = and_left (B (go d p).x (go d p).y) _ h

  -- the places of a legal ray are free
  pub ray_free : (n i : ℕ) (s : Place) → Legal walkers B s (replicate n d) → i ≤ n → Free B (ahead d i s)
  ray_free n zero s l p = start_free walkers B s (replicate n d) l
  ray_free zero (suc i) s l p = absurd (omega arith)
  ray_free (suc n) (suc i) s l p = ray_free n i (go d s) l.2 (omega arith)

  -- and its steps are legal
  pub ray_step : (n i : ℕ) (s : Place) → Legal walkers B s (replicate n d) → i < n → step B d (ahead d i s) ≡ true
  ray_step zero i s l p = absurd (omega arith)
  ray_step (suc n) zero s l p = l.1
  ray_step (suc n) (suc i) s l p = ray_step n i (go d s) l.2 (omega arith)

  -- a legal step more makes a legal ray
  pub ray_more : (n : ℕ) (s : Place) → Legal walkers B s (replicate n d) → step B d (ahead d n s) ≡ true → Legal walkers B s (replicate (suc n) d)
  ray_more zero s l h = (l, h, step_free s h)
  ray_more (suc n) s l h = (l.0, l.1, ray_more n (go d s) l.2 h)
