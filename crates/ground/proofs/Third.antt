-- On a walk that is as long as its ends are apart no place strictly between the ends is one of them:
-- so to pass a turning point between the ends is to pass a third one, as document 01 has it.
-- Assumes nothing.
use mathlib.Core.Path.{◌≡◌, sym, ◌∙◌, ap}
use mathlib.Core.List.{List, [], ◌++◌}
use mathlib.Core.Logic.{◌≢◌}
use Prim.Native.Nat.{◌<◌}
use native.Mathlib.Omega.{arith}
use lib.ListN.{length}
use Rattle.lengths.specs.Lengths.{Len, 𝟎}
use Rattle.floor.specs.Board.{Board, Padded, Place, Dir}
use Rattle.ground.specs.Kind.{Kind}
use Rattle.ground.specs.Walk.{end, Legal, Walk, len}
use Rattle.ground.proofs.Walks.{start_free, end_append, legal_first, legal_rest}
use Rattle.ground.proofs.Ways.{Tame, Ways}
use Rattle.ground.proofs.Tame.{tame_part, tame_rest}
use Rattle.ground.proofs.Axes.{counts}

module _ {K : Kind} (W : Ways K) {B : Board} (padded : Padded B) where
  -- a tame walk that takes a step does not come back
  leaves : (s : Place) (ds : List Dir) → Legal K B s ds → Tame W.Mates ds → 0 < length ds → end s ds ≢ s
  leaves s ds l m h e =
      let z : len ds ≡ 𝟎 =
      W.tame_apart padded s ds l m ∙ ap (K.apart s) e ∙ sym (W.tame_apart padded s [] (start_free K B s ds l) tt) in
      omega (arith, (counts ds).steps, ap (λ (k : Len). k.straight) z, ap (λ (k : Len). k.diagonal) z)

  -- Where a walk that is as long as its ends are apart is cut, there is neither end.
  pub between_is_third : (s t : Place) (μ ν : List Dir) → Walk K B s t (μ ++ ν) → len (μ ++ ν) ≡ K.apart s t → 0 < length μ → 0 < length ν →
      (end s μ ≢ s) × (end s μ ≢ t)
  between_is_third s t μ ν w e p q =
      let m : Tame W.Mates (μ ++ ν) = W.apart_tame s (μ ++ ν) (e ∙ ap (K.apart s) (sym w.1)) in (
        leaves s μ (legal_first K B s μ ν w.0) (tame_part W.Mates μ ν m) p,
        λ k. leaves (end s μ) ν (legal_rest K B s μ ν w.0) (tame_rest W.Mates μ ν m) q (sym (end_append s μ ν) ∙ w.1 ∙ sym k),
      )
