-- What is told and written of a journey that the search has walked. Assumes nothing.
use Prim.Native.Nat.{ℕ, ◌+◌}
use mathlib.Core.List.{List, ◌∷◌}
use mathlib.Core.Path.{◌≡◌, refl}
use mathlib.Core.Logic.{◌≢◌}
use native.Mathlib.Omega.{arith}
use lib.ListN.{length}
use Rattle.lengths.specs.Lengths.{len_of}
use Rattle.lengths.specs.declared.Length.{Length}
use Rattle.corners.specs.Lists.{written}
use Rattle.places.specs.declared.Trip.{Trip}
use Rattle.places.specs.Columns.{Next, Only}
use Rattle.line.specs.Cells.{legs}
use Rattle.chain.specs.Chain.{Journey, Walked, cells_at, Linked, Paved}
use Rattle.chain.proofs.Backwards.{walked_kept}
use Rattle.chain.proofs.Paving.{linked_route, linked_paved}
use Rattle.telling.specs.Told.{Told, Retraced}
use Rattle.telling.specs.declared.Answer.{Answer}
use Rattle.telling.proofs.Telling.{told_fits}

module _ {a : Journey} {C S E : List ℕ} {t : Trip} {W W' : List ℕ} {l : Length} (k : Walked a C S E t W) (o : Only (t.k + 2) W Next W') (n : Linked a C t W' l)
    {effort : ℕ} {r : Answer} (route₀ : List ℕ) (told : Told (len_of l) effort (length route₀) r) where
  -- where the number is 0, the route can be written along the chain
  pub told_paved : r.code ≡ 0 → Paved C t W' (length route₀) n.places
  told_paved z = linked_paved (walked_kept t o k) n (length route₀) (told_fits told z)

  -- and is
  pub retraced_written : {route₁ : List ℕ} → r.code ≡ 0 → route₁ ≡ written (t.start ∷ legs t.w (cells_at C t n.places)) route₀ → Retraced a effort r route₀ route₁
  retraced_written z e =
      record {
        far = len_of l;
        shortest = n.shortest;
        measured = told.measured;
        billed = told.billed;
        cells = t.start ∷ legs t.w (cells_at C t n.places);
        is_route = linked_route (walked_kept t o k) n;
        left = record { fits = λ m. (z, e); full = λ m. absurd (let f = told.full m in omega arith) };
      }

  -- another number says that there is none
  pub retraced_full : r.code ≢ 0 → Retraced a effort r route₀ route₀
  retraced_full z =
      record {
        far = len_of l;
        shortest = n.shortest;
        measured = told.measured;
        billed = told.billed;
        cells = t.start ∷ legs t.w (cells_at C t n.places);
        is_route = linked_route (walked_kept t o k) n;
        left = record { fits = λ m. absurd (z (told.fits m)); full = λ m. (told.full m, refl) };
      }
