-- The one statement over the table of sums. Assumes nothing.
use Prim.Native.Nat.{ℕ, pred, ◌+◌}
use mathlib.Core.Bool.{true, false, true≢false}
use mathlib.Core.List.{List, [], ◌∷◌}
use mathlib.Core.Logic.{inl, inr, ⊎_elim}
use mathlib.Core.Path.{◌≡◌, refl, sym, ◌∙◌, ap}
use native.Mathlib.Omega.{arith}
use lib.Dec.{eqb}
use borrow.Author.Tests.{eqb-false}
use Rattle.lengths.specs.Lengths.{Len, pair, over, shorter}
use Rattle.lengths.specs.Laws.{shorter-≺, 𝟎_least}
use Rattle.floor.specs.Board.{Place, N, E, S, corner, nook, step}
use Rattle.floor.specs.Words.{board, free_in, place_of}
use Rattle.floor.proofs.Places.{padded}
use Rattle.ground.specs.Kind.{walkers}
use Rattle.ground.specs.Walk.{Legal, len}
use Rattle.ground.specs.Line.{line}
use Rattle.ground.specs.Test.{joined}
use Rattle.ground.specs.Clearance.{Clearance}
use Rattle.ground.specs.Certificate.{Claim, Certified, certifies}
use Rattle.ground.proofs.Joined.{joined_iff_direct}
use Rattle.ground.proofs.Certificate.{certifies_certified, certified_shortest, certified_none}
use Rattle.corners.specs.Lists.{select}
use Rattle.plan.specs.Plan.{LinkedCells}
use Rattle.ground.proofs.Numbers.{within}
use Rattle.marks.proofs.Recurrence.{clearance_none, clearance_one, clearance_more}
use Rattle.effort.specs.Effort.{PlaceCell, Far, EffortFound, EffortLost}
use Rattle.settling.specs.Counts.{empty, with, without}
use Rattle.sums.specs.Drawing.{hall, bent, split, barred}
use Rattle.sums.specs.Table.{table, AllHold, NoWay}

-- a cell that is no turning point, nor start or goal, is no place
no_place : (w h : ℕ) (words : List ℕ) (s g c : ℕ) → corner (board w h words) (place_of w c) ≡ false → ¬ (c ≡ s) → ¬ (c ≡ g) → ¬ (PlaceCell w h words s g c)
no_place w h words s g c f p q k = ⊎_elim (λ e. true≢false (sym e ∙ f)) (⊎_elim p q) k.one_of

-- ---- P5 and P6: clearances, each by that of the next cell
-- cell 1, a turning point, is one step east of cell 0
P5_east : Clearance (board 5 3 hall) E (place_of 5 0) 1
unfolding board free_in corner nook
P5_east = clearance_one (board 5 3 hall) E (place_of 5 0) refl refl refl

-- two steps south of cell 0 the floor ends
P5_south : Clearance (board 5 3 hall) S (place_of 5 0) 2
unfolding board free_in corner nook
P5_south =
    clearance_more (board 5 3 hall) S (place_of 5 0) refl 1 refl
    (clearance_more (board 5 3 hall) S (place_of 5 5) refl 0 refl (clearance_none (board 5 3 hall) S (place_of 5 10) refl refl))

-- north of cell 1 the floor ends
P6_north : Clearance (board 5 3 hall) N (place_of 5 1) 0
unfolding board free_in corner nook
P6_north = clearance_none (board 5 3 hall) N (place_of 5 1) refl refl

-- cell 3, a turning point, is two steps east of cell 1
P6_east : Clearance (board 5 3 hall) E (place_of 5 1) 2
unfolding board free_in corner nook
P6_east =
    clearance_more (board 5 3 hall) E (place_of 5 1) refl 1 refl (clearance_one (board 5 3 hall) E (place_of 5 2) refl refl refl)

-- ---- P7: links, by the test of Definition 2
-- cells 1 and 13 are not linked
P7_not : ¬ (LinkedCells walkers 5 3 hall 1 13)
unfolding board free_in joined step corner nook
P7_not l = true≢false (sym ((joined_iff_direct (padded 5 3 hall) (place_of 5 1) (place_of 5 13)).1 l.direct) ∙ refl)

-- cells 1 and 11 are linked
P7_linked : LinkedCells walkers 5 3 hall 1 11
unfolding board free_in joined step corner nook
P7_linked =
    record {
      from = refl;
      to = refl;
      two = λ e. eqb-false 1 3 refl (ap (λ (p : Place). p.y) e);
      direct = (joined_iff_direct (padded 5 3 hall) (place_of 5 1) (place_of 5 11)).0 refl;
    }

-- ---- P9 and P10: the bent floor, whose cells claim their column and row in straight steps
-- the claim: every cell is reached, in as many straight steps as its column and row make
bent_claim : Claim
bent_claim = record { reached = λ p. true; far = λ p. pair (pred p.x + pred p.y) 0 }

-- the claim passes its check: no step leads to a cell that claims more than the step adds
bent_certified : Certified walkers (board 2 2 bent) (place_of 2 0) bent_claim
unfolding bent_claim board free_in certifies step shorter over
bent_certified = certifies_certified walkers (within 2 2 bent) (place_of 2 0) bent_claim refl

-- cell 0 is the start, no step away
bent_0 : Far 2 2 bent 0 0 (pair 0 0)
unfolding bent_claim board free_in step
bent_0 = certified_shortest bent_certified (place_of 2 0) [] (refl, refl) refl

-- cell 2 is one straight step away
bent_2 : Far 2 2 bent 0 2 (pair 1 0)
unfolding bent_claim board free_in step
bent_2 = certified_shortest bent_certified (place_of 2 2) (S ∷ []) ((refl, refl, refl), refl) refl

-- cell 3 is two straight steps away
bent_3 : Far 2 2 bent 0 3 (pair 2 0)
unfolding bent_claim board free_in step
bent_3 = certified_shortest bent_certified (place_of 2 3) (S ∷ E ∷ []) ((refl, refl, (refl, refl, refl)), refl) refl

-- the start, the turning point and the goal rank no later than the goal; cell 1 is no place
P10_effort : EffortFound 2 2 bent 0 3 3
unfolding board free_in corner nook shorter over
P10_effort =
    record {
      far = pair 2 0;
      shortest = bent_3;
      counted =
          with {x = 3} (record { inside = omega arith; one_of = inr (inr refl) }, record { far = pair 2 0; shortest = bent_3; ranks = inr (refl, omega arith) })
          (with {x = 2} (record { inside = omega arith; one_of = inl refl }, record { far = pair 1 0; shortest = bent_2; ranks = inl (shorter-≺ (pair 1 0) (pair 2 0) refl) })
          (without (λ p. no_place 2 2 bent 0 3 1 refl (eqb-false 1 0 refl) (eqb-false 1 3 refl) p.0)
          (with {x = 0} (record { inside = omega arith; one_of = inr (inl refl) }, record { far = pair 0 0; shortest = bent_0; ranks = inl (shorter-≺ (pair 0 0) (pair 2 0) refl) })
          empty)));
    }

-- the direct line is the diagonal step that the blocked cell forbids
P10_line : ¬ (Legal walkers (board 2 2 bent) (place_of 2 0) (line (place_of 2 0) (place_of 2 3)))
unfolding board free_in step
P10_line l = true≢false (sym l.1)

-- ---- P11 and P12: only the first column is claimed, and nothing leads out of it
-- the claim: just the first column is reached, at no length
first_column : Claim
first_column = record { reached = λ p. eqb p.x 1; far = λ p. pair 0 0 }

-- on the split floor no walk leads from cell 0 to cell 3
P11_none : NoWay 2 2 split 0 3
unfolding first_column board free_in certifies step shorter over
P11_none = certified_none (certifies_certified walkers (within 2 2 split) (place_of 2 0) first_column refl) (place_of 2 3) refl

-- on the barred floor no walk leads from cell 0 to cell 2
P12_none : NoWay 3 1 barred 0 2
unfolding first_column board free_in certifies step shorter over
P12_none = certified_none (certifies_certified walkers (within 3 1 barred) (place_of 3 0) first_column refl) (place_of 3 2) refl

-- a start that stands still has gone no way
stands_still : (w h : ℕ) (words : List ℕ) → board w h words (place_of w 0).x (place_of w 0).y ≡ true → Far w h words 0 0 (pair 0 0)
stands_still w h words f = record { some = ([], (f, refl), refl); least = λ ds v. 𝟎_least (len ds) }

-- a place that no walk reaches has no distance
unreached : (w h : ℕ) (words : List ℕ) (c : ℕ) → NoWay w h words 0 c → ¬ ((l : Len) × Far w h words 0 c l)
unreached w h words c n f = n f.1.some.0 f.1.some.1

-- on the split floor the effort is 1: only the start is reached
P11_effort : EffortLost 2 2 split 0 3 1
unfolding board free_in corner nook
P11_effort =
    record {
      none = P11_none;
      counted =
          without (λ p. unreached 2 2 split 3 P11_none p.1)
          (without (λ p. no_place 2 2 split 0 3 2 refl (eqb-false 2 0 refl) (eqb-false 2 3 refl) p.0)
          (without (λ p. no_place 2 2 split 0 3 1 refl (eqb-false 1 0 refl) (eqb-false 1 3 refl) p.0)
          (with {x = 0} (record { inside = omega arith; one_of = inr (inl refl) }, (pair 0 0, stands_still 2 2 split refl)) empty)));
    }

-- on the barred floor it is 1 too
P12_effort : EffortLost 3 1 barred 0 2 1
unfolding board free_in corner nook
P12_effort =
    record {
      none = P12_none;
      counted =
          without (λ p. unreached 3 1 barred 2 P12_none p.1)
          (without (λ p. no_place 3 1 barred 0 2 1 refl (eqb-false 1 0 refl) (eqb-false 1 2 refl) p.0)
          (with {x = 0} (record { inside = omega arith; one_of = inr (inl refl) }, (pair 0 0, stands_still 3 1 barred refl)) empty));
    }

-- every row holds
pub sums : AllHold table
unfolding shorter over select board free_in corner nook
sums = (
  (shorter-≺ (pair 7 0) (pair 0 5) refl, refl, refl),
  (
    (shorter-≺ (pair 0 12) (pair 17 0) refl, refl, refl),
    (
      (shorter-≺ (pair 239 0) (pair 0 169) refl, refl, refl, refl, refl),
      (
        refl,
        (
          (inr P5_east, inr P5_south),
          (
            (inr P6_north, inr P6_east),
            (
              (P7_not, P7_linked),
              (
                refl,
                (
                  (refl, bent_3),
                  (
                    (P10_line, P10_effort),
                    (
                      (P11_none, P11_effort),
                      ((refl, P12_none, P12_effort), tt),
                    ),
                  ),
                ),
              ),
            ),
          ),
        ),
      ),
    ),
  ),
)
