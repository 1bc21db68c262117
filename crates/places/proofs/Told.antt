-- What the flags of a place tell: its last links.
-- Assumes nothing.
use mathlib.Core.Path.{◌≡◌, ◌∙◌, ap}
use mathlib.Core.Bool.{cond}
use mathlib.Core.List.{List}
use Prim.Native.Nat.{ℕ, ◌+◌, ◌*◌, ◌-◌, ◌≤◌, ◌<◌}
use native.Mathlib.Omega.{arith}
use native.Mathlib.Decide.{ℕ_discrete, dec_lt}
use borrow.Author.Tests.{lt-ltb, le-ltb}
use lib.Dec.{ltb}
use lib.ListN.{length, get_or}
use Rattle.std.specs.Prelude.{Option, Some, None}
use Rattle.places.specs.declared.Trip.{Trip}
use Rattle.places.specs.declared.Flags.{Flags}
use Rattle.places.specs.Columns.{column_of, ByStart, ByGoal}
use Rattle.places.specs.Chart.{chart, flagged, arcs_of, link_at, link_count, Ready}
use Rattle.places.specs.Flagging.{flag_count, first_told, FlagsOf}
use Rattle.places.proofs.Columns.{column_at}
use Rattle.places.proofs.Links.{link_corner, corner_start, corner_goal, link_start, link_goal, count_corner, count_end}

-- A corner has two flags.
pub flags_corner : (k u : ℕ) → u < k → flag_count k u ≡ 2
unfolding flag_count
flags_corner k u h = rw (lt-ltb u k h)

-- Start and goal have those of all corners.
pub flags_end : (k u : ℕ) → k ≤ u → flag_count k u ≡ k
unfolding flag_count
flags_end k u h = rw (le-ltb u k h)

module _ (C S E : List ℕ) (t : Trip) (W : List ℕ) (u : ℕ) where
  -- Of a corner it comes next after the neighbours.
  pub told_corner : u < t.k → first_told S t.k u ≡ arcs_of S u
  told_corner h = omega (arith, count_corner (chart C S E t W) u h, flags_corner t.k u h)

  -- Of start and goal it is the first of all.
  pub told_end : t.k ≤ u → first_told S t.k u ≡ 0
  told_end h = omega (arith, count_end (chart C S E t W) u h, flags_end t.k u h)

  -- The flags tell of the last links.
  pub told_all : first_told S t.k u + flag_count t.k u ≡ link_count (chart C S E t W) u
  told_all = go (dec_lt u t.k)
    where
      go : Dec (u < t.k) → first_told S t.k u + flag_count t.k u ≡ link_count (chart C S E t W) u
      go (yes h) = omega (arith, count_corner (chart C S E t W) u h, flags_corner t.k u h)
      go (no h) = omega (arith, count_end (chart C S E t W) u (omega arith), flags_end t.k u (omega arith))

-- The place that an entry tells of, or none.
abbrev pub told : ℕ → ℕ → Option ℕ
told entry place = cond (ltb 0 entry) (Some place) None

module _ {C S E : List ℕ} {t : Trip} {W : List ℕ} {u : ℕ} {f : Flags} (i : ℕ) (ready : Ready C S E t W) (inside : u < t.k + 2) (is : FlagsOf t u f) (there : i < f.count) where
  -- the flag's entry
  abbrev entry : ℕ
  entry = f.at + f.apart * i

  -- The link is one of the place's.
  pub told_there : first_told S t.k u + i < link_count (chart C S E t W) u
  told_there = omega (arith, told_all C S E t W u, is.count)

  -- It leads to a place.
  pub told_place : f.to + i < t.k + 2
  told_place = go (dec_lt u t.k)
    where
      go : Dec (u < t.k) → f.to + i < t.k + 2
      go (yes h) = omega (arith, (is.corner h).2, is.count, flags_corner t.k u h)
      go (no h) = omega (arith, (is.end (omega arith)).2, is.count, flags_end t.k u (omega arith))

  -- A flag of column c at place p, which is the entry: what it tells.
  column_told : (c p place : ℕ) → p < t.k + 2 → c * (t.k + 2) + p ≡ entry → flagged (column_of (t.k + 2) W c) p place ≡ told (get_or W entry 0) place
  unfolding flagged
  column_told c p place h q = rw (column_at (t.k + 2) W c p h, q)

  -- Where the flag stands, and what it tells of.
  pub record Tells : Type 0 where
    pub within : entry < length W
    pub link : link_at (chart C S E t W) u (first_told S t.k u + i) ≡ told (get_or W entry 0) (f.to + i)

  -- Each flag tells of its link.
  pub tells : Tells
  tells = go (dec_lt u t.k) (ℕ_discrete i 0) (ℕ_discrete u t.k)
    where
      go : Dec (u < t.k) → Dec (i ≡ 0) → Dec (u ≡ t.k) → Tells
      go (yes h) (yes z) e =
          let q = is.corner h in
          let here : ByStart * (t.k + 2) + u ≡ entry = rw (z, q.0) (omega arith) in
          let j : first_told S t.k u + i ≡ arcs_of S u = omega (arith, told_corner C S E t W u h) in
          let to : t.k ≡ f.to + i = omega (arith, q.2) in
          record {
            within = omega (arith, here, ready.room);
            link = link_corner (chart C S E t W) u _ h ∙ corner_start (chart C S E t W) u _ j ∙ column_told ByStart u t.k inside here ∙ ap (told (get_or W entry 0)) to;
          }
      go (yes h) (no z) e =
          let q = is.corner h in
          let one : i ≡ 1 = omega (arith, is.count, flags_corner t.k u h) in
          let here : ByGoal * (t.k + 2) + u ≡ entry = rw (one, q.0, q.1) (omega arith) in
          let j : first_told S t.k u + i ≡ arcs_of S u + 1 = omega (arith, told_corner C S E t W u h) in
          let to : t.k + 1 ≡ f.to + i = omega (arith, q.2) in
          record {
            within = omega (arith, here, ready.room);
            link = link_corner (chart C S E t W) u _ h ∙ corner_goal (chart C S E t W) u _ (omega (arith, j)) ∙ column_told ByGoal u (t.k + 1) inside here ∙ ap (told (get_or W entry 0)) to;
          }
      go (no h) z (yes e) =
          let q = is.end (omega arith) in
          let three : ByStart + u - t.k ≡ ByStart = omega arith in
          let low : i < t.k = omega (arith, is.count, flags_end t.k u (omega arith)) in
          let here : ByStart * (t.k + 2) + i ≡ entry = rw (q.0, q.1, three) (omega arith) in
          let j : first_told S t.k u + i ≡ i = omega (arith, told_end C S E t W u (omega arith)) in
          let to : i ≡ f.to + i = omega (arith, q.2) in
          record {
            within = omega (arith, here, ready.room);
            link = ap (link_at (chart C S E t W) u) j ∙ link_start (chart C S E t W) u i e ∙ column_told ByStart i i (omega arith) here ∙ ap (told (get_or W entry 0)) to;
          }
      go (no h) z (no e) =
          let q = is.end (omega arith) in
          let four : ByStart + u - t.k ≡ ByGoal = omega arith in
          let low : i < t.k = omega (arith, is.count, flags_end t.k u (omega arith)) in
          let here : ByGoal * (t.k + 2) + i ≡ entry = rw (q.0, q.1, four) (omega arith) in
          let j : first_told S t.k u + i ≡ i = omega (arith, told_end C S E t W u (omega arith)) in
          let to : i ≡ f.to + i = omega (arith, q.2) in
          record {
            within = omega (arith, here, ready.room);
            link = ap (link_at (chart C S E t W) u) j ∙ link_goal (chart C S E t W) u i (omega arith) ∙ column_told ByGoal i i (omega arith) here ∙ ap (told (get_or W entry 0)) to;
          }
