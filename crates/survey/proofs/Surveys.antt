-- What the survey's tests and calls leave, put together: each way out of it is an outcome that the promise allows. Assumes nothing.
use Prim.Native.Nat.{ℕ, ◌+◌, ◌-◌, ◌*◌, ◌≤◌, ◌<◌}
use mathlib.Core.List.{List, [], ◌∷◌, ◌++◌}
use mathlib.Core.Logic.{◌⊎◌, inl, inr, ⊎_elim}
use mathlib.Core.Path.{◌≡◌, refl, sym, ◌∙◌, ap, subst}
use native.Mathlib.Omega.{arith}
use lib.ListN.{length, take, drop, replicate, length-drop, take-append-drop}
use lib.Seq.{ext_get_or, get_or-take, get_or-drop, length-take-le, take-append_seam}
use Rattle.floor.specs.Board.{dir_at}
use Rattle.floor.specs.Refusals.{Refusal, FirstOf, Numbered}
use Rattle.floor.specs.Words.{board, place_of, floor_rows, clear_bits, Floor}
use Rattle.floor.proofs.Tables.{first_here, first_later}
use Rattle.floor.proofs.FreeCells.{free_cells_are}
use Rattle.ground.specs.Kind.{walkers}
use Rattle.corners.specs.Lists.{written}
use Rattle.corners.specs.Corners.{corner_cells}
use Rattle.marks.specs.Marks.{ClearanceAt, Marks}
use Rattle.plan.specs.Plan.{Links, Lists}
use Rattle.marks.specs.Marking.{MarkedAll}
use Rattle.plan.specs.Arcs.{TooMany}
use Rattle.plan.specs.Linking.{AllLinked}
use Rattle.survey.specs.Survey.{corner_count, lent_rows, early_rows, last_row, lists, wiped_all, refusal, SurveyOutcome}
use Rattle.survey.specs.declared.Surveyed.{Surveyed}
use Rattle.floor.specs.Codes.{number}
use Rattle.floor.specs.Lent.{on, IsLent}
use Rattle.floor.specs.declared.lent.Grid.{Grid}
use Rattle.floor.specs.declared.refusal.Refusal.{Refusal as RefusedAs}
use Rattle.floor.proofs.Numbers.{some_number}
use Rattle.plan.proofs.Links.{links_built, built_unique}

-- ---- tables
-- no row has a number above n
abbrev pub UpTo : ℕ → List Refusal → Type 0
UpTo n [] = Unit {0}
UpTo n (r ∷ rs) = (r.number ≤ n) × UpTo n rs

-- so a table gives none above
pub first_few : (n : ℕ) (rs : List Refusal) (c : ℕ) → UpTo n rs → FirstOf rs c → c ≤ n
first_few n [] c u p = omega arith
first_few n (r ∷ rs) c u (inl p) = let l = u.0 in let e = p.1 in omega arith
first_few n (r ∷ rs) c u (inr p) = first_few n rs c u.1 p.1

-- ---- the refusals 1 to 6
module _ (w h : ℕ) (words : List ℕ) (bytes corners starts : ℕ) where
  -- a refusal of the floor
  pub early_floor : (c : ℕ) → FirstOf (floor_rows w h words) c → 0 < c → FirstOf (early_rows w h words bytes corners starts) c
  early_floor c p n = first_here (floor_rows w h words) (lent_rows w h words bytes corners starts) c p n

  -- the floor's rows have numbers
  numbered : Numbered (floor_rows w h words)
  numbered = (omega arith, (omega arith, (omega arith, tt)))

  -- where the floor is not refused, what the rows 4 to 6 give is given
  pub early_lent : (c : ℕ) → FirstOf (floor_rows w h words) 0 → FirstOf (lent_rows w h words bytes corners starts) c →
      FirstOf (early_rows w h words bytes corners starts) c
  early_lent c p q = first_later (floor_rows w h words) (lent_rows w h words bytes corners starts) c numbered p q

  -- where none of the rows 4 to 6 applies, there are four clearances for each cell
  pub lent_bytes : FirstOf (lent_rows w h words bytes corners starts) 0 → 4 * (w * h) ≤ bytes
  lent_bytes (inl a) = absurd (let e = a.1 in omega arith)
  lent_bytes (inr (a, q)) = omega (arith, a)

  -- their numbers are at most 6
  pub early_few : (c : ℕ) → FirstOf (early_rows w h words bytes corners starts) c → c ≤ 6
  early_few c p = first_few 6 (early_rows w h words bytes corners starts) c (omega arith, (omega arith, (omega arith, (omega arith, (omega arith, (omega arith, tt)))))) p

-- ---- the clearances that were written
module _ (w h : ℕ) (words lent exit : List ℕ) (m : MarkedAll w h words lent exit) (room : 4 * (w * h) ≤ length lent) where
  -- four entries for each cell
  clear_first : length (take (4 * (w * h)) exit) ≡ 4 * (w * h)
  clear_first = length-take-le (4 * (w * h)) exit (rw m.as_long room)

  -- they are all in the first entries
  pub marks_first : Marks w h words (take (4 * (w * h)) exit) (corner_cells w h words)
  marks_first =
      record {
        four_each = clear_first;
        cleared = λ c d l k.
            subst (λ (n : ℕ). ClearanceAt (board w h words) (dir_at d) (place_of w c) n) (sym (get_or-take (4 * (w * h)) exit (4 * c + d) 0 (omega arith))) (m.cleared c d l k);
        ascending = refl;
      }

  -- and the entries beyond are as they were lent
  pub clear_written : exit ≡ written (take (4 * (w * h)) exit) lent
  clear_written =
      sym (take-append-drop (4 * (w * h)) exit)
      ∙ ap (λ (xs : List ℕ). take (4 * (w * h)) exit ++ xs) rest
      ∙ ap (λ (n : ℕ). take (4 * (w * h)) exit ++ drop n lent) (sym clear_first)
    where
      rest : drop (4 * (w * h)) exit ≡ drop (4 * (w * h)) lent
      rest =
          ext_get_or 0 _ _ (length-drop (4 * (w * h)) exit ∙ ap (λ (n : ℕ). n - 4 * (w * h)) m.as_long ∙ sym (length-drop (4 * (w * h)) lent))
          (λ i l. get_or-drop (4 * (w * h)) exit i 0 ∙ m.beyond (4 * (w * h) + i) (omega arith) ∙ sym (get_or-drop (4 * (w * h)) lent i 0))

-- the turning points that were written are the first entries
pub corners_first : (w h : ℕ) (words lent exit : List ℕ) (k : ℕ) → k ≡ corner_count w h words → exit ≡ written (corner_cells w h words) lent →
    take k exit ≡ corner_cells w h words
corners_first w h words lent exit k e f = rw (f, e) (take-append_seam (corner_cells w h words) (drop (length (corner_cells w h words)) lent))

-- a floor has one list of starts and one of neighbours
pub one_links : (w h : ℕ) (words corners : List ℕ) {s t ns ms : List ℕ} → Links walkers w h words corners s ns → Links walkers w h words corners t ms →
    (s ≡ t) × (ns ≡ ms)
one_links w h words corners {s} {t} {ns} {ms} a b =
    built_unique walkers w h words corners (links_built walkers w h words corners (length corners) s ns a) (links_built walkers w h words corners (length corners) t ms b)

-- lists as long as others are wiped to the same
pub same_wiped : (a b c d a' b' c' d' : List ℕ) → length a ≡ length a' → length b ≡ length b' → length c ≡ length c' → length d ≡ length d' →
    wiped_all (lists a b c d) ≡ wiped_all (lists a' b' c' d')
same_wiped a b c d a' b' c' d' e f g k = λ i. lists (replicate (e i) 0) (replicate (f i) 0) (replicate (g i) 0) (replicate (k i) 0)

-- ---- the floor as it is lent
module _ {w h : ℕ} {words : List ℕ} {g : Grid} (s : IsLent w h words g) where
  -- what the floor's rows give is given of it
  pub rows_lent : (c : ℕ) → FirstOf (floor_rows w h words) c → FirstOf (on floor_rows g) c
  rows_lent c p = rw (s.width, s.height, s.same) p

  -- and an outcome of it is one of the floor
  pub outcome_lent : (lent : Lists) (r : Surveyed) (left : Lists) → on SurveyOutcome g lent r left → SurveyOutcome w h words lent r left
  outcome_lent lent r left o = rw (s.width, s.height, s.same) at o

-- ---- the ways out
module _ (w h : ℕ) (words : List ℕ) (clear corners starts neighbours : List ℕ) where
  -- the rows 1 to 6 have numbers
  numbered_early : Numbered (early_rows w h words (length clear) (length corners) (length starts))
  numbered_early = (omega arith, (omega arith, (omega arith, (omega arith, (omega arith, (omega arith, tt))))))

  -- a refusal 1 to 6 leaves all as it was
  pub outcome_refused : (r : RefusedAs) → FirstOf (early_rows w h words (length clear) (length corners) (length starts)) (number r) →
      SurveyOutcome w h words (lists clear corners starts neighbours) (refusal (number r)) (lists clear corners starts neighbours)
  outcome_refused r p =
      let n = some_number r in
      record {
        number = first_here (early_rows w h words (length clear) (length corners) (length starts)) (last_row w h words (length neighbours)) (number r) p n;
        done = λ e. absurd (omega arith);
        refused = λ l. record { no_free = refl; no_corners = refl; no_arcs = refl };
        kept = λ l k. refl;
        seven_wipes = λ e. absurd (let k = early_few w h words (length clear) (length corners) (length starts) (number r) p in omega arith);
      }

  module _ (p : FirstOf (early_rows w h words (length clear) (length corners) (length starts)) 0) where
    -- refusal 7 leaves zeros
    pub outcome_full : TooMany w h words (length neighbours) → (left : Lists) → left ≡ wiped_all (lists clear corners starts neighbours) →
        SurveyOutcome w h words (lists clear corners starts neighbours) (refusal 7) left
    outcome_full t left a =
        record {
          number = first_later (early_rows w h words (length clear) (length corners) (length starts)) (last_row w h words (length neighbours)) 7 numbered_early p (inl (t, refl));
          done = λ z. absurd (omega arith);
          refused = λ l. record { no_free = refl; no_corners = refl; no_arcs = refl };
          kept = λ l k. absurd (omega arith);
          seven_wipes = λ z. a;
        }

    -- and where all was written it is the plan
    pub outcome_done : Floor w h words → 4 * (w * h) ≤ length clear → (clear₁ corners₁ starts₁ neighbours₁ : List ℕ) (free k m : ℕ) → free ≡ clear_bits words (length words) → k ≡ corner_count w h words →
        MarkedAll w h words clear clear₁ → corners₁ ≡ written (corner_cells w h words) corners →
        AllLinked w h words (take k corners₁) starts neighbours m starts₁ neighbours₁ →
        SurveyOutcome w h words (lists clear corners starts neighbours) (record { code = 0; free = free; corners = k; arcs = m }) (lists clear₁ corners₁ starts₁ neighbours₁)
    outcome_done floor enough_bytes clear₁ corners₁ starts₁ neighbours₁ free k m counted ks marked cornered linked =
        let links : Links walkers w h words (corner_cells w h words) linked.starts linked.neighbours = rw first at linked.links in
        record {
          number = first_later (early_rows w h words (length clear) (length corners) (length starts)) (last_row w h words (length neighbours)) 0 numbered_early p (inr (enough links, refl));
          done = λ z. record {
            plan = lists (take (4 * (w * h)) clear₁) (corner_cells w h words) linked.starts linked.neighbours;
            is_plan = record { marks = marks_first w h words clear clear₁ marked enough_bytes; links = links };
            clear = clear_written w h words clear clear₁ marked enough_bytes;
            corners = cornered;
            starts = linked.starts_written;
            neighbours = linked.list_written;
            free_count = counted ∙ free_cells_are w h words floor;
            corners_told = ks;
            arc_count = sym linked.count;
          };
          refused = λ l. absurd (omega arith);
          kept = λ l q. absurd (omega arith);
          seven_wipes = λ z. absurd (omega arith);
        }
      where
        first : take k corners₁ ≡ corner_cells w h words
        first = corners_first w h words corners corners₁ k ks cornered

        enough : Links walkers w h words (corner_cells w h words) linked.starts linked.neighbours → ¬ (TooMany w h words (length neighbours))
        enough links (n, arcs, l) =
            let same : n ≡ m = sym arcs.count ∙ ap length (one_links w h words (corner_cells w h words) arcs.links links).1 ∙ linked.count in
            let a = linked.few in
            let b = linked.room in
            ⊎_elim (λ q. omega arith) (λ q. omega arith) l
