-- There is one listing: no two outputs are allowed for one text. The text may be any list of numbers: a number line or a row is read in one
-- way whatever follows it. Two outcomes may have been lent other contents: only the lengths are the program's. Assumes nothing.
use Prim.Native.Nat.{ℕ, zero, suc, ◌+◌, ◌*◌, ◌/◌, ◌%◌, ◌^◌, ◌<◌, ◌≤◌}
use mathlib.Core.Bool.{Bool, true≢false}
use mathlib.Core.List.{List, [], ◌∷◌, ◌++◌}
use mathlib.Core.Logic.{◌⊎◌, inl, inr, ⊎_elim}
use mathlib.Core.Path.{◌≡◌, refl, sym, ap, ap₂, subst, ◌∙◌}
use native.Mathlib.Decide.{dec_lt, ℕ_discrete}
use native.Mathlib.Omega.{arith}
use lib.ListN.{length, get_or, take, drop}
use lib.Seq.{take_at, get_or-take, length-take-le, drop-length}
use Rattle.lengths.specs.Lengths.{Len}
use Rattle.floor.specs.Refusals.{Refusal, refuse, FirstOf}
use Rattle.floor.specs.Words.{row_words, row_of, bit_free, bit_clear, SizeRefused, floor_rows, board, number_of, place_of}
use Rattle.floor.proofs.Accepted.{rows_pass}
use Rattle.floor.proofs.Places.{row_ends}
use Rattle.floor.proofs.Tables.{first_unique, first_later}
use Rattle.ground.specs.Kind.{walkers}
use Rattle.ground.specs.Walk.{NoWalk}
use Rattle.corners.specs.Corners.{corner_cells}
use Rattle.plan.specs.Plan.{Links, Lists, PlanOf, Fits}
use Rattle.plan.specs.Arcs.{Arcs, TooMany}
use Rattle.survey.specs.Survey.{lent_rows, last_row, early_rows, survey_rows}
use Rattle.survey.proofs.Surveys.{one_links}
use Rattle.survey.proofs.SurveyOnly.{one_plan}
use Rattle.chain.specs.Route.{cells_of, RouteOf}
use Rattle.chain.proofs.Legal.{route_cells_lem}
use Rattle.chain.proofs.Single.{route_unique}
use Rattle.effort.proofs.Bounds.{lost_unique}
use Rattle.telling.specs.declared.Answer.{Answer}
use Rattle.answering.specs.Asked.{Asked, cell_of_start, cell_of_goal, work_size, Distance, WalkFound, NoRoute}
use Rattle.query.specs.Query.{Shut, QueryOutcome}
use Rattle.query.proofs.Outcome.{codes, code_kind, found_same, no_route_same}
use Rattle.query.proofs.Passed.{passed, trip_passed}
use Rattle.reading.specs.Lines.{At, TwoLine}
use Rattle.reading.specs.Maps.{RowAt, row_place, Filled, free_letter}
use Rattle.writing.specs.Answers.{survey_refused, input_refused, route_cells}
use Rattle.reading.proofs.Lines.{pair_once, four_once, four_inside}
use Rattle.reading.proofs.Fills.{row_word}
use Rattle.reading.proofs.Unique.{words_unique}
use Rattle.opening.specs.Grounds.{Ground, Walkable}
use Rattle.replying.specs.Replies.{asked, route_part, numbers_of, reply_line, TripReply, LineReply}
use Rattle.opening.specs.Openings.{SizesAt, MapAt, BadRow, Largest, BadFloor, TurnedAway, no_sizes, bad_sizes, bad_row, bad_floor, OpenFloor, ground_line}
use Rattle.replying.specs.Pieces.{Passed, none, one_more, Ending, over, unfit, past}
use Rattle.floorwalk.specs.Listing.{Listing, refused, walked}

-- ---- the words of a map
-- the first words of a map are themselves drawn by it, whatever words there were before
cut_filled : (text : List ℕ) (from w h : ℕ) (before after other : List ℕ) → length other ≡ h * row_words w → h * row_words w ≤ length after
    → Filled text from w h before after → Filled text from w h other (take (h * row_words w) after)
cut_filled text from w h before after other e room f =
    record { fit = f.fit; drawn = drawn; long = long ∙ sym e; rest = all (take (h * row_words w) after) long ∙ sym (all other e) }
  where
    long : length (take (h * row_words w) after) ≡ h * row_words w
    long = length-take-le (h * row_words w) after room

    all : (xs : List ℕ) → length xs ≡ h * row_words w → drop (h * row_words w) xs ≡ []
    all xs l = ap (λ n. drop n xs) (sym l) ∙ drop-length xs

    drawn : (y : ℕ) → y < h → (row : RowAt text (row_place from w y) w) (x : ℕ) → x < 64 * row_words w → bit_free (row_of w (take (h * row_words w) after) y) x ≡ free_letter w row.letters x
    drawn y l row x m =
        let j : x / 64 < row_words w = omega arith in
        ap (λ word. bit_clear word (x % 64))
        (row_word w (take (h * row_words w) after) y (x / 64) j
        ∙ get_or-take (h * row_words w) after (y * row_words w + x / 64) 0 (omega (arith, row_ends y h (row_words w) l))
        ∙ sym (row_word w after y (x / 64) j))
        ∙ f.drawn y l row x m

-- each entry of the first ones is a word
cut_wide : (n : ℕ) (after : List ℕ) → n ≤ length after → ((i : ℕ) → get_or after i 0 < 2 ^ 64) → (i : ℕ) → get_or (take n after) i 0 < 2 ^ 64
cut_wide zero after l u i = omega arith
cut_wide (suc n) [] l u i = omega arith
cut_wide (suc n) (x ∷ xs) l u zero = u 0
cut_wide (suc n) (x ∷ xs) l u (suc i) = cut_wide n xs (omega arith) (λ k. u (suc k)) i

-- a map draws one list of words
words_once : (text : List ℕ) (from w h : ℕ) (before after before' after' : List ℕ) → h * row_words w ≤ length after → h * row_words w ≤ length after'
    → ((i : ℕ) → get_or after i 0 < 2 ^ 64) → ((i : ℕ) → get_or after' i 0 < 2 ^ 64)
    → Filled text from w h before after → Filled text from w h before' after' → take (h * row_words w) after ≡ take (h * row_words w) after'
words_once text from w h before after before' after' room room' wide wide' f f' =
    let e = length-take-le (h * row_words w) after' room' in
    words_unique text from w h (take (h * row_words w) after') (take (h * row_words w) after) (take (h * row_words w) after')
    (cut_filled text from w h before after (take (h * row_words w) after') e room f)
    (cut_filled text from w h before' after' (take (h * row_words w) after') e room' f')
    (cut_wide (h * row_words w) after room wide)
    (cut_wide (h * row_words w) after' room' wide')

-- ---- what stands before the trips
module _ (text : List ℕ) where
  -- two sizes and a place
  abbrev Top : Type 0
  Top = (ℕ × ℕ) × ℕ

  -- line 1 is read in one way
  sizes_once : {w h from w' h' from' : ℕ} → At (TwoLine w h) text 0 from → At (TwoLine w' h') text 0 from' → ◌≡◌ {A = Top} ((w, h), from) ((w', h'), from')
  sizes_once {w} {h} {from} {w'} {h'} {from'} p q =
      let e = pair_once 10 (omega arith) text 0 (w, h) (w', h') from from' p q in ap₂ (λ a b. (a, b)) e.0 e.1

  -- sizes that are refused are not accepted
  refused_once : {w h from w' h' from' : ℕ} → At (TwoLine w h) text 0 from → SizeRefused w h → ¬ (SizesAt text w' h' from')
  refused_once p r s = s.accepted (subst (λ (t : Top). SizeRefused t.0.0 t.0.1) (sizes_once p s.line) r)

  -- a row of the map is where it is, by whichever sizes
  row_once : {w h from w' h' from' : ℕ} → SizesAt text w h from → SizesAt text w' h' from' → (y : ℕ) → RowAt text (row_place from w y) w → RowAt text (row_place from' w' y) w'
  row_once s t y r = subst (λ (t : Top). RowAt text (row_place t.1 t.0.0 y) t.0.0) (sizes_once s.line t.line) r

  -- a row that does not fit is in no map
  row_bad : (y : ℕ) {w h next : ℕ} {words : List ℕ} → BadRow text y → ¬ (MapAt text w h next words)
  row_bad y b m =
      let e = sizes_once b.sizes.line m.sizes.line in
      let k = ap (λ (t : Top). t.0.1) e in
      b.unfit (row_once m.sizes b.sizes y (m.filled.fit y (omega (arith, b.inside))))

  -- the first row that does not fit is one
  bad_once : (y z : ℕ) → BadRow text y → BadRow text z → y ≡ z
  bad_once y z p q = by (dec_lt y z) (dec_lt z y)
    where
      by : Dec (y < z) → Dec (z < y) → y ≡ z
      by (yes l) d = absurd (p.unfit (row_once q.sizes p.sizes y (q.fit y l)))
      by (no l) (yes m) = absurd (q.unfit (row_once p.sizes q.sizes z (p.fit z m)))
      by (no l) (no m) = omega (arith, l, m)

  -- a map is one: its sizes, where it ends and its words
  pub map_once : {w h next w' h' next' : ℕ} {words words' : List ℕ} → MapAt text w h next words → MapAt text w' h' next' words'
      → (w ≡ w') × (h ≡ h') × (next ≡ next') × (words ≡ words')
  map_once {w} {h} {next} {w'} {h'} {next'} {words} {words'} m n =
      let e = sizes_once m.sizes.line n.sizes.line in (
        ap (λ (t : Top). t.0.0) e,
        ap (λ (t : Top). t.0.1) e,
        m.ends ∙ ap (λ (t : Top). row_place t.1 t.0.0 t.0.1) e ∙ sym n.ends,
        m.cut
            ∙ words_once text m.from w h m.before m.after n.before n.after m.room
            (subst (λ (t : Top). t.0.1 * row_words t.0.0 ≤ length n.after) (sym e) n.room)
            m.wide
            n.wide
            m.filled
            (subst (λ (t : Top). Filled text t.1 t.0.0 t.0.1 n.before n.after) (sym e) n.filled)
            ∙ ap (λ (t : Top). take (t.0.1 * row_words t.0.0) n.after) e
            ∙ sym n.cut,
      )

  -- a survey of one map, with lists of the largest sizes, gives one number
  floor_once : {w h next w' h' next' : ℕ} {words words' : List ℕ} {lent lent' : Lists} (c d : ℕ) → MapAt text w h next words → MapAt text w' h' next' words' → Largest lent → Largest lent'
      → FirstOf (survey_rows w h words lent) c → FirstOf (survey_rows w' h' words' lent') d → c ≡ d
  floor_once {w' = w'} {h' = h'} {words' = words'} {lent' = lent'} c d m n l k p q =
      let e = map_once m n in
      first_unique (survey_rows w' h' words' lent') c d
      (subst (λ (rs : List Refusal). FirstOf rs c)
      (λ i.
      early_rows (e.0 i) (e.1 i) (e.3 i) ((l.clear ∙ sym k.clear) i) ((l.corners ∙ sym k.corners) i) ((l.starts ∙ sym k.starts) i)
      ++ last_row (e.0 i) (e.1 i) (e.3 i) ((l.neighbours ∙ sym k.neighbours) i))
      p)
      q

  -- a survey refuses one map by one number
  survey_once : (c d : ℕ) → BadFloor text c → BadFloor text d → c ≡ d
  survey_once c d a b =
      sym a.number ∙ floor_once a.answer.code b.answer.code a.map b.map a.largest b.largest a.outcome.number b.outcome.number ∙ b.number

  -- There is one refusal before the trips.
  pub turned_once : {a b : List ℕ} → TurnedAway text a → TurnedAway text b → a ≡ b
  turned_once (no_sizes n) (no_sizes m) = refl
  turned_once (no_sizes n) (bad_sizes w h f p r) = absurd (n w h f p)
  turned_once (no_sizes n) (bad_row y r) = absurd (n _ _ _ r.sizes.line)
  turned_once (no_sizes n) (bad_floor c r) = absurd (n _ _ _ r.map.sizes.line)
  turned_once (bad_sizes w h f p r) (no_sizes n) = absurd (n w h f p)
  turned_once (bad_sizes w h f p r) (bad_sizes w' h' f' p' r') = refl
  turned_once (bad_sizes w h f p r) (bad_row y b) = absurd (refused_once p r b.sizes)
  turned_once (bad_sizes w h f p r) (bad_floor c b) = absurd (refused_once p r b.map.sizes)
  turned_once (bad_row y r) (no_sizes n) = absurd (n _ _ _ r.sizes.line)
  turned_once (bad_row y b) (bad_sizes w h f p r) = absurd (refused_once p r b.sizes)
  turned_once (bad_row y r) (bad_row z s) = ap (λ k. input_refused (k + 2)) (bad_once y z r s)
  turned_once (bad_row y r) (bad_floor c s) = absurd (row_bad y r s.map)
  turned_once (bad_floor c r) (no_sizes n) = absurd (n _ _ _ r.map.sizes.line)
  turned_once (bad_floor c b) (bad_sizes w h f p r) = absurd (refused_once p r b.map.sizes)
  turned_once (bad_floor c s) (bad_row y r) = absurd (row_bad y r s.map)
  turned_once (bad_floor c r) (bad_floor d s) = ap survey_refused (survey_once c d r s)

  -- a floor that can be walked on is not refused by a survey with the largest lists
  walks : (g : Ground) (lent : Lists) → Walkable g → Largest lent → FirstOf (survey_rows g.w g.h g.words lent) 0
  walks g lent k l =
      first_later (floor_rows g.w g.h g.words)
      (lent_rows g.w g.h g.words (length lent.clear) (length lent.corners) (length lent.starts) ++ last_row g.w g.h g.words (length lent.neighbours))
      0
      (omega arith, (omega arith, (omega arith, tt)))
      (rows_pass g.w g.h g.words k.floor)
      (inr (
        λ m. omega (arith, l.clear, k.floor.few_cells),
        inr (
          ⊎_elim (λ m. omega (arith, corners, l.corners)) (λ m. omega (arith, corners)),
          inr (λ m. omega (arith, corners, l.starts), inr (arcs, refl)),
        ),
      ))
    where
      corners : length (corner_cells g.w g.h g.words) ≤ 2048
      corners = omega (arith, ap length k.fits.own.marks.ascending, k.fits.few_corners)

      arcs : ¬ (TooMany g.w g.h g.words (length lent.neighbours))
      arcs t =
          let a : Arcs g.w g.h g.words t.0 = t.1 in
          let own = subst (λ (cs : List ℕ). Links walkers g.w g.h g.words cs g.plan.starts g.plan.neighbours) k.fits.own.marks.ascending k.fits.own.links in
          let e = ap length (one_links g.w g.h g.words (corner_cells g.w g.h g.words) a.links own).1 in
          ⊎_elim (λ m. omega (arith, e, a.count, k.fits.few_arcs, l.neighbours)) (λ m. omega (arith, e, a.count, k.fits.few_arcs)) t.2

  -- A text whose floor is open is not turned away.
  pub open_not_turned : {g : Ground} {next : ℕ} {bytes : List ℕ} → OpenFloor text g next → ¬ (TurnedAway text bytes)
  open_not_turned o (no_sizes n) = n _ _ _ o.map.sizes.line
  open_not_turned o (bad_sizes w h f p r) = refused_once p r o.map.sizes
  open_not_turned o (bad_row y r) = row_bad y r o.map
  open_not_turned {g} o (bad_floor c b) =
      omega (arith, b.refused, b.number, floor_once 0 b.answer.code o.map b.map b.largest b.largest (walks g b.lent o.walkable b.largest) b.outcome.number)

  -- There is one open floor, and one place where the trips begin.
  pub open_once : {g g' : Ground} {next next' : ℕ} → OpenFloor text g next → OpenFloor text g' next' → (g ≡ g') × (next ≡ next')
  open_once {g} {g'} o p =
      let e = map_once o.map p.map in
      let q = one_plan g'.w g'.h g'.words g.plan g'.plan (subst (λ (t : Floored). PlanOf t.0.0 t.0.1 t.1 g.plan) (λ i. ((e.0 i, e.1 i), e.3 i)) o.walkable.fits.own) p.walkable.fits.own in
      (λ i. record { w = e.0 i; h = e.1 i; words = e.3 i; plan = q i }, e.2)
    where
      Floored : Type 0
      Floored = (ℕ × ℕ) × List ℕ

-- ---- the reply to a line
-- for code 0 the query's route has as many cells as the answer says
route_long : (a : Asked) {r : Answer} {route work : List ℕ} (o : QueryOutcome a r route work) (z : r.code ≡ 0) → length (o.route_written z).cells ≡ r.cells
route_long a {r} o z =
    let f = o.found (inl z) in
    let trip = trip_passed a (passed a r.code o.number (inl z)) in
    route_cells_lem a.w a.h a.words (cell_of_start a) (cell_of_goal a) trip (o.route_written z).is_route f.far f.shortest ∙ sym f.cells

-- and the printed cells are the route's
printed : (a : Asked) {r : Answer} {route work : List ℕ} (o : QueryOutcome a r route work) (z : r.code ≡ 0) → take r.cells route ≡ (o.route_written z).cells
printed a {r} o z =
    let v = o.route_written z in
    ap (take r.cells) v.there ∙ take_at v.cells (drop (length v.cells) a.route) r.cells (route_long a o z)

-- for code 0 a colon and the cells are printed
whole_part : (cells : List ℕ) → route_part 0 cells ≡ route_cells cells
unfolding route_part
whole_part cells = refl

-- and nothing for another code
no_part : (code : ℕ) (cells : List ℕ) → ¬ (code ≡ 0) → route_part code cells ≡ []
unfolding route_part
no_part zero cells n = absurd (n refl)
no_part (suc code) cells n = refl

module _ (g : Ground) (x y u v : ℕ) where
  -- a query's rows, by how many entries are lent for the route and the work
  abbrev rows_for : ℕ → ℕ → List Refusal
  rows_for room space =
      let a = asked g x y u v [] [] in
      floor_rows g.w g.h g.words
      ++ (refuse 8 (¬ (Fits g.w g.h g.words g.plan))
      ∷ refuse 9 (Shut g.w g.h g.words x y)
      ∷ refuse 10 (Shut g.w g.h g.words u v)
      ∷ refuse 11 (space < work_size a)
      ∷ refuse 12 (NoWalk walkers (board g.w g.h g.words) (place_of g.w (cell_of_start a)) (place_of g.w (cell_of_goal a)))
      ∷ refuse 13 ((l : Len) × Distance a l × (room < cells_of l))
      ∷ [])

  module _ (route work route' work' : List ℕ) (e : length route ≡ length route') (d : length work ≡ length work') {r r' : Answer} {left left' space space' : List ℕ}
      (p : QueryOutcome (asked g x y u v route work) r left space) (q : QueryOutcome (asked g x y u v route' work') r' left' space') where
    -- two queries of one trip, with as much room, give one number
    code_once : r.code ≡ r'.code
    code_once = first_unique (rows_for (length route') (length work')) r.code r'.code (subst (λ (rs : List Refusal). FirstOf rs r.code) (λ i. rows_for (e i) (d i)) p.number) q.number

    -- the numbers of a walk say nothing of the lists lent
    found_over : WalkFound (asked g x y u v route' work') r' → WalkFound (asked g x y u v route work) r'
    found_over f = record { far = f.far; shortest = f.shortest; straight = f.straight; diagonal = f.diagonal; cells = f.cells; billed = f.billed }

    -- nor do those of no walk
    none_over : NoRoute (asked g x y u v route' work') r' → NoRoute (asked g x y u v route work) r'
    none_over f = record { straight = f.straight; diagonal = f.diagonal; cells = f.cells }

    -- and one answer
    pub answer_once : r ≡ r'
    answer_once = by (code_kind r.code (codes a r.code p.number))
      where
        a : Asked
        a = asked g x y u v route work

        same : r.code ≡ r'.code
        same = code_once

        by : (r.code ≡ 0) ⊎ (((0 < r.code) × (r.code < 12)) ⊎ ((r.code ≡ 12) ⊎ (r.code ≡ 13))) → r ≡ r'
        by (inl z) = found_same a same (p.found (inl z)) (found_over (q.found (inl (sym same ∙ z))))
        by (inr (inl (l, m))) =
            let f = p.refused l m in
            let k = q.refused (subst (λ (c : ℕ). 0 < c) same l) (subst (λ (c : ℕ). c < 12) same m) in
            no_route_same a same f.0 (none_over k.0) (f.1 ∙ sym k.1)
        by (inr (inr (inl z))) =
            let f = p.lost z in
            let k = q.lost (sym same ∙ z) in
            no_route_same a same f.0 (none_over k.0) (lost_unique g.w g.h g.words _ _ f.1 k.1)
        by (inr (inr (inr z))) = found_same a same (p.found (inr z)) (found_over (q.found (inr (sym same ∙ z))))

    -- the cells after the colon are one list
    part_once : route_part r.code (take r.cells left) ≡ route_part r'.code (take r'.cells left')
    part_once = by (ℕ_discrete r.code 0)
      where
        by : Dec (r.code ≡ 0) → route_part r.code (take r.cells left) ≡ route_part r'.code (take r'.cells left')
        by (yes z) =
            let z' : r'.code ≡ 0 = sym code_once ∙ z in
            ap₂ route_part code_once
            (printed _ p z
            ∙ route_unique g.w g.h g.words _ _ (p.route_written z).is_route (q.route_written z').is_route
            ∙ sym (printed _ q z'))
        by (no n) = no_part r.code _ n ∙ sym (no_part r'.code _ (λ z. n (code_once ∙ z)))

    -- and the line is one
    pub reply_once : reply_line r left ≡ reply_line r' left'
    reply_once = ap₂ (λ ns cs. ns ++ cs ++ 10 ∷ []) (ap numbers_of answer_once) part_once

  -- There is one reply to a trip.
  pub trip_once : {a b : List ℕ} → TripReply g x y u v a → TripReply g x y u v b → a ≡ b
  trip_once p q =
      p.line
      ∙ reply_once p.route p.work q.route q.work (p.route_size ∙ sym q.route_size) (p.work_long ∙ sym q.work_long) p.outcome q.outcome
      ∙ sym q.line

  -- a line with a route: the cells after its colon are the route of the trip, as many as its fourth number says
  pub record RouteLine (r : Answer) (bytes : List ℕ) : Type 0 where
    pub cells : List ℕ
    pub is_route : RouteOf g.w g.h g.words (number_of g.w x y) (number_of g.w u v) cells
    pub counted : length cells ≡ r.cells
    pub line : bytes ≡ numbers_of r ++ route_cells cells ++ 10 ∷ []

  -- For code 0 the line has the whole route and nothing but the route.
  pub reply_route : {bytes : List ℕ} (p : TripReply g x y u v bytes) → p.answer.code ≡ 0 → RouteLine p.answer bytes
  reply_route p z =
      let o = p.outcome in
      record {
        cells = (o.route_written z).cells;
        is_route = (o.route_written z).is_route;
        counted = route_long _ o z;
        line = p.line ∙ ap (λ cs. numbers_of p.answer ++ cs ++ 10 ∷ []) (ap₂ route_part z (printed _ o z) ∙ whole_part (o.route_written z).cells);
      }

-- four numbers
abbrev FourNumbers : Type 0
FourNumbers = (ℕ × ℕ) × (ℕ × ℕ)

module _ (g : Ground) (text : List ℕ) where
  -- There is one reply to the line at a place, and one place where the next begins.
  pub line_once : {at next next' : ℕ} {a b : List ℕ} → LineReply g text at next a → LineReply g text at next' b → (next ≡ next') × (a ≡ b)
  line_once {at} {next} {next'} {a} {b} p q =
      let e = four_once text at ((p.x, p.y), (p.u, p.v)) ((q.x, q.y), (q.u, q.v)) next next' p.line q.line in (
        e.1,
        trip_once g p.x p.y p.u p.v p.reply
            (subst (λ (t : FourNumbers). TripReply g t.0.0 t.0.1 t.1.0 t.1.1 b) (sym e.0) q.reply),
      )

  -- where the lines end, no line is answered
  ending_last : {more : Bool} {at line next : ℕ} {tail reply : List ℕ} → Ending text more at line tail → ¬ (LineReply g text at next reply)
  ending_last {at = at} {next = next} (over e m) r = omega (arith, four_inside text at r.x r.y r.u r.v next r.line)
  ending_last (unfit l n) r = n _ _ _ _ _ r.line
  ending_last {at = at} {next = next} (past e m) r = omega (arith, four_inside text at r.x r.y r.u r.v next r.line)

  -- what follows the last line that is answered is one
  ending_once : {more : Bool} {at line : ℕ} {a b : List ℕ} → Ending text more at line a → Ending text more at line b → a ≡ b
  ending_once (over e m) (over f n) = refl
  ending_once (over e m) (unfit l n) = absurd (omega arith)
  ending_once (over e m) (past f n) = absurd (true≢false (sym n ∙ m))
  ending_once (unfit l n) (over e m) = absurd (omega arith)
  ending_once (unfit l n) (unfit k m) = refl
  ending_once (unfit l n) (past e m) = absurd (omega arith)
  ending_once (past e m) (over f n) = absurd (true≢false (sym m ∙ n))
  ending_once (past e m) (unfit l n) = absurd (omega arith)
  ending_once (past e m) (past f n) = refl

  module _ (from first : ℕ) where
    -- the last of the lines passed
    record LastLine (at line : ℕ) (bytes : List ℕ) : Type 0 where
      place : ℕ
      number : ℕ
      front : List ℕ
      back : List ℕ
      passed : Passed g text from first place number front
      reply : LineReply g text place at back
      counted : line ≡ number + 1
      joined : bytes ≡ front ++ back

    -- no line is passed, or there is a last one
    last_line : {at line : ℕ} {bytes : List ℕ} → Passed g text from first at line bytes → ((at ≡ from) × (line ≡ first) × (bytes ≡ [])) ⊎ LastLine at line bytes
    last_line none = inl (refl, refl, refl)
    last_line (one_more {at = at} {line = line} {bytes = bytes} {reply = reply} p r) =
        inr (record { place = at; number = line; front = bytes; back = reply; passed = p; reply = r; counted = refl; joined = refl })

    -- lines are numbered from the first on
    later : {at line : ℕ} {bytes : List ℕ} → Passed g text from first at line bytes → first ≤ line
    later none = omega arith
    later (one_more p r) = omega (arith, later p)

    -- up to a line's number the lines are passed in one way
    passed_once : {at line at' line' : ℕ} {bytes bytes' : List ℕ} → Passed g text from first at line bytes → Passed g text from first at' line' bytes' → line ≡ line'
        → (at ≡ at') × (bytes ≡ bytes')
    passed_once {at' = at'} {line' = line'} {bytes' = bytes'} none q e = by (last_line q)
      where
        by : ((at' ≡ from) × (line' ≡ first) × (bytes' ≡ [])) ⊎ LastLine at' line' bytes' → (from ≡ at') × ([] ≡ bytes')
        by (inl z) = (sym z.0, sym z.2)
        by (inr s) = absurd (omega (arith, later s.passed, s.counted))
    passed_once {at' = at'} {line' = line'} {bytes' = bytes'} (one_more {at = at} {line = line} {next = next} {bytes = bytes} {reply = reply} p r) q e =
        by (λ k n bs t f. passed_once p t f) (last_line q)
      where
        by : ((k n : ℕ) (bs : List ℕ) → Passed g text from first k n bs → line ≡ n → (at ≡ k) × (bytes ≡ bs))
            → ((at' ≡ from) × (line' ≡ first) × (bytes' ≡ [])) ⊎ LastLine at' line' bytes' → (next ≡ at') × (bytes ++ reply ≡ bytes')
        by same (inl z) = absurd (omega (arith, later p, z.1))
        by same (inr s) =
            let f = same s.place s.number s.front s.passed (omega (arith, s.counted)) in
            let k = line_once (subst (λ (n : ℕ). LineReply g text n next reply) f.0 r) s.reply in
            (k.0, ap₂ ◌++◌ f.1 k.1 ∙ sym s.joined)

    -- some line of a number is passed, and the next is answered
    record Goes (number : ℕ) : Type 0 where
      place : ℕ
      next : ℕ
      front : List ℕ
      back : List ℕ
      passed : Passed g text from first place number front
      reply : LineReply g text place next back

    -- a line below the last number is answered
    goes : {at line : ℕ} {bytes : List ℕ} (n : ℕ) → Passed g text from first at line bytes → first ≤ n → n < line → Goes n
    goes n none l m = absurd (omega arith)
    goes n (one_more {at = at} {line = line} {next = next} {bytes = bytes} {reply = reply} p r) l m = by (λ k. goes n p l k) (ℕ_discrete n line) (dec_lt n line)
      where
        by : (n < line → Goes n) → Dec (n ≡ line) → Dec (n < line) → Goes n
        by rec (yes e) d =
            record { place = at; next = next; front = bytes; back = reply; passed = subst (λ (k : ℕ). Passed g text from first at k bytes) (sym e) p; reply = r }
        by rec (no e) (yes d) = rec d
        by rec (no e) (no d) = absurd (omega (arith, e, d))

    -- after the line where the lines end no other is passed
    no_further : {more : Bool} {at line at' line' : ℕ} {bytes bytes' tail : List ℕ} → Passed g text from first at line bytes → Ending text more at line tail
        → Passed g text from first at' line' bytes' → ¬ (line < line')
    no_further {line = line} p e q l =
        let s = goes line q (later p) l in
        let k = passed_once s.passed p refl in
        ending_last e (subst (λ (n : ℕ). LineReply g text n s.next s.back) k.0 s.reply)

    -- the lines are answered to the end in one way
    pub rest_once : {more : Bool} {at line at' line' : ℕ} {bytes bytes' tail tail' : List ℕ} → Passed g text from first at line bytes → Ending text more at line tail
        → Passed g text from first at' line' bytes' → Ending text more at' line' tail' → bytes ++ tail ≡ bytes' ++ tail'
    rest_once {more} {at} {line} {at'} {line'} {tail = tail} {tail' = tail'} p e q f =
        let a = no_further p e q in
        let b = no_further q f p in
        let k : line ≡ line' = omega (arith, a, b) in
        let s = passed_once p q k in
        let t = ending_once (subst (λ (z : ℕ × ℕ). Ending text more z.0 z.1 tail) (λ i. (s.0 i, k i)) e) f in
        ap₂ ◌++◌ s.1 t

-- a ground and a place
abbrev Opening : Type 0
Opening = Ground × ℕ

-- two listings of a text are the same
only : (text : List ℕ) (more : Bool) {a b : List ℕ} → Listing text more a → Listing text more b → a ≡ b
only text more (refused p) (refused q) = turned_once text p q
only text more (refused p) (walked o q e) = absurd (open_not_turned text o p)
only text more (walked o p e) (refused q) = absurd (open_not_turned text o q)
only text more (walked {g = g} {next = next} o p e) (walked {at = at} {line = line} {bytes = bytes} o' q f) =
    let s = open_once text o o' in
    let t = subst (λ (z : Opening). Passed z.0 text z.1 (z.0.h + 2) at line bytes) (λ i. (sym s.0 i, sym s.1 i)) q in
    ap₂ (λ k r. ground_line k ++ r) s.0 (rest_once g text next (g.h + 2) p e t f)

-- There is one listing of a text.
pub listing_only : (text : List ℕ) (more : Bool) (a b : List ℕ) → Listing text more a → Listing text more b → a ≡ b
listing_only text more a b p q = only text more p q
