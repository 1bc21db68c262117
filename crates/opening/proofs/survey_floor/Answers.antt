-- `opening::survey_floor` meets its contract: the survey's outcome, and its line or refusal. Assumes nothing.
use Prim.Native.Nat.{ℕ, ◌≤◌}
use mathlib.Core.Path.{◌≡◌, refl, ap}
use native.Mathlib.Omega.{arith}
use lib.ListN.{length}
use Rattle.survey.specs.Survey.{lists}
use Rattle.writing.specs.Answers.{floor_line, survey_refused}
use Rattle.writing.proofs.Puts.{put_same}
use Rattle.opening.specs.Openings.{Largest}
use Rattle.opening.proofs.Sites.{survey_short, floor_short, Planned, planned}
use Rattle.opening.proofs.survey_floor.Goals as goal
use Rattle.opening.proofs.survey_floor.Goals.{After-survey-s}

pub put_survey_refused-used-requires : goal.put_survey_refused-used-requires
put_survey_refused-used-requires c = rw c.from.ensures (omega (arith, survey_short c.survey-s.result.code (omega arith), c.requires.out_size))

pub returns-then-s-ne0 : goal.returns-then-s-ne0
returns-then-s-ne0 c =
    let n = c.if-s-ne0.true in
    let p = put_same (ap survey_refused c.from.ensures) c.put_survey_refused-used.ensures in
    record {
      answer = c.survey-s.result;
      outcome = c.survey-s.ensures;
      refused = omega (arith, n);
      put = p;
      short = omega (arith, survey_short c.survey-s.result.code (omega arith), p.ends);
    }

-- the line of the same numbers
line_same : (w h : ℕ) {a b c d e f : ℕ} → a ≡ b → c ≡ d → e ≡ f → floor_line w h a c e ≡ floor_line w h b d f
line_same w h p q r = λ i. floor_line w h (p i) (q i) (r i)

-- the line is short
line : (c : After-survey-s)
    → length (floor_line c.args.w c.args.h c.survey-s.result.free c.survey-s.result.corners c.survey-s.result.arcs) ≤ 129
line c =
    let g = c.survey-s.type_inv in
    floor_short _ _ _ _ _ (omega (arith, c.requires.wide)) (omega (arith, c.requires.high)) (omega (arith, g)) (omega (arith, g)) (omega (arith, g))

pub put_floor-used-requires : goal.put_floor-used-requires
put_floor-used-requires c =
    rw (c.from-2.ensures, c.from-k.ensures, c.from-m.ensures)
    (omega (arith, line (goal.at.put_floor-used-requires c).After-survey-s, c.requires.out_size))

-- the lists have their lengths
left : (c : After-survey-s) → Largest (lists c.survey-s.new.clear c.survey-s.new.corners c.survey-s.new.starts c.survey-s.new.neighbours)
left c =
    let l = c.requires.largest in
    let k = c.survey-s.auto in
    record {
      clear = omega (arith, l.clear, k.clear);
      corners = omega (arith, l.corners, k.corners);
      starts = omega (arith, l.starts, k.starts);
      neighbours = omega (arith, l.neighbours, k.neighbours);
    }

pub returns : goal.returns
returns c =
    let r = c.survey-s.result in
    let v = c.survey-s.new in
    let a = c.args in
    let e : Planned a.w a.h a.words.now r (lists v.clear v.corners v.starts v.neighbours)
    = planned _ _ _ _ _ _ c.survey-s.ensures c.if-s-ne0.false c.requires.largest (left (goal.at.returns c).After-survey-s) in
    let p = put_same (line_same a.w a.h c.from-2.ensures c.from-k.ensures c.from-m.ensures) c.put_floor-used.ensures in
    record {
      width = refl;
      height = refl;
      goes_on = refl;
      floor = e.floor;
      own = e.own;
      corners = e.corners;
      arcs = e.arcs;
      put = put_same (ap (λ n. floor_line a.w a.h n r.corners r.arcs) e.free) p;
      short = omega (arith, line (goal.at.returns c).After-survey-s, p.ends);
    }
