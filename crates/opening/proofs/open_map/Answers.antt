-- `opening::open_map` meets its contract: the first row that does not fit, or the survey of the map. Assumes nothing.
use Prim.Native.Nat.{ℕ, ◌+◌, ◌*◌, ◌^◌, ◌<◌, ◌≤◌}
use mathlib.Core.Path.{◌≡◌, refl, sym, ap, ◌∙◌}
use native.Mathlib.Omega.{arith}
use lib.ListN.{length, get_or, take}
use lib.Seq.{length-take-le}
use Rattle.floor.specs.Words.{row_words, SizeRefused}
use Rattle.floor.proofs.Accepted.{fits}
use Rattle.writing.specs.Answers.{input_refused}
use Rattle.reading.proofs.Lines.{pair_inside}
use Rattle.reading.proofs.Floors.{few_words}
use Rattle.opening.specs.Openings.{MapAt, bad_row}
use Rattle.opening.proofs.Sites.{input_short, opened}
use Rattle.opening.proofs.open_map.Goals as goal
use Rattle.opening.proofs.open_map.Goals.{After-row_words, In-Ok}

-- the rows of accepted sizes take at most 512 words
few : (w h : ℕ) → ¬ (SizeRefused w h) → h * row_words w ≤ 512
few w h a = let f = fits w h a in few_words w h f.wide f.high f.few_cells

pub read_rows-requires : goal.read_rows-requires
read_rows-requires c =
    let s = c.requires.0 in
    let f = fits _ _ s.accepted in
    (f.wide, (f.high, ((pair_inside _ _ _ _ _ _ s.line).1, omega (arith, few _ _ s.accepted, c.requires.1.words_size))))

-- the refusal of row y is short
refusal : (y h : ℕ) → y < h → h ≤ 255 → length (input_refused (y + 2)) ≤ 43
refusal y h l m = input_short (y + 2) (omega arith)

pub put_input_refused-requires : goal.put_input_refused-requires
put_input_refused-requires c =
    omega (arith, refusal c.in-Err.bad.row c.args.h c.in-Err.ensures.0 (fits _ _ c.requires.0.accepted).high, c.requires.1.out_size)

-- the map's words are within those lent
count : (c : After-row_words) → c.args.h * c.row_words.result ≤ 512
count c = rw c.row_words.ensures (few _ _ c.requires.0.accepted)

pub slice_bounds-survey_floor-end : goal.slice_bounds-survey_floor-end
slice_bounds-survey_floor-end c =
    omega (arith, count (goal.at.slice_bounds-survey_floor-end c).After-row_words, c.read_rows.auto.floor, c.requires.1.words_size)

-- they are as many as the rows need
counted : (c : After-row_words) → let n = c.args.h * c.row_words.result in length (take n c.read_rows.new.floor) ≡ n
counted c = length-take-le _ _ (omega (arith, count c, c.read_rows.auto.floor, c.requires.1.words_size))

pub slice_bounds-survey_floor-end-in-Ok : goal.slice_bounds-survey_floor-end-in-Ok
slice_bounds-survey_floor-end-in-Ok c = sym (counted (goal.at.slice_bounds-survey_floor-end-in-Ok c).After-row_words)

pub survey_floor-requires : goal.survey_floor-requires
survey_floor-requires c =
    let f = fits _ _ c.requires.0.accepted in
    record {
      wide = f.wide;
      high = f.high;
      counted = counted (goal.at.survey_floor-requires c).After-row_words ∙ ap (λ k. c.args.h * k) c.row_words.ensures;
      largest = c.requires.1.largest;
      out_size = omega (arith, c.requires.1.out_size);
    }

pub returns-in-Err : goal.returns-in-Err
returns-in-Err c =
    let u = c.in-Err.ensures in
    let y = c.in-Err.bad.row in
    let a = c.args in
    record {
      bytes = input_refused (y + 2);
      turned = bad_row y (record { w = a.w; h = a.h; from = a.from; sizes = c.requires.0; inside = u.0; fit = u.2.fit; unfit = u.1 });
      put = c.put_input_refused.ensures;
      short = omega (arith, refusal y a.h u.0 (fits _ _ c.requires.0.accepted).high, c.put_input_refused.ensures.ends);
    }

-- they are 64-bit words
wide : (c : In-Ok) (i : ℕ) → get_or c.read_rows.new.floor i 0 < 2 ^ 64
wide c i = omega (arith, c.type_inv.words i)

pub returns-in-Ok : goal.returns-in-Ok
returns-in-Ok c =
    let u = c.in-Ok.ensures in
    let a = c.args in
    let words = c.read_rows.new.floor in
    let m : MapAt a.text.now a.w a.h c.in-Ok.next (take (a.h * row_words a.w) words)
    = record {
      from = a.from;
      sizes = c.requires.0;
      before = _;
      after = _;
      filled = u.1;
      room = omega (arith, few _ _ c.requires.0.accepted, c.read_rows.auto.floor, c.requires.1.words_size);
      wide = wide (goal.at.returns-in-Ok c).In-Ok;
      cut = refl;
      ends = u.0;
    } in
    let l = c.requires.1.largest in
    let k = c.survey_floor.auto in
    opened _ _ _ _ _ _ _ _ _ m l
    (record {
      clear = omega (arith, l.clear, k.clear);
      corners = omega (arith, l.corners, k.corners);
      starts = omega (arith, l.starts, k.starts);
      neighbours = omega (arith, l.neighbours, k.arcs);
    })
    c.row_words.result
    c.row_words.ensures
    c.survey_floor.result
    c.survey_floor.ensures
