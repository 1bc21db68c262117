-- `opening::open_site` meets its contract: the sizes do not fit or are refused, or the map decides. Assumes nothing.
use native.Mathlib.Omega.{arith}
use Rattle.writing.specs.Answers.{survey_refused, input_refused}
use Rattle.opening.specs.Openings.{no_sizes, bad_sizes}
use Rattle.opening.proofs.Sites.{survey_short, input_short}
use Rattle.opening.proofs.open_site.Goals as goal

pub put_input_refused-used-requires : goal.put_input_refused-used-requires
put_input_refused-used-requires c = omega (arith, input_short 1 (omega arith), c.requires.out_size)

pub returns-in_default : goal.returns-in_default
returns-in_default c =
    record {
      bytes = input_refused 1;
      turned = no_sizes c.in_default.ensures;
      put = c.put_input_refused-used.ensures;
      short = omega (arith, input_short 1 (omega arith), c.put_input_refused-used.ensures.ends);
    }

pub put_survey_refused-used-requires : goal.put_survey_refused-used-requires
put_survey_refused-used-requires c = omega (arith, survey_short 1 (omega arith), c.requires.out_size)

pub returns-then-size_refused : goal.returns-then-size_refused
returns-then-size_refused c =
    record {
      bytes = survey_refused 1;
      turned = bad_sizes c.in-Some.sizes.first c.in-Some.sizes.second c.in-Some.sizes.next c.in-Some.ensures (c.size_refused.ensures.yes c.if-size_refused.true);
      put = c.put_survey_refused-used.ensures;
      short = omega (arith, survey_short 1 (omega arith), c.put_survey_refused-used.ensures.ends);
    }
