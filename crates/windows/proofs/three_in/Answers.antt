-- `windows::three_in` meets its contract: by one word's bits, or by what `free_in` ensures of each place. Assumes nothing.
use Rattle.std.proofs.Common.{◌∙◌, rules}
use native.Mathlib.Numerals.{add-one, add-two}
use Rattle.windows.specs.Window.{triple}
use Rattle.windows.proofs.Triples.{triple_in_word}
use Rattle.windows.proofs.three_in.Goals as goal

pub returns-then-in_one_word : goal.returns-then-in_one_word
returns-then-in_one_word c =
    let a = c.args in
    c.three_bits.ensures ∙ triple_in_word a.w a.row.now a.x (search rules) (c.in_one_word.ensures.yes c.if-in_one_word.true)

pub returns : goal.returns
unfolding triple
returns c = cc (add-one c.args.x, add-two c.args.x)
