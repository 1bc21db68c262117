-- `fields::passing::FieldRows::next` meets its contract: the sweep has come to the row after the one that is given. Assumes nothing.
use Rattle.std.proofs.Common.{ℕ, ◌+◌, ◌<◌, ◌≡◌, rules, arith}
use native.Mathlib.Numerals.{add-one}
use Rattle.fields.specs.Passing.{Underway}
use Rattle.fields.proofs.passing.FieldRowsIterator.next.Goals as goal

pub returns-clause-goes : goal.returns-clause-goes
returns-clause-goes c =
    let s = c.args.self.now in
    let l : s.row < 255 = (c.requires.come c.in_ok-reach.reach c.in_ok-reach.was).0 in
    let u : Underway (record s { row = s.row + 1; ahead = c.pass_row-e.result.reach }) =
    record {
      known = c.requires.known;
      field_in = c.requires.field_in;
      come = λ reach e. rw add-one (let q = c.pass_row-e.ensures.goes_on reach e in (q.1, q.2));
    } in
    search rules
