-- What a step of writing does to a line: bytes go where its next byte goes, into the list that it was made with.
use Rattle.std.specs.Prelude.{ℕ, ◌≡◌, List, length}
use Rattle.writing.specs.Answers.{Put}
use Rattle.writing.specs.declared.Line.{Line}

-- a line has grown by these bytes, in the same list, which is as long as it was
pub record Grown (before after : Line) (bytes : List ℕ) : Type 0 where
  pub same : after.out.ghost_name ≡ before.out.ghost_name
  pub put : Put before.out.now after.out.now before.used after.used bytes
  pub long : length after.out.now ≡ length before.out.now
