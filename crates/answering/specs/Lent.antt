-- What is asked, as it is lent.
use Rattle.std.specs.Prelude.{ℕ, List}
use Rattle.floor.specs.declared.lent.Grid.{Grid}
use Rattle.floor.specs.declared.lent.Cell.{Cell}
use Rattle.plan.specs.Plan.{Lists}
use Rattle.answering.specs.Asked.{Asked}

-- a question of a floor, its plan, start and goal, and the room lent
abbrev pub asked_of : ℕ → ℕ → List ℕ → Lists → Cell → Cell → List ℕ → List ℕ → Asked
asked_of w h words p start goal route work =
    record {
      w = w;
      h = h;
      words = words;
      plan = p;
      sx = start.x;
      sy = start.y;
      gx = goal.x;
      gy = goal.y;
      route = route;
      work = work;
    }

-- the same of an accepted floor
abbrev pub asked : Grid → Lists → Cell → Cell → List ℕ → List ℕ → Asked
asked g = asked_of g.w g.h g.words.now
