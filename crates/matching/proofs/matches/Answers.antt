-- `matching::matches` meets its contract: each test that fails refutes a part of the plan, and together they make it. Assumes nothing.
use Rattle.std.proofs.Common.{arith}
use Rattle.matching.proofs.matches.Goals as goal

pub returns : goal.returns
returns c =
    record {
      yes = λ e.
          record {
            own = record {
              marks = record {
                four_each = omega arith;
                cleared = c.clearances_match.ensures.yes c.if-not-clearances_match.false;
                ascending = c.corners_match.ensures.yes c.if-not-corners_match.false;
              };
              links = c.links_match.ensures.yes e;
            };
            few_corners = omega arith;
            few_arcs = omega arith;
          };
      no = λ e p. c.links_match.ensures.no e p.own.links;
    }
