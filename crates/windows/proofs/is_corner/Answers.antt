-- `windows::is_corner` meets its contract: its tests are those of `corner`, by what `cell` and `in_nook` ensure. Assumes nothing.
use Rattle.std.proofs.Common.{◌≡◌, false, refl, rules, arith}
use borrow.Author.Tests.{tests}
use Rattle.std.proofs.lemmas.Grind.{common_steps}
use Rattle.std.specs.List.{list_any, range_with_len}
use Rattle.std.proofs.lemmas.Iterator.{YieldsList-from_range}
use Rattle.std.proofs.lemmas.Iterator.Search.{any_from_yields_List}
use mathlib.Core.Bool.{◌||◌, or-false}
use Rattle.floor.specs.Board.{at, dir_at, NW, nook, corner}
use Rattle.windows.specs.Window.{cells}
use Rattle.windows.proofs.is_corner.Goals as goal

pub returns-then-cell : goal.returns-then-cell
unfolding corner
returns-then-cell c =
    let win = c.args.win in
    let e : c.any.result ≡ list_any (λ d. nook (cells win) (dir_at d) (at 0 0)) (range_with_len 4 4)
    = any_from_yields_List (λ d. nook (cells win) (dir_at d) (at 0 0)) _ _ c.any.result c.any.ensures.ran (YieldsList-from_range 4 8 4 (search rules) refl) (λ x b q k. search (rules, tests)) in
    let o : (nook (cells win) NW (at 0 0) || false) ≡ nook (cells win) NW (at 0 0) = or-false _ in
    grind (arith, common_steps)

pub returns-else-cell : goal.returns-else-cell
unfolding corner
returns-else-cell c = grind (arith, common_steps)
