-- `marks::clearances_match` meets its contract: a list is right where all directions agree. Assumes nothing.
use Rattle.std.proofs.Common.{◌*◌, refl, rules}
use borrow.Author.Tests.{tests}
use Rattle.std.proofs.lemmas.Iterator.{cases_from_all, YieldsList-from_range}
use Rattle.floor.specs.Lent.{on}
use Rattle.marks.specs.Marking.{WayAgrees}
use Rattle.marks.proofs.Orders.{agreeing_cleared, cleared_agrees}
use Rattle.marks.proofs.Marked.{tells_all}
use Rattle.marks.proofs.clearances_match.Goals as goal

pub returns : goal.returns
returns c =
    let g = c.args.floor.now.grid in
    let clear = c.args.clear.now in
    let told = tells_all 4 (λ d. on WayAgrees g clear d (g.w * g.h)) c.all.result
    (cases_from_all _ _ _ (λ d. on WayAgrees g clear d (g.w * g.h)) (λ d. ¬ (on WayAgrees g clear d (g.w * g.h))) c.all.ensures.ran
    (YieldsList-from_range 0 4 4 refl refl)
    (λ x q k. search (rules, tests)) (λ x q k. search (rules, tests))) in
    record {
      yes = λ e. agreeing_cleared _ _ _ _ (λ k d l m. told.yes e d m k l);
      no = λ e s. told.no e (λ d m k l. cleared_agrees _ _ _ clear s k d l m);
    }
