-- `answering::answer` meets its contract: by the direct line where it is legal, else by the search. Assumes nothing.
use native.Mathlib.Omega.{arith}
use Rattle.answering.proofs.Choosing.{start_cell, goal_cell, small_ends, by_line, searchable, by_search}
use Rattle.answering.proofs.answer.Goals as goal
use Rattle.answering.proofs.answer.Goals.{then-line_legal, else-line_legal}

pub search_answer-r-requires : goal.search_answer-r-requires
search_answer-r-requires c =
    searchable _ c.requires (c.line_legal.ensures.no c.if-line_legal.false)

pub returns : goal.returns
returns c =
    elim c.if-line_legal.branch [
      | then-line_legal w ↦
          rw (w.r-is, w.route-is) (by_line _ c.requires _ _ _ (c.line_legal.ensures.yes w.if-line_legal.true) w.take_line-r.ensures (rw w.work-is at c.zero_first.ensures))
      | else-line_legal w ↦
          rw (w.r-is, w.route-is)
          (by_search _ c.requires (c.line_legal.ensures.no w.if-line_legal.false) _ _ _ _ w.search_answer-r.ensures.answer w.search_answer-r.ensures.beyond
          (rw w.work-is at c.zero_first.ensures))
    ]
