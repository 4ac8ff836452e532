-- The counter of the line's mark goes up.
use Rattle.std.proofs.Common.{sym, ◌∙◌}
use Rattle.line_marks.proofs.Counters.{goes-right, goes-repeated, goes-wrong}
use Rattle.line_marks.proofs.count_line.Goals as goal

pub returns-in-Right : goal.returns-in-Right
returns-in-Right c =
    λ i before l e a. let r = c.mark_line.ensures i before l e a in (goes-right _ _ (sym c.in-Right.is ∙ r.0), r.1)

pub returns-in-Repeated : goal.returns-in-Repeated
returns-in-Repeated c =
    λ i before l e a. let r = c.mark_line.ensures i before l e a in (goes-repeated _ _ (sym c.in-Repeated.is ∙ r.0), r.1)

pub returns-in-Wrong : goal.returns-in-Wrong
returns-in-Wrong c =
    λ i before l e a. let r = c.mark_line.ensures i before l e a in (goes-wrong _ _ (sym c.in-Wrong.is ∙ r.0), r.1)
