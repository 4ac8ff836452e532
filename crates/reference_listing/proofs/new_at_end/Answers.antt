-- The two parts that it lends are the longest palindrome at the end and all but the last letter.
use Rattle.std.proofs.Common.{sym, ◌∙◌, arith}
use borrow.Author.Tests.{eqb-false}
use Rattle.reference_listing.proofs.Listing.{longest-within, new_none, new-stood, new-found}
use Rattle.reference_listing.proofs.new_at_end.Goals as goal
use Rattle.reference_listing.proofs.new_at_end.Goals.{then-l-eq0, else-l-eq0}

pub overflow_sub-n : goal.overflow_sub-n
overflow_sub-n c = longest-within _ _ _ c.longest_suffix-l.ensures

pub slice_bounds-stands-count-else-l-eq0 : goal.slice_bounds-stands-count-else-l-eq0
slice_bounds-stands-count-else-l-eq0 c = omega (arith, longest-within _ _ _ c.longest_suffix-l.ensures)

pub returns-then-stands : goal.returns-then-stands
returns-then-stands c =
    elim c.if-l-eq0.branch [
      | then-l-eq0 w ↦ new_none _ _ _ c.longest_suffix-l.ensures w.if-l-eq0.true
      | else-l-eq0 w ↦ new-stood _ _ _ c.longest_suffix-l.ensures (sym w.stands.ensures ∙ sym w.value-is ∙ c.if-stands.true)
    ]

pub returns-else-stands : goal.returns-else-stands
returns-else-stands c =
    elim c.if-l-eq0.branch [
      | then-l-eq0 w ↦ absurd (eqb-false _ _ (sym w.value-is ∙ c.if-stands.false) w.if-l-eq0.true)
      | else-l-eq0 w ↦ new-found _ _ _ c.longest_suffix-l.ensures (sym w.stands.ensures ∙ sym w.value-is ∙ c.if-stands.false)
    ]
