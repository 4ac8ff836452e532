-- The link of a word that is not empty is the longest palindrome that ends its tail.
use Rattle.std.proofs.Common.{sym, ap, ◌∙◌, length}
use borrow.Author.Tests.{eqb-true, eqb-false}
use Rattle.reference_ends.proofs.AtEnds.{link-empty, link-tail}
use Rattle.reference_ends.proofs.link_length.Goals as goal

pub returns-then-is_empty : goal.returns-then-is_empty
returns-then-is_empty c = sym (link-empty _ _ (eqb-true _ _ (sym c.if-is_empty.ensures)))

pub returns-else-is_empty : goal.returns-else-is_empty
returns-else-is_empty c = c.longest_suffix.ensures ∙ sym (ap length (link-tail _ _ (eqb-false _ _ (sym c.if-is_empty.ensures))))
