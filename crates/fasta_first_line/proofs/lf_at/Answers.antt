-- A place has its byte within the text, and none past its end.
use Rattle.std.proofs.Common.{sym, ◌∙◌}
use borrow.Author.Tests.{le-ltb}
use Rattle.fasta_first_line.proofs.Places.{lf-inside, lf-outside}
use Rattle.fasta_first_line.proofs.lf_at.Goals as goal

pub returns-then-at-text : goal.returns-then-at-text
returns-then-at-text c = sym (lf-inside _ _ c.if-at-text.true)

pub returns-else-at-text : goal.returns-else-at-text
returns-else-at-text c = le-ltb _ _ c.if-at-text.false ∙ sym (lf-outside _ _ c.if-at-text.false)
