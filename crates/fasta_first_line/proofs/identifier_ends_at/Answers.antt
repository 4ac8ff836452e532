-- Each way out says which of the tests of `ends_identifier` decided.
use Rattle.std.proofs.Common.{rules, sym, ◌∙◌}
use mathlib.Core.Logic.{⊎_elim}
use Rattle.fasta_first_line.proofs.FirstLine.{ends-inside, ends-outside, does-not-end}
use Rattle.fasta_first_line.proofs.identifier_ends_at.Goals as goal

pub returns-then-text-at : goal.returns-then-text-at
returns-then-text-at c = sym (ends-outside _ _ c.if-text-at.true)

pub returns-in-32 : goal.returns-in-32
returns-in-32 c = sym (ends-inside _ _ c.if-text-at.false ∙ ⊎_elim (λ e. rw e) (λ e. rw e) c.in-32.is)

pub returns-in-10 : goal.returns-in-10
returns-in-10 c = sym (ends-inside _ _ c.if-text-at.false ∙ rw c.in-10.is)

pub returns-in-13 : goal.returns-in-13
returns-in-13 c = c.lf_at.ensures ∙ sym (ends-inside _ _ c.if-text-at.false ∙ rw c.in-13.is)

pub returns-in_default : goal.returns-in_default
returns-in_default c = sym (does-not-end _ _ c.if-text-at.false (search rules) (search rules) (search rules) (search rules))
