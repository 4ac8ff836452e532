use Rattle.std.proofs.Common.{sym, ◌∙◌, eq-eqb, ne_eqb}
use Rattle.palindromes.specs.Palindrome.{plain}
use Rattle.palindromes.specs.Reading.{complement}
use Rattle.palindromes.proofs.Readings.{rule-plain, rule-inverted}
use Rattle.palindromes.proofs.Entries.{entries_from, entry_at}
use Rattle.partners.proofs.table.Goals as goal

pub returns-then-reading-ne1 : goal.returns-then-reading-ne1
unfolding entries_from complement
returns-then-reading-ne1 c x h = entry_at plain x h ∙ sym (rule-plain _ (ne_eqb _ 1 c.if-reading-ne1.true) x)

pub returns-else-reading-ne1 : goal.returns-else-reading-ne1
unfolding entries_from complement
returns-else-reading-ne1 c x h = entry_at complement x h ∙ sym (rule-inverted _ (eq-eqb _ 1 c.if-reading-ne1.false) x)
