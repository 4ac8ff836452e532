-- An empty text and a bad first line are refused, and the later lines decide the rest.
use Rattle.std.proofs.Common.{sym, ◌∙◌, arith}
use Rattle.fasta.proofs.Answering.{empty-is-bad, bad-text, good-text, answers-refusal}
use Rattle.fasta.proofs.read.Goals as goal

pub returns-then-text-eq0 : goal.returns-then-text-eq0
returns-then-text-eq0 c = answers-refusal _ 10 _ (bad-text _ (empty-is-bad _ (omega arith)))

pub returns-then-not-good_first_line : goal.returns-then-not-good_first_line
returns-then-not-good_first_line c = answers-refusal _ 10 _ (bad-text _ (sym c.good_first_line.ensures ∙ c.if-not-good_first_line.true))

pub returns : goal.returns
returns c =
    rw (good-text _ _ (sym c.good_first_line.ensures ∙ c.if-not-good_first_line.false) c.identifier_length-identifier.ensures)
    c.read_later_lines.ensures
