-- The tests are those of `good_first_line`, in the same order.
use Rattle.std.proofs.Common.{sym, ◌∙◌}
use borrow.Author.Tests.{eq-eqb, ne_eqb, le-leb, lt-leb}
use Rattle.fasta_first_line.proofs.FirstLine.{first-line-tests}
use Rattle.fasta_first_line.proofs.good_first_line.Goals as goal

pub returns-then-text-ne62 : goal.returns-then-text-ne62
returns-then-text-ne62 c = sym (first-line-tests _ _ c.requires.text_nonzero c.requires.n_value ∙ simp (ne_eqb _ _ c.if-text-ne62.true))

pub returns-then-n-lt1 : goal.returns-then-n-lt1
returns-then-n-lt1 c =
    sym (first-line-tests _ _ c.requires.text_nonzero c.requires.n_value ∙ simp (eq-eqb _ _ c.if-text-ne62.false, lt-leb _ _ c.if-n-lt1.true))

pub returns-then-n-gt32 : goal.returns-then-n-gt32
returns-then-n-gt32 c =
    sym
    (first-line-tests _ _ c.requires.text_nonzero c.requires.n_value
    ∙ simp (eq-eqb _ _ c.if-text-ne62.false, le-leb _ _ c.if-n-lt1.false, lt-leb _ _ c.if-n-gt32.true))

pub returns : goal.returns
returns c =
    sym
    (first-line-tests _ _ c.requires.text_nonzero c.requires.n_value
    ∙ simp (eq-eqb _ _ c.if-text-ne62.false, le-leb _ _ c.if-n-lt1.false, le-leb _ _ c.if-n-gt32.false, sym c.identifier_ends_at.ensures))
