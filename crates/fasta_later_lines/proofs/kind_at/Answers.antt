-- `kind_at` meets its contract: each way out says which of the tests of `kind_of` decided.
use mathlib.Core.Logic.{⊎_elim, inl, inr}
use borrow.Author.Tests.{eq-eqb, ne_eqb}
use Rattle.std.proofs.Common.{arith, ◌≡◌, sym, ◌∙◌, get_or}
use Rattle.fasta_later_lines.specs.Passes.{kind_named}
use Rattle.fasta_later_lines.proofs.LaterLines.{kind-header, kind-line-end, kind-before-lf, kind-lone-cr, kind-letter, kind-other}
use Rattle.fasta_later_lines.proofs.kind_at.Goals as goal

pub returns-then-reads_as_letter : goal.returns-then-reads_as_letter
unfolding kind_named
returns-then-reads_as_letter c = sym (kind-letter _ _ _ (sym c.reads_as_letter.ensures ∙ c.if-reads_as_letter.true))

pub returns-then-b-eq62 : goal.returns-then-b-eq62
unfolding kind_named
returns-then-b-eq62 c = sym (kind-header _ _ _ c.if-line_start.true (eq-eqb _ _ c.if-b-eq62.true))

pub returns-in-10 : goal.returns-in-10
unfolding kind_named
returns-in-10 c = sym (kind-line-end _ _ _ c.in-10.is)

pub returns-then-lf_at : goal.returns-then-lf_at
unfolding kind_named
returns-then-lf_at c = sym (kind-before-lf _ _ _ c.in-13.is (sym c.lf_at.ensures ∙ c.if-lf_at.true))

pub returns-else-lf_at : goal.returns-else-lf_at
unfolding kind_named
returns-else-lf_at c = sym (kind-lone-cr _ _ _ c.in-13.is (sym c.lf_at.ensures ∙ c.if-lf_at.false))

pub returns-in_default : goal.returns-in_default
unfolding kind_named
returns-in_default c =
    let b = get_or c.args.text.now c.args.at 0 in
    let no-lf : b ≡ 10 → ⊥ = omega arith in
    let no-cr : b ≡ 13 → ⊥ = omega arith in
    sym
    (kind-other _ _ _ (⊎_elim (λ w. inr (ne_eqb _ _ w.1)) (λ w. inl w) c.else-line_start.either) no-lf no-cr
    (sym c.reads_as_letter.ensures ∙ c.if-reads_as_letter.false))
