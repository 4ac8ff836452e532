-- The first LF ends the first line; where there is none, nothing stands after it.
use Rattle.std.proofs.Common.{sym, ◌∙◌, arith}
use Rattle.std.proofs.Math.ListN.{drop_of_length-le}
use Rattle.fasta_first_line.proofs.FirstLine.{line-goes-on, line-ends, no-later-line}
use Rattle.fasta_first_line.proofs.later_lines_at.Goals as goal

pub returns-then-text-i-eq10 : goal.returns-then-text-i-eq10
returns-then-text-i-eq10 c = sym (line-ends _ _ c.loop-i-test.true c.if-text-i-eq10.true) ∙ c.loop-i.invariant

pub loop-i-preserved : goal.loop-i-preserved
loop-i-preserved c = sym (line-goes-on _ _ c.loop-i-test.true c.if-text-i-eq10.false) ∙ c.loop-i.invariant

pub returns : goal.returns
returns c =
    drop_of_length-le c.args.text.now (omega arith)
    ∙ sym (drop_of_length-le c.args.text.now c.loop-i-test.false)
    ∙ sym (no-later-line _ _ c.loop-i-test.false)
    ∙ c.loop-i.invariant
