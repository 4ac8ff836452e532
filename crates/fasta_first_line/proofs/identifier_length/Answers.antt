-- At each place the byte there makes the identifier one longer, or ends it; past the text it has ended.
use Rattle.std.proofs.Common.{sym, ◌∙◌, arith}
use Rattle.fasta_first_line.proofs.FirstLine.{one-longer, stops, stops-outside}
use Rattle.fasta_first_line.proofs.identifier_length.Goals as goal

pub returns-then-not-is_identifier_byte : goal.returns-then-not-is_identifier_byte
returns-then-not-is_identifier_byte c =
    omega (arith, stops c.args.text.now c.loop-i.i c.loop-i-test.true (sym c.is_identifier_byte.ensures ∙ c.if-not-is_identifier_byte.true))

pub loop-i-preserved : goal.loop-i-preserved
loop-i-preserved c =
    omega (arith, one-longer c.args.text.now c.loop-i.i c.loop-i-test.true (sym c.is_identifier_byte.ensures ∙ c.if-not-is_identifier_byte.false))

pub returns : goal.returns
returns c =
    let none = stops-outside c.args.text.now in
    grind (arith, c.loop-i.auto.i-end, none 1, none c.loop-i.i c.loop-i-test.false)
