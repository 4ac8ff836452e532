-- The test of the length decides where the field is short, and that of its first byte where it is long.
use Rattle.std.proofs.Common.{sym, ◌∙◌, arith}
use Rattle.bed_reader.proofs.Fields.{zero-short, zero-long}
use Rattle.bed_reader.proofs.needless_zero.Goals as goal
use borrow.Author.Tests.{le-ltb}

pub returns-then-field-gt1 : goal.returns-then-field-gt1
returns-then-field-gt1 c = sym (zero-long _ (omega arith))

pub returns-else-field-gt1 : goal.returns-else-field-gt1
returns-else-field-gt1 c = le-ltb 1 _ c.if-field-gt1.false ∙ sym (zero-short _ (omega arith))
