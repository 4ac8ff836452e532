-- `bed::line_length` counts the fields, two tabs and an LF.
use Rattle.std.proofs.Common.{arith}
use Rattle.bed.proofs.Line.{line-size}
use Rattle.bed.proofs.line_length.Goals as goal

pub returns : goal.returns
returns c = omega (arith, line-size c.args.name.now c.args.start c.args.end)
