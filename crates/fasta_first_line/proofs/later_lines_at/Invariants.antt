-- what stands after the first line is what stands after it from place i on
use Rattle.std.proofs.Common.{◌≡◌, drop}
use Rattle.palindromes.specs.Fasta.{after_first_line}
use Rattle.fasta_first_line.proofs.later_lines_at.Given as goal

abbrev pub invariant-loop-i : goal.invariant-loop-i
invariant-loop-i l = after_first_line (drop l.i l.text) ≡ after_first_line (drop 1 l.text)
