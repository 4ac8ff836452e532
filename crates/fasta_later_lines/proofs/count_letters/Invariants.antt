-- The invariant of the loop of `count_letters` is `Counted`: the letters counted and what the rest yields make the answer.
use Rattle.std.proofs.Common.{true, drop}
use Rattle.palindromes.specs.Fasta.{read_lines}
use Rattle.fasta_later_lines.specs.Passes.{tally_after}
use Rattle.fasta_later_lines.proofs.Counting.{Counted}
use Rattle.fasta_later_lines.proofs.count_letters.Given as goal

abbrev pub invariant-loop-i : goal.invariant-loop-i
invariant-loop-i l = Counted l.text l.i l.line_start l.n (tally_after 0 (read_lines (drop l.start l.text) true 1024))
