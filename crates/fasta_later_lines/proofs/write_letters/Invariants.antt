-- The invariant of the loop of `write_letters` is `Writing`: writing the letters that are left makes the buffer that is wanted.
use Rattle.std.proofs.Common.{true, drop}
use lib.Seq.{sets}
use Rattle.palindromes.specs.Fasta.{read_lines}
use Rattle.fasta_later_lines.specs.Passes.{letters_of}
use Rattle.fasta_later_lines.proofs.Writing.{Writing}
use Rattle.fasta_later_lines.proofs.write_letters.Given as goal

abbrev pub invariant-loop-i : goal.invariant-loop-i
invariant-loop-i l = Writing l.text l.i l.n l.out (sets l.fn.out 0 (letters_of (read_lines (drop l.start l.text) true 1024)))
