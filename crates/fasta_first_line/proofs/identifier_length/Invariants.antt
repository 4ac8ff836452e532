-- the bytes passed and the identifier's length from place i on make the whole length
use Rattle.std.proofs.Common.{◌≡◌, ◌+◌, ◌-◌, drop}
use Rattle.palindromes.specs.Fasta.{identifier_length}
use Rattle.fasta_first_line.proofs.identifier_length.Given as goal

abbrev pub invariant-loop-i : goal.invariant-loop-i
invariant-loop-i l = l.i - 1 + identifier_length (drop l.i l.text) ≡ identifier_length (drop 1 l.text)
