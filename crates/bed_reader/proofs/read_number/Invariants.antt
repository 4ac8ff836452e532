-- What is left of the field decides whether all its bytes are digits, and what they say on top of what was read.
use Rattle.std.proofs.Common.{◌≡◌, ◌≤◌, drop}
use Rattle.palindromes.specs.Digits.{value_from, value}
use Rattle.palindromes.specs.Sheet.{all_digits}
use Rattle.bed_reader.proofs.Fields.{most}
use Rattle.bed_reader.proofs.read_number.Given as goal

abbrev pub invariant-loop-b : goal.invariant-loop-b
invariant-loop-b l =
    (all_digits l.field ≡ all_digits (drop l.b-index l.field)) × (value l.field ≡ value_from l.said (drop l.b-index l.field)) × (l.said ≤ most l.b-index)
