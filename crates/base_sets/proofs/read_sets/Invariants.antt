use Rattle.base_sets.proofs.Reading.{Read}
use Rattle.base_sets.proofs.read_sets.Given as goal

abbrev pub invariant-loop-i : goal.invariant-loop-i
invariant-loop-i l = Read l.text l.initial.sets l.initial.certain l.sets l.certain l.i
