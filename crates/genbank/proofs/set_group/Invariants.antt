-- The loop of `genbank::set_group`: the first i letters are there.
use Rattle.std.proofs.Common.{◌≡◌, [], map, get_or, set, take}
use Rattle.std.proofs.lemmas.List.Edits.{sets}
use Rattle.palindromes.specs.Genbank.{lower}
use Rattle.genbank.proofs.set_group.Given as goal

abbrev pub invariant-loop-i : goal.invariant-loop-i
invariant-loop-i l = l.line ≡ set l.initial.line l.g (sets (get_or l.initial.line l.g []) 0 (map lower (take l.i l.w)))
