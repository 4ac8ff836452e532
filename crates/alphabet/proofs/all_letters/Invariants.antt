-- The loop of `alphabet::all_letters`: what it has so far is the definition's answer on the bytes that it has passed.
use Rattle.std.proofs.Common.{◌≡◌, take}
use Rattle.palindromes.specs.Word.{all_letters}
use Rattle.alphabet.proofs.all_letters.Given as goal

abbrev pub invariant-loop-c : goal.invariant-loop-c
invariant-loop-c l = l.all ≡ all_letters (take l.c-index l.piece)
