-- Each row met has the length of its chain, and the total is the number of the palindromes by their ends in the letters passed.
use Rattle.std.proofs.Common.{◌≡◌, take}
use Rattle.palindromes.specs.Occurrences.{occurrences_by_end}
use Rattle.store.specs.Layout.{letters_in}
use Rattle.store.specs.Good.{rule_of}
use Rattle.suffix_palindromes.specs.Handed.{chain_length, Handed}
use Rattle.suffix_palindromes.proofs.occurrences_by_end.Given as goal

abbrev pub invariant-loop-end : goal.invariant-loop-end
invariant-loop-end l =
    record {
      chained : Handed l.b (chain_length (rule_of l.b)) l.end-index l.chains;
      counted : l.total ≡ occurrences_by_end (rule_of l.b) (take l.end-index (letters_in l.b));
    }
