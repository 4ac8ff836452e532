-- The longest palindrome at an end of a store's record, for the contract of src/at_end.rt.
use Rattle.palindromes.specs.Word.{Word}
use Rattle.palindromes.specs.End.{End, longest_at}
use Rattle.store.specs.Layout.{letters_in}
use Rattle.store.specs.Good.{rule_of}

-- the longest at the end
abbrev pub longest_in : Word → End → Word
longest_in b e = longest_at (rule_of b) e (letters_in b)
