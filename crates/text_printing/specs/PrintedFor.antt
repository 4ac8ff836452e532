-- DEFINITIONS. The bytes that the program mirrorlist prints for what a text says. Nothing here is proved.
use Rattle.std.specs.Prelude.{ℕ, take, drop}
use Rattle.palindromes.specs.Word.{Word}
use Rattle.palindromes.specs.Palindrome.{plain}
use Rattle.palindromes.specs.Bed.{listing}
use Rattle.palindromes.specs.Fasta.{Fasta, refused, accepted}
use Rattle.refusal_line.specs.RefusalLine.{refused_line}

-- the identifier of a text, n bytes after the `>`
abbrev pub identifier_of : ℕ → Word → Word
identifier_of n text = take n (drop 1 text)

-- 01 "adds every letter at the right and prints the list"; 01 "Zero letters print nothing" follows, for no letters have no repeats
unfoldable pub printed_for : Fasta → Word → Word
printed_for (refused n) text = refused_line n
printed_for (accepted n w) text = listing plain (identifier_of n text) w
