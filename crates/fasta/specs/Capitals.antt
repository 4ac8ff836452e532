-- DEFINITIONS. A text with its later lines in capitals, to which 02 (i) has a text with small letters compared. Nothing here is proved.
use Rattle.std.specs.Prelude.{true, false, [], ◌∷◌, map, eqb}
use Rattle.palindromes.specs.Word.{Word}
use Rattle.palindromes.specs.Fasta.{upper}

-- the first line, with the identifier, stays as it is, up to the first LF; what stands behind it is in capitals
unfoldable pub upper_later_lines : Word → Word
upper_later_lines [] = []
upper_later_lines (b ∷ t) = b ∷ elim (eqb b 10) [ true ↦ map upper t | false ↦ upper_later_lines t ]
