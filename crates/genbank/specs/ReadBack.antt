-- DEFINITIONS. A page read back. Nothing here is proved.
use Rattle.std.specs.Prelude.{ℕ, Bool, cond, ◌&&◌, [], ◌∷◌, leb}
use Rattle.palindromes.specs.Word.{Word}
use Rattle.palindromes.specs.Fasta.{upper}

-- a small ASCII letter
unfoldable pub is_small : ℕ → Bool
is_small b = leb 97 b && leb b 122

-- the small letters of a text, in their order, as capitals: what stands between the lines ORIGIN and // without its places, blanks and line ends
unfoldable pub read_back : Word → Word
read_back [] = []
read_back (b ∷ text) = cond (is_small b) (upper b ∷ read_back text) (read_back text)
