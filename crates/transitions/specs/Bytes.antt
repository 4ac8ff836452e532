-- DEFINITIONS. Lists of numbers that a machine's memory can hold. Nothing here is proved.
use Rattle.std.specs.Prelude.{ℕ, ◌<◌, get_or}
use Rattle.palindromes.specs.Word.{Word}

-- every number of the list is a byte, as those of a lent store always are
abbrev pub Bytes : Word → Type 0
Bytes b = (i : ℕ) → get_or b i 0 < 256
