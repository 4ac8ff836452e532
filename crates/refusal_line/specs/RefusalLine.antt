-- DEFINITIONS. The line that the program mirrorlist prints for a refusal. Nothing here is proved.
use Rattle.std.specs.Prelude.{ℕ, [], ◌∷◌, ◌++◌}
use Rattle.palindromes.specs.Word.{Word}
use Rattle.palindromes.specs.Bed.{decimal}

-- 01 "it prints only `# refused ` and the number, then LF"
unfoldable pub refused_line : ℕ → Word
refused_line n = (35 ∷ 32 ∷ 114 ∷ 101 ∷ 102 ∷ 117 ∷ 115 ∷ 101 ∷ 100 ∷ 32 ∷ []) ++ decimal n ++ (10 ∷ [])
