-- DEFINITIONS. The nodes of an eertree, which document 01 calls rows, and what each says, row numbers apart. Nothing here is proved.
use Rattle.std.specs.Prelude.{ℕ, zero, Bool, true, [], ◌∷◌, ◌++◌, length, ℤ, pos, negsuc}
use Rattle.palindromes.specs.Word.{Word, member}
use Rattle.palindromes.specs.Record.{palindromes, longest_suffix}
use Rattle.palindromes.specs.End.{without_last}

-- row 0 is the imaginary string, row 1 the empty string, and any other row a mirror repeat: 01 "The table"; 001 section 2.2
pub data Node : Type 0 where
  imaginary : Node
  spelt : Word → Node

-- 01 "row 0 is the imaginary string, whose length is the signed number -1. Row 1 is the empty string, length 0"; 001 section 2.2 "len"
unfoldable pub length_of : Node → ℤ
length_of imaginary = negsuc zero
length_of (spelt w) = pos (length w)

-- 01 "link": the longest proper suffix that is a mirror repeat, the empty string where there is none; both roots have the imaginary one.
-- 001 section 2.2 "suffix link"
unfoldable pub link_of : (ℕ → ℕ) → Node → Node
link_of σ imaginary = imaginary
link_of σ (spelt []) = imaginary
link_of σ (spelt (x ∷ w)) = spelt (longest_suffix σ w)

-- 01 "inner row": the repeat without its first and last letter, the imaginary string for a single letter; both roots answer the imaginary one.
-- 001 lemma 2.3: the node from which the one incoming edge comes
unfoldable pub inner_of : Node → Node
inner_of imaginary = imaginary
inner_of (spelt []) = imaginary
inner_of (spelt (x ∷ [])) = imaginary
inner_of (spelt (x ∷ y ∷ w)) = spelt (without_last (y ∷ w))

-- what the node spells: 01 "rows 0 and 1 spell nothing"
unfoldable pub spelling_of : Node → Word
spelling_of imaginary = []
spelling_of (spelt w) = w

-- the word around a node: the partner of c on its left and c on its right, and c alone around the imaginary string. 001 section 2.2 "the edge labeled by c"
unfoldable pub around : (ℕ → ℕ) → ℕ → Node → Word
around σ c imaginary = c ∷ []
around σ c (spelt w) = σ c ∷ w ++ (c ∷ [])

-- the node is a root, or a mirror repeat that stands in the record
unfoldable pub is_node : (ℕ → ℕ) → Word → Node → Bool
is_node σ s imaginary = true
is_node σ s (spelt []) = true
is_node σ s (spelt (x ∷ w)) = member (x ∷ w) (palindromes σ s)
