-- DEFINITIONS. The bytes after a run of cell writes, and the letters seen from an end. Nothing here is proved.
use Rattle.std.specs.Prelude.{ℕ, ◌+◌, List, [], ◌∷◌, ℤ, pos, negsuc, zero, suc}
use Rattle.palindromes.specs.Word.{Word}
use Rattle.palindromes.specs.Palindrome.{mirror}
use Rattle.palindromes.specs.End.{End, at_left, at_right}
use Rattle.store.specs.Layout.{set_cell}

-- a number put into a cell of a row
pub record Write : Type 0 where
  pub row : ℕ
  pub field : ℕ
  pub value : ℕ

abbrev pub write : ℕ → ℕ → ℕ → Write
write r f v = record { row = r; field = f; value = v }

-- the store after the writes, the first of the list first
unfoldable pub writes : Word → List Write → Word
writes b [] = b
writes b (w ∷ ws) = writes (set_cell b w.row w.field w.value) ws

-- what a signed length is stored as: one more
abbrev pub stored : ℤ → ℕ
stored (pos n) = suc n
stored (negsuc n) = zero

-- the four cells of a row that are not edges
abbrev pub row_writes : ℕ → ℤ → ℕ → ℕ → ℕ → List Write
row_writes r length link inner outer = write r 0 (stored length) ∷ write r 1 link ∷ write r 2 inner ∷ write r 3 outer ∷ []

-- the carried numbers: how many repeats have length k, and the largest length
abbrev pub carried_writes : (k count longest : ℕ) → List Write
carried_writes k count longest = write (k + 1) 10 count ∷ write 1 10 longest ∷ []

-- the letters as they are read towards an end: a record worked from the left is its mirror worked from the right
unfoldable pub towards : (ℕ → ℕ) → End → Word → Word
towards σ at_right s = s
towards σ at_left s = mirror σ s
