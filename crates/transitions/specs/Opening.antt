-- DEFINITIONS. The bytes after an accepted opening. Nothing here is proved.
use Rattle.std.specs.Prelude.{ℕ, zero, suc, ◌+◌, List, [], ◌∷◌, ◌++◌, pos, negsuc, replicate}
use Rattle.std.proofs.lemmas.List.Edits.{sets}
use Rattle.palindromes.specs.Word.{Word}
use Rattle.store.specs.Layout.{letters_at}
use Rattle.store.specs.Writes.{Write, write, writes, stored}

-- how many bytes a store of this capacity uses
abbrev pub used_bytes : ℕ → ℕ
used_bytes capacity = letters_at capacity + capacity

-- the order of the rows from 2 on, and each row's rank: the first n of them in rising order
unfoldable pub order_writes : ℕ → List Write
order_writes zero = []
order_writes (suc n) = order_writes n ++ (write (n + 2) 8 (n + 2) ∷ write (n + 2) 9 n ∷ [])

-- 01 "leaves an empty record that is full at exactly that many", "Row 0 is the imaginary string, whose length is the signed number -1. Row 1 is the empty string, length 0":
-- the capacity, the reading, the lengths of rows 0 and 1, and both ends at the empty string
abbrev pub head_writes : ℕ → ℕ → List Write
head_writes reading capacity = write 0 8 capacity ∷ write 0 11 reading ∷ write 0 0 (stored (negsuc 0)) ∷ write 1 0 (stored (pos 0)) ∷ write 1 8 1 ∷ write 1 9 1 ∷ []

unfoldable pub opening_writes : ℕ → ℕ → List Write
opening_writes reading capacity = head_writes reading capacity ++ order_writes capacity

-- every byte that the store uses is set, whatever it held, and no other
unfoldable pub opened : ℕ → ℕ → Word → Word
opened reading capacity b = writes (sets b 0 (replicate (used_bytes capacity) 0)) (opening_writes reading capacity)
