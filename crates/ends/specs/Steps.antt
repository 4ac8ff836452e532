-- What the contracts say of the ends: the writes that settle them, and the row of the end across from a change.
use Rattle.std.specs.Prelude.{ℕ, ◌≡◌, cond, List, [], ◌∷◌, eqb, ℤ, pos}
use Rattle.palindromes.specs.Word.{Word}
use Rattle.palindromes.specs.End.{End, other}
use Rattle.store.specs.Layout.{end_cell, end_row}
use Rattle.store.specs.Writes.{Write, write}

-- the number of letters, the row of an end, and that of the end across
abbrev pub end_writes : End → (n row opposite : ℕ) → List Write
end_writes e n row opposite = write 0 9 n ∷ write 1 (end_cell e) row ∷ write 1 (end_cell (other e)) opposite ∷ []

-- r is the row of the end across from e, where the longest palindrome at e has this length: `whole` if that is all n letters, and else the row that is there
abbrev pub Opposite : Word → End → ℤ → (n whole r : ℕ) → Type 0
Opposite b e longest n whole r = (k : ℕ) → longest ≡ pos k → r ≡ cond (eqb k n) whole (end_row b (other e))
