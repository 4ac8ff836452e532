-- What the contracts say of a row that is made free: where it lies, what it leads to, and the writes that exchange two places of the order.
use Rattle.std.specs.Prelude.{ℕ, ◌+◌, ◌*◌, ◌-◌, ◌≤◌, ◌<◌, ◌≡◌, List, [], ◌∷◌, length}
use Rattle.palindromes.specs.Word.{Word}
use Rattle.store.specs.Layout.{count_in, inner_in, outer_in, order_in, rank_in}
use Rattle.store.specs.Writes.{Write, write}
use Rattle.freeing.specs.declared.Leaf.{Leaf}

-- row q, of the place `rank` of the order, changes places with the row at the place `last`
abbrev pub places_changed : (q rank moved last : ℕ) → List Write
places_changed q rank moved last = write (rank + 2) 8 moved ∷ write moved 9 rank ∷ write (last + 2) 8 q ∷ write q 9 last ∷ []

-- what is read and written of a row q that goes lies within the store
pub record Leaves (b : Word) (q : ℕ) : Type 0 where
  pub header : 48 ≤ length b
  pub row : 24 * q + 24 ≤ length b
  pub inner : 24 * inner_in b q + 24 ≤ length b
  pub outer : outer_in b q < 256
  pub rank : 24 * (rank_in b q + 2) + 24 ≤ length b
  pub some : 0 < count_in b
  pub last : 24 * (count_in b - 1 + 2) + 24 ≤ length b
  pub moved : 24 * order_in b (count_in b - 1) + 24 ≤ length b

-- its inner row and outer letter, its rank, the last place of the order that is in use and the row there
pub record LeafOf (b : Word) (q : ℕ) (leaf : Leaf) : Type 0 where
  pub inner-is : leaf.inner ≡ inner_in b q
  pub outer-is : leaf.outer ≡ outer_in b q
  pub rank_is : leaf.rank ≡ rank_in b q
  pub last-is : leaf.last ≡ count_in b - 1
  pub moved-is : leaf.moved ≡ order_in b (count_in b - 1)
