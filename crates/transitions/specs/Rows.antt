-- DEFINITIONS. Which row of a store holds a node, which free row comes next, and what a free row is. Nothing here is proved.
use Rattle.std.specs.Prelude.{ℕ, zero, suc, ◌+◌, ◌≤◌, ◌≡◌, Bool, true, false, cond, ◌&&◌, ltb}
use Rattle.palindromes.specs.Word.{Word, same_word, member}
use Rattle.palindromes.specs.Record.{palindromes}
use Rattle.palindromes.specs.Node.{Node, imaginary, spelt}
use Rattle.store.specs.Layout.{capacity_in, count_in, order_in, used_in, letters_in}
use Rattle.store.specs.Good.{rule_of, node_in}

unfoldable pub same_node : Node → Node → Bool
same_node imaginary imaginary = true
same_node imaginary (spelt v) = false
same_node (spelt u) imaginary = false
same_node (spelt u) (spelt v) = same_word u v

-- the least number below n that passes the test, and n where none does
unfoldable pub least_below : (ℕ → Bool) → ℕ → ℕ
least_below p zero = zero
least_below p (suc n) = cond (ltb (least_below p n) n) (least_below p n) (cond (p n) n (suc n))

-- the row that holds a node: 01 "find", "its row"
unfoldable pub row_of : Word → Node → ℕ
row_of b v = least_below (λ r. used_in b r && same_node (node_in b r) v) (capacity_in b + 2)

-- the free row that a new repeat takes: the first of the order that is not in use
unfoldable pub free_row : Word → ℕ
free_row b = order_in b (count_in b)

-- 01 "one of 2 to capacity + 1 that no other repeat has": a row that is free for a new repeat
pub record Free (b : Word) (r : ℕ) : Type 0 where
  pub low : 2 ≤ r
  pub high : r ≤ capacity_in b + 1
  pub unused : used_in b r ≡ false
  pub of_none : (w : Word) → member w (palindromes (rule_of b) (letters_in b)) ≡ true → row_of b (spelt w) ≡ r → ⊥
