-- DEFINITIONS. When a store is good: it shows a record and the eertree of the record's letters. Nothing here is proved.
use Rattle.std.specs.Prelude.{ℕ, ◌+◌, ◌≤◌, ◌<◌, ◌≡◌, true, false, length, get_or}
use Rattle.palindromes.specs.Word.{Word, all_letters}
use Rattle.palindromes.specs.Reading.{rule_in}
use Rattle.palindromes.specs.Record.{count, count_of_length, longest_length}
use Rattle.palindromes.specs.End.{End, longest_at}
use Rattle.palindromes.specs.Node.{Node, spelt}
use Rattle.palindromes.specs.Eertree.{Table, Shows, node_from}
use Rattle.palindromes.specs.Refusal.{store_size}
use Rattle.store.specs.Layout.{cell, capacity_in, size_in, count_in, reading_in, longest_length_in, end_row, length_in, link_in, inner_in, outer_in, edge_in, order_in, rank_in, used_in, length_count_in, letters_at, letters_in}

-- the partner rule that the store's record is read by
abbrev pub rule_of : Word → ℕ → ℕ
rule_of b = rule_in (reading_in b)

-- the rows of the store as a table
abbrev pub table_in : Word → Table
table_in b = record { used = used_in b; length = length_in b; link = link_in b; inner = inner_in b; outer = outer_in b; edge = edge_in b }

-- what a row of the store holds
unfoldable pub node_in : Word → ℕ → Node
node_in b r = node_from (rule_of b) (inner_in b) (outer_in b) (capacity_in b + 2) r

-- the sizes: 01 "a capacity of 1 to 1,024 letters", "at least 48 × capacity + 256 bytes", "full at exactly that many"
pub record Sized (b : Word) : Type 0 where
  pub at_least_one : 1 ≤ capacity_in b
  pub at_most : capacity_in b ≤ 1024
  pub long-enough : store_size (capacity_in b) ≤ length b
  pub letters-fit : size_in b ≤ capacity_in b

-- place i of the order holds a row, and the row's rank is i
pub record OrderIs (b : Word) (i : ℕ) : Type 0 where
  pub low : 2 ≤ order_in b i
  pub high : order_in b i < capacity_in b + 2
  pub back : rank_in b (order_in b i) ≡ i

-- row r has a rank, and the place of that rank in the order holds r
pub record RankIs (b : Word) (r : ℕ) : Type 0 where
  pub high : rank_in b r < capacity_in b
  pub back : order_in b (rank_in b r) ≡ r

-- the row of the longest repeat at an end
pub record EndIs (b : Word) (e : End) : Type 0 where
  pub used : used_in b (end_row b e) ≡ true
  pub holds : node_in b (end_row b e) ≡ spelt (longest_at (rule_of b) e (letters_in b))

-- 01 "a store is good if it shows a record and a table that obey the next section". What the store shows beyond that is fixed too, so that every byte
-- of an accepted change follows: free rows, the roots' outer letters and the places after the last letter are zero
pub record Good (b : Word) : Type 0 where
  pub sized : Sized b
  pub reading : reading_in b < 2
  pub letters : all_letters (letters_in b) ≡ true
  pub table : Shows (rule_of b) (letters_in b) (table_in b) (node_in b)
  pub count-is : count_in b ≡ count (rule_of b) (letters_in b)
  pub length-counts : (k : ℕ) → 1 ≤ k → k ≤ capacity_in b → length_count_in b k ≡ count_of_length (rule_of b) k (letters_in b)
  pub longest-is : longest_length_in b ≡ longest_length (rule_of b) (letters_in b)
  pub ends : (e : End) → EndIs b e
  pub order : (i : ℕ) → i < capacity_in b → OrderIs b i
  pub rank : (r : ℕ) → 2 ≤ r → r < capacity_in b + 2 → RankIs b r
  pub free-rows : (r f : ℕ) → r < capacity_in b + 2 → used_in b r ≡ false → f < 8 → cell b r f ≡ 0
  pub root-letters : (outer_in b 0 ≡ 0) × (outer_in b 1 ≡ 0)
  pub free-places : (i : ℕ) → size_in b ≤ i → i < capacity_in b → get_or b (letters_at (capacity_in b) + i) 0 ≡ 0
