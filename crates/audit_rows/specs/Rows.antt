-- What the test of src/lib.rt decides of the rows once the tour is over, and what it counts.
use Rattle.std.specs.Prelude.{ℕ, ◌+◌, ◌≤◌, ◌<◌, ◌≡◌, Bool, ◌&&◌, not, eqb, leb, length, get_or}
use Rattle.palindromes.specs.Word.{Word}
use Rattle.store.specs.Layout.{cell, capacity_in, edge_in}
use Rattle.store.specs.Good.{Sized, RankIs}
use Rattle.audit_fixed.specs.Counting.{one, count_below}

-- the edge of row r by c leads to a row
unfoldable pub leads_from : Word → (c r : ℕ) → Bool
leads_from b c r = not (eqb (edge_in b r c) 0)

-- a number of each of the four letters, added up
abbrev pub four_letters : (ℕ → ℕ) → ℕ
four_letters f = f 65 + f 67 + f 71 + f 84

-- how many edges of row r lead to a row, and how many of the first n rows
abbrev pub edges_of : Word → ℕ → ℕ
edges_of b r = four_letters (λ c. one (leads_from b c r))

abbrev pub edges_below : Word → ℕ → ℕ
edges_below b n = four_letters (λ c. count_below (leads_from b c) n)

-- row r is no root, and says something of a palindrome: its length, link, inner row and letter are not all zero
unfoldable pub filled : Word → ℕ → Bool
filled b r = leb 2 r && not (eqb (cell b r 0 + cell b r 1 + cell b r 2 + cell b r 3) 0)

-- row r is one of a store's table and no root, and there is a number counted for each row
pub record RowAt (b carried : Word) (capacity r : ℕ) : Type 0 where
  pub sized : Sized b
  pub capacity-is : capacity ≡ capacity_in b
  pub low : 2 ≤ r
  pub inside : r < capacity_in b + 2
  pub long : length carried ≡ 1026

-- the row has a place of the order that names it, and carries the number that was counted
pub record RowRight (b carried : Word) (r : ℕ) : Type 0 where
  pub rank : RankIs b r
  pub carries : cell b r 10 ≡ get_or carried r 0

-- every row from 2 on; and as many edges lead to a row, and as many rows say something, as rows were met
pub record RowsRight (b carried : Word) (met : ℕ) : Type 0 where
  pub each : (r : ℕ) → 2 ≤ r → r < capacity_in b + 2 → RowRight b carried r
  pub edges : edges_below b (capacity_in b + 2) ≡ met
  pub said : count_below (filled b) (capacity_in b + 2) ≡ met
