-- What the contracts of src/lib.rt say of the lengths that are counted, and what is counted of a word: `carried` holds how many palindromes of length k there are at place k + 1, and the largest length
-- at place 1.
use Rattle.std.specs.Prelude.{ℕ, ◌+◌, ◌*◌, ◌-◌, ◌≤◌, ◌<◌, max, ◌≡◌, ◌≢◌, length, get_or}
use Rattle.palindromes.specs.Word.{Word}
use Rattle.palindromes.specs.Record.{count_of_length, longest_length}
use Rattle.store.specs.Layout.{cell}

-- the lengths of the palindromes of p
pub record LengthsOf (σ : ℕ → ℕ) (p carried : Word) : Type 0 where
  pub long : length carried ≡ 1026
  pub counts : (k : ℕ) → 1 ≤ k → k ≤ 1024 → get_or carried (k + 1) 0 ≡ count_of_length σ k p
  pub longest : get_or carried 1 0 ≡ longest_length σ p

-- row q stores a length, plus one, that has a place, and there are not yet as many of it as a place can count
pub record Countable (b carried : Word) (q : ℕ) : Type 0 where
  pub inside : 24 * q + 24 ≤ length b
  pub long : length carried ≡ 1026
  pub some : 2 ≤ cell b q 0
  pub most : cell b q 0 < 1026
  pub few : get_or carried (cell b q 0) 0 < 65535

-- one more is counted at place m, and the largest length is not below that of place m
pub record Counted (carried : Word) (m : ℕ) (carried' : Word) : Type 0 where
  pub here : get_or carried' m 0 ≡ get_or carried m 0 + 1
  pub largest : get_or carried' 1 0 ≡ max (get_or carried 1 0) (m - 1)
  pub others : (i : ℕ) → i ≢ 1 → i ≢ m → get_or carried' i 0 ≡ get_or carried i 0
