-- DEFINITIONS. What is promised of the rows that a factorization visits. Nothing here is proved.
use Rattle.std.specs.Prelude.{ℕ, ◌*◌, ◌≤◌, ◌≡◌, length}
use Rattle.palindromes.specs.Word.{Word}
use Rattle.palindromes.specs.Palindrome.{plain}
use Rattle.series.specs.Series.{series_steps, most_series}
use Rattle.store.specs.Layout.{reading_in, letters_in}
use Rattle.store.specs.Good.{Good}

-- one row for each series of each right end of a plain record, 13 for each letter at most; none for any other store
pub record Visited (b : Word) (r : ℕ) : Type 0 where
  pub visited : Good b → reading_in b ≡ 0 → (r ≡ series_steps plain (letters_in b)) × (r ≤ length (letters_in b) * most_series)
  pub damaged : (Good b → ⊥) → r ≡ 0
  pub inverted : Good b → reading_in b ≡ 1 → r ≡ 0
