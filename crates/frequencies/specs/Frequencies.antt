-- What the contracts of src/lib.rt say of a number for each row.
use Rattle.std.specs.Prelude.{ℕ, ◌≤◌, ◌≡◌, true, length, get_or}
use Rattle.palindromes.specs.Word.{Word}
use Rattle.palindromes.specs.Place.{frequency}
use Rattle.palindromes.specs.Node.{spelt}
use Rattle.store.specs.Layout.{used_in, letters_in}
use Rattle.store.specs.Good.{node_in}

-- at each row in use but the roots stands how often its palindrome stands in the record
pub record RowFrequencies (b counts : Word) : Type 0 where
  pub long : length counts ≡ 1026
  pub each : (r : ℕ) (w : Word) → used_in b r ≡ true → 2 ≤ r → node_in b r ≡ spelt w → get_or counts r 0 ≡ frequency w (letters_in b)
