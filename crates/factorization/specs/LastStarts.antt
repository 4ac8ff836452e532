-- What the contracts of src/lib.rt say of the places at which last factors begin.
use Rattle.std.specs.Prelude.{ℕ, ◌+◌, ◌≤◌, ◌<◌, ◌≡◌, length, get_or}
use Rattle.palindromes.specs.Word.{Word}
use Rattle.last_factor.specs.Kept.{start_in}

-- for each of the first k right ends the place at which its last factor begins
pub record LastStarts (b : Word) (k : ℕ) (lasts : Word) : Type 0 where
  pub long : k ≤ length lasts
  pub each : (q : ℕ) → q < k → get_or lasts q 0 ≡ start_in b (q + 1)
