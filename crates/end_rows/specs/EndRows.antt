-- What is said of the rows at the right ends: of all by the contract of src/lib.rt, and of those that are first met there by the crates above.
use Rattle.std.specs.Prelude.{ℕ, ◌+◌, ◌≤◌, ◌<◌, ◌≡◌, true, false, length, get_or}
use Rattle.palindromes.specs.Word.{Word}
use Rattle.store.specs.Layout.{size_in}
use Rattle.walk.specs.Replay.{new_at, Holds}

-- at place k stands the row of the longest palindrome that ends the first k + 1 letters, and 1 where none does
pub record EndRows (b ends : Word) : Type 0 where
  pub long : size_in b ≤ length ends
  pub each : (k : ℕ) → k < size_in b → Holds b (k + 1) (get_or ends k 0)

-- at each right end stands the row that is first met there, and a root's where none is
pub record FirstRows (b firsts : Word) : Type 0 where
  pub long : size_in b ≤ length firsts
  pub new : (k : ℕ) → k < size_in b → new_at b k ≡ true → Holds b (k + 1) (get_or firsts k 0)
  pub old : (k : ℕ) → k < size_in b → new_at b k ≡ false → get_or firsts k 0 < 2
