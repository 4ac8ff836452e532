-- What the contracts of src/lib.rt say of the marks: how often each row's palindrome stands in the letters read so far, as far as 2.
use Rattle.std.specs.Prelude.{ℕ, ◌+◌, ◌≤◌, ◌<◌, ◌≡◌, Bool, true, ◌⊎◌, length, get_or, take}
use Rattle.palindromes.specs.Word.{Word}
use Rattle.palindromes.specs.Place.{frequency}
use Rattle.palindromes.specs.Node.{spelt}
use Rattle.store.specs.Layout.{size_in, used_in, letters_in}
use Rattle.store.specs.Good.{node_in}
use Rattle.walk.specs.Replay.{new_at, Holds}

-- the mark m stands for n: it is n, or it is 2 and n is no less
abbrev pub StandsFor : ℕ → ℕ → Type 0
StandsFor m n = ((m ≡ n) × (n < 2)) ⊎ ((m ≡ 2) × (1 < n))

-- once the first k letters are read, each row in use has the mark of how often its palindrome stands in them, and the roots have 2
pub record Marks (b : Word) (k : ℕ) (marks : Word) : Type 0 where
  pub long : length marks ≡ 1026
  pub root : (r : ℕ) → r < 2 → get_or marks r 0 ≡ 2
  pub each : (r : ℕ) (w : Word) → used_in b r ≡ true → 2 ≤ r → node_in b r ≡ spelt w
      → StandsFor (get_or marks r 0) (frequency w (take k (letters_in b)))

-- with one letter more, at whose right end the row is met, the marks follow; the answer is whether its palindrome is new there
abbrev pub Meets : (b : Word) (row : ℕ) (old new : Word) (answer : Bool) → Type 0
Meets b row old new answer =
    (k : ℕ) → k < size_in b → Holds b (k + 1) row → Marks b k old → Marks b (k + 1) new × (answer ≡ new_at b k)
