-- What the contracts of src/lib.rt say of numbers that are handed down the links: each row's follows from that of its link, which was met before it when the letters are read from left to right.
use Rattle.std.specs.Prelude.{ℕ, ◌+◌, ◌<◌, ◌≡◌, true, cond, length, get_or, take}
use Rattle.palindromes.specs.Word.{Word, member}
use Rattle.palindromes.specs.Place.{Stands}
use Rattle.palindromes.specs.Record.{suffixes, suffix_palindromes}
use Rattle.palindromes.specs.Node.{spelt}
use Rattle.store.specs.Layout.{size_in, used_in, letters_in}
use Rattle.store.specs.Good.{node_in}
use Rattle.walk.specs.Replay.{ending_in, Holds}

-- 1 if the word w ends v, which is not to be empty, and else 0
abbrev pub ending_with : Word → Word → ℕ
ending_with w v = cond (member w (suffixes v)) 1 0

-- how many palindromes end v
abbrev pub chain_length : (ℕ → ℕ) → Word → ℕ
chain_length σ v = length (suffix_palindromes σ v)

-- once the first k letters are read, each row whose palindrome stands in them has that palindrome's number, and so has the empty string's
pub record Handed (b : Word) (f : Word → ℕ) (k : ℕ) (values : Word) : Type 0 where
  pub long : length values ≡ 1026
  pub tells : (r : ℕ) (v : Word) → used_in b r ≡ true → node_in b r ≡ spelt v → Stands v (take k (letters_in b)) → get_or values r 0 ≡ f v

-- the row of the palindrome that ends the letters, once there is one letter more, gets its number, and that is what is answered
abbrev pub Hands : (b : Word) (f : Word → ℕ) (row : ℕ) (old new : Word) (answer : ℕ) → Type 0
Hands b f row old new answer = (k : ℕ) → k < size_in b → Holds b (k + 1) row → Handed b f k old → Handed b f (k + 1) new × (answer ≡ f (ending_in b (k + 1)))
