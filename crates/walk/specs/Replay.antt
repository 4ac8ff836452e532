-- The letters of a store as they are read: towards the end that a letter joins, and again from left to right, as the contract of src/replay.rt says.
use Rattle.std.specs.Prelude.{ℕ, ◌+◌, ◌≡◌, Bool, true, not, take}
use Rattle.palindromes.specs.Word.{Word}
use Rattle.palindromes.specs.Place.{stands}
use Rattle.palindromes.specs.Record.{longest_suffix}
use Rattle.palindromes.specs.End.{End, at_left, at_right}
use Rattle.palindromes.specs.Node.{spelt}
use Rattle.palindromes.specs.SearchSteps.{search_steps}
use Rattle.store.specs.Layout.{used_in, letters_in}
use Rattle.store.specs.Good.{rule_of, node_in}
use Rattle.store.specs.Writes.{towards}

-- the letters of the store, read towards an end
abbrev pub letters_towards : Word → End → Word
letters_towards b e = towards (rule_of b) e (letters_in b)

-- a letter as it is read towards an end: as it is at the right, its partner at the left
abbrev pub letter_towards : (ℕ → ℕ) → End → ℕ → ℕ
letter_towards σ at_right c = c
letter_towards σ at_left c = σ c

-- how many candidates the search passes for a letter that is to join an end, all of it as it is read towards that end
abbrev pub steps_towards : Word → End → ℕ → ℕ
steps_towards b e c = search_steps (rule_of b) (letter_towards (rule_of b) e c) (letters_towards b e)

-- the longest palindrome that ends the first k letters of the store
abbrev pub ending_in : Word → ℕ → Word
ending_in b k = longest_suffix (rule_of b) (take k (letters_in b))

-- the longest palindrome that ends the first k + 1 letters stood nowhere before
abbrev pub new_at : Word → ℕ → Bool
new_at b k = not (stands (ending_in b (k + 1)) (take k (letters_in b)))

-- row r of the store is used, and holds the longest palindrome that ends the first k letters
pub record Holds (b : Word) (k r : ℕ) : Type 0 where
  pub used : used_in b r ≡ true
  pub holds : node_in b r ≡ spelt (ending_in b k)
