-- What the contract of an addition promises.
use Rattle.std.specs.Prelude.{ℕ, ◌≡◌, true}
use Rattle.palindromes.specs.Word.{Word}
use Rattle.palindromes.specs.End.{End}
use Rattle.walk.specs.Replay.{steps_towards}
use Rattle.transitions.specs.Rows.{free_row, Free}
use Rattle.transitions.specs.Addition.{brings_in, after_addition}
use Rattle.outcome.specs.Answers.{added_of}
use Rattle.outcome.specs.declared.answers.Added.{Added}

-- the letter c is added at an end: the bytes that it leaves, what it answers, with what the search passed, and that the row which a new palindrome takes was free
pub record Adds (e : End) (c : ℕ) (b b' : Word) (a : Added) : Type 0 where
  pub store : b' ≡ after_addition e c b
  pub answer : a ≡ added_of (brings_in e c b) (free_row b) (steps_towards b e c)
  pub free : brings_in e c b ≡ true → Free b (free_row b)
