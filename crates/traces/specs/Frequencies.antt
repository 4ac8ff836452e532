-- DEFINITIONS. What is claimed of frequencies after every list of calls: 02 (iii) "after additions and removals at either end each row's frequency is that of the letters then present". m is the reading of
-- the record, s its letters, row the rows of their repeats and b the store. Nothing here is proved.
use Rattle.std.specs.Prelude.{ℕ, ◌≤◌, ◌≡◌, false}
use Rattle.palindromes.specs.Word.{Word}
use Rattle.palindromes.specs.Palindrome.{Palindrome}
use Rattle.palindromes.specs.Reading.{rule_in}
use Rattle.palindromes.specs.Place.{Stands, frequency}
use Rattle.palindromes.specs.Occurrences.{occurrences_by_row, occurrences_by_end}
use Rattle.palindromes.specs.Refusal.{the_frequency, the_occurrences, ask}
use Rattle.outcome.specs.Reply.{accepted, refused_with, refusal_in, flag_in}
use Rattle.outcome.specs.Wide.{by_rows_in, by_ends_in}
use Rattle.outcome.specs.Outcome.{Lent}
use Rattle.outcome.specs.Promise.{Promise}
use Rattle.traces.specs.Claims.{Replies}

-- the fields of an answer to mirror_occurrences
pub record BothSums (m : ℕ) (s : Word) (a : ℕ) : Type 0 where
  pub carried-out : refusal_in a ≡ 0
  pub no_flag : flag_in a ≡ 0
  pub by_rows : by_rows_in a ≡ occurrences_by_row (rule_in m) s
  pub by-ends : by_ends_in a ≡ occurrences_by_end (rule_in m) s
  pub equal : by_rows_in a ≡ by_ends_in a
  pub most : by_ends_in a ≤ 524800

-- each repeat's row answers how often it stands; any other number, 0 and 1 among them, is refused with 7; and both sums are answered
pub record Frequencies (m : ℕ) (s : Word) (row : Word → ℕ) (b : Word) : Type 0 where
  pub each : (w : Word) → Palindrome (rule_in m) w → Stands w s → Replies (the_frequency (row w)) b (accepted false 0 (frequency w s) 0)
  pub no_row : (r : ℕ) → ((w : Word) → Palindrome (rule_in m) w → Stands w s → row w ≡ r → ⊥) → Replies (the_frequency r) b (refused_with 7)
  pub sums : (l : Lent) (a : ℕ) (b' : Word) (l' : Lent) → Promise (ask the_occurrences) b l a b' l' → BothSums m s a
