-- What the contracts say of a removal: what it finds before it writes, and what is promised of the whole.
use Rattle.std.specs.Prelude.{ℕ, ◌≡◌, cond, eqb, length, Option}
use Rattle.std.specs.Bool.{then_some}
use Rattle.palindromes.specs.Word.{Word}
use Rattle.palindromes.specs.End.{End, other, removed, letter_at, longest_at}
use Rattle.palindromes.specs.Node.{spelt}
use Rattle.store.specs.Layout.{size_in, end_row, link_in, letters_in}
use Rattle.store.specs.Good.{rule_of}
use Rattle.transitions.specs.Rows.{row_of}
use Rattle.transitions.specs.Removal.{longest_before, takes_out, after_removal}
use Rattle.outcome.specs.Answers.{removed_of}
use Rattle.outcome.specs.declared.answers.Removed.{Removed}
use Rattle.removal.specs.declared.Parting.{Parting}

-- the row of the longest palindrome at an end once its letter has gone
abbrev pub last_row : Word → End → ℕ
last_row b e = row_of b (spelt (longest_at (rule_of b) e (removed e (letters_in b))))

-- the row of the end across: the link of the longest palindrome here, if that was the whole record, and else the row that is there
abbrev pub opposite_row : Word → End → ℕ
opposite_row b e = cond (eqb (length (longest_before e b)) (size_in b)) (link_in b (end_row b e)) (end_row b (other e))

-- the row of the longest palindrome at an end, if that goes with the end's letter
abbrev pub gone_row : Word → End → Option ℕ
gone_row b e = then_some (takes_out e b) (end_row b e)

-- the letter that goes, the row that goes with it, and the rows of both ends without the letter
pub record Parts (b : Word) (e : End) (p : Parting) : Type 0 where
  pub letter-is : p.letter ≡ letter_at e (letters_in b)
  pub gone-is : p.gone ≡ gone_row b e
  pub last-is : p.last ≡ last_row b e
  pub opposite-is : p.opposite ≡ opposite_row b e

-- the letter at an end is removed: the bytes that this leaves, and what it answers
pub record Removes (e : End) (b b' : Word) (a : Removed) : Type 0 where
  pub store : b' ≡ after_removal e b
  pub answer : a ≡ removed_of (takes_out e b) (letter_at e (letters_in b)) (end_row b e)
