-- What the contracts of src/lib.rt say of a piece: whether it is a palindrome of the store's record, where the edges lead, and what a search for it answers.
use Rattle.std.specs.Prelude.{ℕ, Bool, true, false, Option, Some, None}
use Rattle.palindromes.specs.Word.{Word, member}
use Rattle.palindromes.specs.Mismatch.{reported_mismatch}
use Rattle.palindromes.specs.Record.{palindromes}
use Rattle.palindromes.specs.Node.{spelt}
use Rattle.store.specs.Layout.{letters_in}
use Rattle.store.specs.Good.{rule_of}
use Rattle.transitions.specs.Rows.{row_of}
use Rattle.outcome.specs.declared.answers.Found.{Found}
use Rattle.outcome.specs.Answers.{found_of}

-- the piece is a palindrome of the record
abbrev pub is_palindrome_in : Word → Word → Bool
is_palindrome_in b piece = member piece (palindromes (rule_of b) (letters_in b))

-- its row at the end of the edges from its centre, or that one of them is missing
abbrev pub reached_of : (stands : Bool) (row : ℕ) → Option ℕ
reached_of true row = Some row
reached_of false row = None

abbrev pub reached_in : Word → Word → Option ℕ
reached_in b piece = reached_of (is_palindrome_in b piece) (row_of b (spelt piece))

-- its row, or that it is absent, and where it and its reversal disagree first
abbrev pub found_in : Word → Word → Found
found_in b piece = found_of (is_palindrome_in b piece) (row_of b (spelt piece)) (reported_mismatch (rule_of b) piece)
