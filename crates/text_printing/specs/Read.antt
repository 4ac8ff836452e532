-- What is passed on between the functions that print, for contracts inside the library.
use Rattle.std.specs.Prelude.{ℕ, ◌+◌, ◌≤◌, ◌≡◌, true, length, take}
use Rattle.palindromes.specs.Word.{Word, all_letters}
use Rattle.palindromes.specs.Bed.{is_identifier}
use Rattle.text_printing.specs.PrintedFor.{identifier_of}

-- what a text that was read says: an identifier of n bytes stands after the text's first byte, and m letters at the front of the buffer
pub record Read (text : Word) (n : ℕ) (buffer : Word) (m : ℕ) : Type 0 where
  pub identifier : is_identifier (identifier_of n text) ≡ true
  pub within : n + 1 ≤ length text
  pub letters : all_letters (take m buffer) ≡ true
  pub room : m ≤ length buffer
  pub few : m ≤ 1024
