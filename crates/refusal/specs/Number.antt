-- DEFINITIONS. The number of each refusal, as in the table of document 01 "Numbers by the place where they are checked". Nothing here is proved.
use Rattle.std.specs.Prelude.{ℕ, Result, Ok, Err}
use Rattle.refusal.specs.declared.Refusal.{Refusal}
use Rattle.refusal.specs.declared.Refusal.TheVariants.{Capacity, ShortStore, Damaged, NoLetter, TooManyLetters, Empty, NoSuchPlace}
use Rattle.refusal.specs.declared.Refusal.TheVariants.{EmptyPiece, ShortBuffer, Identifier, SecondHeader, LongText, NoSheet, Inverted}

abbrev pub number_of : Refusal → ℕ
number_of Capacity = 1
number_of ShortStore = 2
number_of Damaged = 3
number_of NoLetter = 4
number_of TooManyLetters = 5
number_of Empty = 6
number_of NoSuchPlace = 7
number_of EmptyPiece = 8
number_of ShortBuffer = 9
number_of Identifier = 10
number_of SecondHeader = 11
number_of LongText = 12
number_of NoSheet = 13
number_of Inverted = 14

-- what a call answers, with the number of the refusal in place of the refusal
abbrev pub with_number : {A : Type 0} → Result A Refusal → Result A ℕ
with_number (Ok x) = Ok x
with_number (Err refusal) = Err (number_of refusal)
