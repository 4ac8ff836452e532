-- DEFINITIONS. What reading a line of a sheet answers, for the contracts of src/lib.rt. Nothing here is proved.
use Rattle.std.specs.Prelude.{ℕ, zero, suc, cond, [], ◌∷◌, eqb, Option, Some, None}
use Rattle.std.proofs.Math.Option.{Option as Maybe, none, some}
use Rattle.palindromes.specs.Word.{Word, same_word}
use Rattle.palindromes.specs.Digits.{value}
use Rattle.palindromes.specs.Sheet.{Line, is_number}
use Rattle.bed_reader.specs.declared.Entry.{Entry}

-- the place of the first byte c, and the length where there is none
unfoldable pub place_of : ℕ → Word → ℕ
place_of c [] = zero
place_of c (b ∷ w) = cond (eqb b c) zero (suc (place_of c w))

-- the number that a field says, or that it says none
unfoldable pub number_of : Word → Option ℕ
number_of w = cond (is_number w) (Some (value w)) None

-- a line as it is marked: whether its identifier is the one given, and its two numbers
unfoldable pub entry_of : Word → Line → Entry
entry_of identifier l = record { agrees = same_word l.name identifier; start = l.start; end = l.end }

unfoldable pub parsed_of : Word → Maybe Line → Option Entry
parsed_of identifier none = None
parsed_of identifier (some l) = Some (entry_of identifier l)
