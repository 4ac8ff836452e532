-- DEFINITIONS. What the two passes over the later lines answer, in the terms of `kind_of` and `read_lines`. Nothing here is proved.
use Rattle.std.specs.Prelude.{ℕ, ◌+◌, Result, Ok, Err, [], length}
use Rattle.palindromes.specs.Word.{Word}
use Rattle.palindromes.specs.Fasta.{Kind, second_header, line_end, before_lf, letter, other, Body, fault, letters}
use Rattle.fasta_later_lines.specs.declared.ByteKind.{ByteKind}
use Rattle.fasta_later_lines.specs.declared.ByteKind.TheVariants.{SecondHeader, LineEnd, BeforeLf, Letter, Other}

-- the code's kinds of bytes are those of the definition
unfoldable pub kind_named : ByteKind → Kind
kind_named SecondHeader = second_header
kind_named LineEnd = line_end
kind_named BeforeLf = before_lf
kind_named Letter = letter
kind_named Other = other

-- what counting answers if n letters were counted before these lines: how many there are, or the first fault's number
unfoldable pub tally_after : ℕ → Body → Result ℕ ℕ
tally_after n (fault k) = Err k
tally_after n (letters w) = Ok (n + length w)

-- the letters that the lines hold, none where they have a fault
unfoldable pub letters_of : Body → Word
letters_of (fault k) = []
letters_of (letters w) = w
