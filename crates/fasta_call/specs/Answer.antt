-- DEFINITIONS. The promise of the call that reads a FASTA text. Nothing here is proved.
use Rattle.std.specs.Prelude.{ℕ, ◌≡◌, Result, Ok, Err, false, length}
use Rattle.palindromes.specs.Word.{Word}
use Rattle.palindromes.specs.Fasta.{read_fasta}
use Rattle.fasta.specs.Reader.{reading_of, written_to}
use Rattle.fasta.specs.declared.Lengths.{Lengths}
use Rattle.outcome.specs.Reply.{Reply, packed, accepted, refused_with}

-- 01 "The reader answers the identifier's length and the number of letters", with the number 0; a text that is refused answers its number alone
abbrev pub reading_reply : Result Lengths ℕ → Reply
reading_reply (Ok read) = accepted false 0 read.identifier read.letters
reading_reply (Err number) = refused_with number

-- the call is lent no store: the number r packs the answer to the text, and the buffer that held `out` holds `out'`
pub record FastaPromise (text out : Word) (r : ℕ) (out' : Word) : Type 0 where
  pub reply : r ≡ packed (reading_reply (reading_of (read_fasta text) (length out)))
  pub letters : out' ≡ written_to (read_fasta text) out
