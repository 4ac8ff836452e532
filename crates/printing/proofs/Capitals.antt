-- 02 (i): mirrorlist prints for a text, byte for byte, what it prints for the text with its later lines in capitals.
-- Rests on what the two texts say and on their identifier (`fasta`). Assumes nothing.
use mathlib.Core.Path.{◌≡◌, refl, ap}
use Rattle.palindromes.specs.Word.{Word}
use Rattle.palindromes.specs.Palindrome.{plain}
use Rattle.palindromes.specs.Bed.{listing}
use Rattle.palindromes.specs.Fasta.{Fasta, refused, accepted, read_fasta}
use Rattle.fasta.specs.Capitals.{upper_later_lines}
use Rattle.fasta.proofs.Capitals.{same_length, read_upper, identifier-upper}
use Rattle.text_printing.specs.PrintedFor.{printed_for}
use Rattle.printing.specs.Printed.{printed}

-- what a text says is printed under its own identifier
printed-for-upper : (text : Word) → printed_for (read_fasta text) (upper_later_lines text) ≡ printed_for (read_fasta text) text
unfolding printed_for
printed-for-upper text = by-text (read_fasta text) refl
  where
    by-text : (f : Fasta) → read_fasta text ≡ f → printed_for f (upper_later_lines text) ≡ printed_for f text
    by-text (refused k) s = refl
    by-text (accepted n w) s = ap (λ (identifier : Word). listing plain identifier w) (identifier-upper text n w s)

pub printed-upper : (text : Word) → printed (upper_later_lines text) ≡ printed text
unfolding printed
printed-upper text = rw (same_length text, read_upper text, printed-for-upper text)
