-- What is printed: what a text prints by its length, and how many bytes at most.
-- Rests on what an accepted text says (`fasta`) and on how long a list is (`bed`). Assumes nothing.
use Prim.Native.Nat.{◌≤◌, ◌<◌}
use native.Mathlib.Omega.{arith}
use mathlib.Core.Path.{◌≡◌, refl}
use mathlib.Core.Bool.{Bool, true, false, cond}
use lib.Dec.{ltb}
use lib.ListN.{length}
use borrow.Author.Tests.{lt-ltb, le-ltb}
use Rattle.palindromes.specs.Word.{Word}
use Rattle.palindromes.specs.Palindrome.{plain}
use Rattle.palindromes.specs.Fasta.{Fasta, refused, accepted, read_fasta}
use Rattle.fasta.proofs.Accepted.{accepts, refusal-small}
use Rattle.bed.proofs.Listing.{listing-most}
use Rattle.refusal_line.specs.RefusalLine.{refused_line}
use Rattle.refusal_line.proofs.RefusalLine.{refused-line-most}
use Rattle.text_printing.specs.PrintedFor.{identifier_of, printed_for}
use Rattle.printing.specs.Printed.{printed}

-- ---- a text by its length

pub too_long : (text : Word) → 65536 < length text → printed text ≡ refused_line 12
unfolding printed
too_long text h = rw (lt-ltb 65536 (length text) h)

pub short-enough : (text : Word) → length text ≤ 65536 → printed text ≡ printed_for (read_fasta text) text
unfolding printed
short-enough text h = rw (le-ltb 65536 (length text) h)

-- ---- how many bytes are printed

-- at most 45 bytes for each of 1,024 letters
pub printed-most : (text : Word) → length (printed text) ≤ 46080
unfolding printed printed_for
printed-most text = by_length (ltb 65536 (length text))
  where
    by-text : (f : Fasta) → read_fasta text ≡ f → length (printed_for f text) ≤ 46080
    by-text (refused k) s = omega (arith, refused-line-most k (omega (arith, refusal-small text k s)))
    by-text (accepted n w) s =
        let a = accepts text n w s in
        omega (arith, listing-most plain (identifier_of n text) w a.identifier (omega (arith, a.letters.1)), a.letters.1)

    by_length : (x : Bool) → length (cond x (refused_line 12) (printed_for (read_fasta text) text)) ≤ 46080
    by_length true = omega (arith, refused-line-most 12 (omega arith))
    by_length false = by-text (read_fasta text) refl
