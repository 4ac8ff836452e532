-- What stands at a place of the text: the definitions of document 01 go through the text byte by byte, and the code by places.
-- Rests on the laws of lists alone. Assumes nothing.
use Prim.Native.Nat.{ℕ, ◌+◌, ◌≤◌, ◌<◌}
use mathlib.Core.Path.{◌≡◌}
use mathlib.Core.Bool.{false}
use mathlib.Core.List.{◌∷◌}
use native.Mathlib.Numerals.{add-one}
use lib.Dec.{eqb}
use lib.ListN.{length, drop, get_or, drop_of_length-le}
use lib.Seq.{drop-cons}
use Rattle.palindromes.specs.Word.{Word}
use Rattle.palindromes.specs.Fasta.{starts_with_lf}

-- the text from a place on is the byte there and the text from the next place on: how every loop goes on by one place
pub at_place : (s : Word) (i : ℕ) → i < length s → drop i s ≡ get_or s i 0 ∷ drop (i + 1) s
at_place s i inside = rw (add-one, drop-cons s i 0)

-- an LF at a place of the text
pub lf-inside : (s : Word) (i : ℕ) → i < length s → starts_with_lf (drop i s) ≡ eqb (get_or s i 0) 10
unfolding starts_with_lf
lf-inside s i inside = rw (at_place s i inside)

-- there is no LF past the end of input
pub lf-outside : (s : Word) (i : ℕ) → length s ≤ i → starts_with_lf (drop i s) ≡ false
unfolding starts_with_lf
lf-outside s i outside = rw (drop_of_length-le s outside)
