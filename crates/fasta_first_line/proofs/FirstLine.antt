-- The definitions of the first line, read at a place of the text: what the tests and the loops of the first line need.
-- Rests on `at_place`. Assumes nothing.
use Prim.Native.Nat.{ℕ, suc, ◌+◌, ◌≤◌, ◌<◌}
use mathlib.Core.Path.{◌≡◌, ◌∙◌}
use mathlib.Core.Bool.{true, false, ◌&&◌, ◌||◌}
use mathlib.Core.List.{[], ◌∷◌}
use native.Mathlib.Nat.{not-suc-le-zero}
use native.Mathlib.Numerals.{add-one}
use lib.Dec.{leb, eqb}
use lib.ListN.{length, drop, get_or, drop_of_length-le}
use borrow.Author.Tests.{eq-eqb, ne_eqb}
use Rattle.palindromes.specs.Word.{Word}
use Rattle.palindromes.specs.Bed.{is_identifier_byte}
use Rattle.palindromes.specs.Fasta.{identifier_length, starts_with_lf, ends_identifier, good_first_line, after_first_line}
use Rattle.fasta_first_line.proofs.Places.{at_place}

module _ (s : Word) (i : ℕ) (inside : i < length s) where
  -- the four tests of the byte after an identifier
  pub ends-inside : ends_identifier (drop i s) ≡ (eqb (get_or s i 0) 32 || eqb (get_or s i 0) 9 || eqb (get_or s i 0) 10 || (eqb (get_or s i 0) 13 && starts_with_lf (drop (i + 1) s)))
  unfolding ends_identifier
  ends-inside = rw (at_place s i inside)

  -- any other byte after an identifier spoils the first line
  pub does-not-end : (get_or s i 0 ≡ 32 → ⊥) → (get_or s i 0 ≡ 9 → ⊥) → (get_or s i 0 ≡ 10 → ⊥) → (get_or s i 0 ≡ 13 → ⊥) → ends_identifier (drop i s) ≡ false
  does-not-end space tab lf cr = ends-inside ∙ simp (ne_eqb _ _ space, ne_eqb _ _ tab, ne_eqb _ _ lf, ne_eqb _ _ cr)

  -- an identifier byte makes the identifier one longer
  pub one-longer : is_identifier_byte (get_or s i 0) ≡ true → identifier_length (drop i s) ≡ suc (identifier_length (drop (i + 1) s))
  unfolding identifier_length
  one-longer e = rw (at_place s i inside, e, identifier_length)

  -- any other byte ends it
  pub stops : is_identifier_byte (get_or s i 0) ≡ false → identifier_length (drop i s) ≡ 0
  unfolding identifier_length
  stops e = rw (at_place s i inside, e, identifier_length)

  -- a byte that is no LF belongs to the first line
  pub line-goes-on : (get_or s i 0 ≡ 10 → ⊥) → after_first_line (drop i s) ≡ after_first_line (drop (i + 1) s)
  unfolding after_first_line
  line-goes-on n = rw (at_place s i inside, ne_eqb (get_or s i 0) 10 n, after_first_line)

  -- the later lines begin after its LF
  pub line-ends : get_or s i 0 ≡ 10 → after_first_line (drop i s) ≡ drop (i + 1) s
  unfolding after_first_line
  line-ends e = rw (at_place s i inside, eq-eqb (get_or s i 0) 10 e, after_first_line)

module _ (s : Word) (i : ℕ) (outside : length s ≤ i) where
  -- the end of input ends an identifier
  pub ends-outside : ends_identifier (drop i s) ≡ true
  unfolding ends_identifier
  ends-outside = rw (drop_of_length-le s outside)

  -- past the end of input there is no identifier byte
  pub stops-outside : identifier_length (drop i s) ≡ 0
  unfolding identifier_length
  stops-outside = rw (drop_of_length-le s outside)

  -- nor a later line
  pub no-later-line : after_first_line (drop i s) ≡ drop i s
  unfolding after_first_line
  no-later-line = rw (drop_of_length-le s outside)

-- the tests of the first line in terms of the text's own places
pub first-line-tests : (s : Word) (n : ℕ) → 0 < length s → n ≡ identifier_length (drop 1 s)
    → good_first_line s ≡ (eqb (get_or s 0 0) 62 && leb 1 n && leb n 32 && ends_identifier (drop (n + 1) s))
unfolding good_first_line
first-line-tests [] n some length-is = absurd (not-suc-le-zero some)
first-line-tests (b ∷ t) n some length-is = rw (add-one, length-is)
