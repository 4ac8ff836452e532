-- How long a list is: a line has at most 45 bytes, and a record at most as many palindromes as letters.
-- Rests on the laws of lines and of the palindromes of a record. Assumes nothing.
use Prim.Native.Nat.{ℕ, ◌+◌, ◌*◌, ◌≤◌, ◌<◌}
use native.Mathlib.Omega.{arith}
use mathlib.Core.Path.{◌≡◌}
use mathlib.Core.Bool.{true}
use mathlib.Core.List.{List, [], ◌∷◌}
use lib.ListN.{length, length-append}
use Rattle.palindromes.specs.Word.{Word, member}
use Rattle.palindromes.specs.Place.{Stands, first_place}
use Rattle.palindromes.specs.Record.{palindromes, count}
use Rattle.palindromes.specs.Bed.{is_identifier, bed_lines, listing}
use Rattle.palindromes.proofs.Lists.{member-first, member-later}
use Rattle.palindromes.proofs.Places.{first-end-fits}
use Rattle.palindromes.proofs.Palindromes.{palindromes-true, count-length}
use Rattle.identifier.proofs.Identifiers.{identifier-length}
use Rattle.decimal.proofs.Decimal.{at-most-five}
use Rattle.bed.proofs.Line.{line-size}

-- lines of words that stand in the record
lines-most : (name s : Word) → length name ≤ 32 → length s < 65536 → (ps : List Word) → ((p : Word) → member p ps ≡ true → Stands p s) → length (bed_lines name s ps) ≤ 45 * length ps
unfolding bed_lines
lines-most name s h l [] m = omega arith
lines-most name s h l (p ∷ ps) m =
    let f = first-end-fits p s (m p (member-first p ps)) in
    simp length-append
    (omega (
      arith,
      line-size name (first_place p s) (first_place p s + length p),
      at-most-five (first_place p s) (omega (arith, f)),
      at-most-five (first_place p s + length p) (omega (arith, f)),
      lines-most name s h l ps (λ q n. m q (member-later q p ps n)),
    ))

-- the list of a record
pub listing-most : (σ : ℕ → ℕ) (name s : Word) → is_identifier name ≡ true → length s < 65536 → length (listing σ name s) ≤ 45 * length s
unfolding listing count
listing-most σ name s h l =
    let m = lines-most name s (identifier-length name h) l (palindromes σ s) (λ p k. (palindromes-true σ p s k).1) in
    omega (arith, m, count-length σ s)
