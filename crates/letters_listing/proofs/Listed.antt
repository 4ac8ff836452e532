-- A plain record that is made of letters: what it lists is what its letters list, and has room in the buffers.
-- Rests on how long a list is (`bed`) and on records made from nothing (`Turned` of transitions). Assumes nothing.
use Prim.Native.Nat.{ℕ, ◌≤◌}
use native.Mathlib.Omega.{arith}
use mathlib.Core.Path.{◌≡◌, ap, ap₂, ◌∙◌}
use mathlib.Core.Bool.{true}
use lib.ListN.{length}
use Rattle.palindromes.specs.Word.{Word, all_letters}
use Rattle.palindromes.specs.Palindrome.{plain}
use Rattle.palindromes.specs.Reading.{as_plain, reading_number, rule_in}
use Rattle.palindromes.specs.Bed.{is_identifier, listing}
use Rattle.palindromes.specs.Refusal.{store_size, scratch_size}
use Rattle.palindromes.proofs.Readings.{rule-of-plain}
use Rattle.palindromes.specs.End.{at_right}
use Rattle.store.specs.Layout.{letters_in}
use Rattle.store.specs.Good.{rule_of}
use Rattle.bed.proofs.Listing.{listing-most}
use Rattle.transitions.specs.Opening.{opened}
use Rattle.transitions.specs.Turning.{after_additions}
use Rattle.transitions.proofs.Turned.{Made, made}

-- a store that is opened for a plain record with room for 1,024 letters, and takes these
pub record_of : (b w : Word) → 49408 ≤ length b → all_letters w ≡ true → length w ≤ 1024 → {b₁ b₂ : Word} → b₁ ≡ opened (reading_number as_plain) 1024 b → b₂ ≡ after_additions at_right w b₁ → Made 0 1024 w b b₂
unfolding reading_number store_size
record_of b w long all few e f = rw (f, e) (made 0 1024 b (omega arith) (omega arith) (omega arith) long w all few)

module _ {b₀ b w : Word} (f : Made 0 1024 w b₀ b) (few : length w ≤ 1024) where
  pub filled-marks : scratch_size (length (letters_in b)) ≤ 128
  unfolding scratch_size
  filled-marks = omega (arith, ap length f.letters, few)

  pub filled-listing : (name : Word) → listing (rule_of b) name (letters_in b) ≡ listing plain name w
  filled-listing name = ap₂ (λ (σ : ℕ → ℕ) (s : Word). listing σ name s) (ap rule_in f.reading ∙ rule-of-plain) f.letters

  pub filled-lines : (name : Word) {m : ℕ} → is_identifier name ≡ true → 46080 ≤ m → length (listing (rule_of b) name (letters_in b)) ≤ m
  filled-lines name h l = omega (arith, ap length (filled-listing name), listing-most plain name w h (omega arith), few)
