-- DEFINITIONS. Partner rules and palindromes. Nothing here is proved.
use Rattle.std.specs.Prelude.{ℕ, ◌≡◌, Bool, ◌&&◌, not, [], map, reverse, eqb}
use Rattle.palindromes.specs.Word.{Word, is_empty, mismatch_from}

-- a partner rule that undoes itself: 02 (vi) "every byte's partner has that byte as its partner"; 001 remark 2.8 "θ² is the identity"
abbrev pub SelfInverse : (ℕ → ℕ) → Type 0
SelfInverse σ = (x : ℕ) → σ (σ x) ≡ x

-- the rule of a plain record, in which every letter is its own partner: 01 "equals its own reversal"
abbrev pub plain : ℕ → ℕ
plain x = x

-- the reversal, each letter replaced by its partner: 01 "its own reversal" for the plain rule; 001 remark 2.8; 004 definition 2
unfoldable pub mirror : (ℕ → ℕ) → Word → Word
mirror σ w = reverse (map σ w)

-- the word equals its own reversal. The empty word does: 000 section 2.1 and 003 section 2 count it as a palindrome, document 01 does not
abbrev pub Symmetric : (ℕ → ℕ) → Word → Type 0
Symmetric σ w = mirror σ w ≡ w

-- the comparison of a word with its reversal, letter by letter from the outside: 02 (x) "the first disagreeing pair, counted from the outside starting at 1, or 0 if there is none". At place k of the
-- reversal stands the partner of the letter that faces place k. `Mismatch` says the same pair by pair
unfoldable pub first_mismatch : (ℕ → ℕ) → Word → ℕ
first_mismatch σ w = mismatch_from 1 w (mirror σ w)

-- 02 (x) "whoever used the former yes or no takes 0 as yes"
unfoldable pub is_symmetric : (ℕ → ℕ) → Word → Bool
is_symmetric σ w = eqb (first_mismatch σ w) 0

-- 01 "mirror repeat": non-empty and equal to its own reversal, single letters among them where the rule is plain; 001 section 1.1 "we do not count ε as a palindrome"
pub record Palindrome (σ : ℕ → ℕ) (w : Word) : Type 0 where
  pub non-empty : w ≡ [] → ⊥
  pub symmetric : Symmetric σ w

unfoldable pub is_palindrome : (ℕ → ℕ) → Word → Bool
is_palindrome σ w = not (is_empty w) && is_symmetric σ w
