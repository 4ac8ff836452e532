-- 02 (xii) "either case": a text and the same text in capitals have the same choices, so each is made of codes if the other is, and the two lengths
-- are the same. Rests on `upper-bases`. Assumes nothing.
use Prim.Native.Nat.{ℕ}
use mathlib.Core.Path.{◌≡◌, refl, sym, ap, ap₂, ◌∙◌}
use mathlib.Core.Bool.{Bool, true, false, cond, ◌&&◌, not}
use mathlib.Core.List.{List, [], ◌∷◌, ◌++◌, map, flat_map, map-map, map-append}
use lib.ListN.{length, length-map}
use Rattle.palindromes.specs.Word.{Word, is_empty, keep}
use Rattle.palindromes.specs.Palindrome.{plain, is_palindrome}
use Rattle.palindromes.specs.Fasta.{upper}
use Rattle.palindromes.specs.Record.{greatest, prefixes, suffixes, suffixes_of_each, stretches}
use Rattle.palindromes.proofs.Tests.{false-not-true}
use Rattle.ambiguity.specs.Code.{is_code, all_codes}
use Rattle.ambiguity.specs.Choice.{choices}
use Rattle.ambiguity.specs.Longest.{of_some, of_every, is_mirror_for_some, is_mirror_for_every, longest_passing, longest_for_some, longest_for_every}
use Rattle.ambiguity.proofs.Sets.{upper-bases}

pub upper-choices : (s : Word) → choices (map upper s) ≡ choices s
unfolding choices
upper-choices [] = refl
upper-choices (x ∷ s) = ap₂ (λ (l : List Word) (p : Word). flat_map (λ b. map (λ u. b ∷ u) l) p) (upper-choices s) (upper-bases x)

pub upper-codes : (s : Word) → all_codes (map upper s) ≡ all_codes s
unfolding all_codes is_code
upper-codes [] = refl
upper-codes (x ∷ s) = ap₂ ◌&&◌ (ap (λ (p : Word). not (is_empty p)) (upper-bases x)) (upper-codes s)

-- ---- the stretches of a text whose letters are replaced

module _ (f : ℕ → ℕ) where
  prefixes-map : (s : Word) → prefixes (map f s) ≡ map (map f) (prefixes s)
  unfolding prefixes
  prefixes-map [] = refl
  prefixes-map (x ∷ s) =
      ap (λ (l : List Word). (f x ∷ []) ∷ l)
      (ap (map (λ p. f x ∷ p)) (prefixes-map s) ∙ map-map (λ p. f x ∷ p) (map f) (prefixes s) ∙ sym (map-map (map f) (λ p. x ∷ p) (prefixes s)))

  suffixes-map : (s : Word) → suffixes (map f s) ≡ map (map f) (suffixes s)
  unfolding suffixes
  suffixes-map [] = refl
  suffixes-map (x ∷ s) = ap (λ (l : List Word). (f x ∷ map f s) ∷ l) (suffixes-map s)

  each_map : (l : List Word) → suffixes_of_each (map (map f) l) ≡ map (map f) (suffixes_of_each l)
  unfolding suffixes_of_each
  each_map [] = refl
  each_map (w ∷ l) = ap₂ ◌++◌ (suffixes-map w) (each_map l) ∙ sym (map-append (map f) (suffixes w) (suffixes_of_each l))

  stretches-map : (s : Word) → stretches (map f s) ≡ map (map f) (stretches s)
  unfolding stretches
  stretches-map s = ap suffixes_of_each (prefixes-map s) ∙ each_map (prefixes s)

  -- a test that takes a word and the word with its letters replaced alike
  module _ (t : Word → Bool) (same : (w : Word) → t (map f w) ≡ t w) where
    kept_map : (l : List Word) → map length (keep t (map (map f) l)) ≡ map length (keep t l)
    unfolding keep
    kept_map [] = refl
    kept_map (w ∷ l) = go (t (map f w)) (t w) (same w) (kept_map l)
      where
        go : (a b : Bool) → a ≡ b → map length (keep t (map (map f) l)) ≡ map length (keep t l)
            → map length (cond a (map f w ∷ keep t (map (map f) l)) (keep t (map (map f) l))) ≡ map length (cond b (w ∷ keep t l) (keep t l))
        go true true e ih = ap₂ ◌∷◌ (length-map w f) ih
        go false false e ih = ih
        go true false e ih = absurd (false-not-true refl (sym e))
        go false true e ih = absurd (false-not-true refl e)

    passing-map : (s : Word) → longest_passing t (map f s) ≡ longest_passing t s
    unfolding longest_passing
    passing-map s = ap greatest (ap (λ (l : List Word). map length (keep t l)) (stretches-map s) ∙ kept_map (stretches s))

-- ---- the two lengths

pub upper-some : (s : Word) → longest_for_some (map upper s) ≡ longest_for_some s
unfolding longest_for_some is_mirror_for_some
upper-some = passing-map upper is_mirror_for_some λ w. ap (of_some (is_palindrome plain)) (upper-choices w)

pub upper-every : (s : Word) → longest_for_every (map upper s) ≡ longest_for_every s
unfolding longest_for_every is_mirror_for_every
upper-every = passing-map upper is_mirror_for_every λ w. ap (of_every (is_palindrome plain)) (upper-choices w)
