-- A text of the four letters has itself as its only choice, so both lengths are that of its longest mirror repeat, as a plain record answers it.
-- Assumes nothing.
use Prim.Native.Nat.{ℕ, ◌≤◌}
use native.Mathlib.Omega.{arith}
use native.Mathlib.Nat.{le_antisymm}
use mathlib.Core.Path.{◌≡◌, refl, sym, ap, ◌∙◌, subst}
use mathlib.Core.Bool.{true}
use mathlib.Core.List.Memᴰ
use mathlib.Core.List.{List, [], ◌∷◌, ◌++◌, map, flat_map}
use lib.ListN.{length}
use Rattle.palindromes.specs.Word.{Word, is_empty, is_letter, all_letters}
use Rattle.palindromes.specs.Palindrome.{plain, Palindrome}
use Rattle.palindromes.specs.Place.{Stands}
use Rattle.palindromes.specs.Record.{greatest, longest_length}
use Rattle.palindromes.proofs.Tests.{both_true, both-are}
use Rattle.palindromes.proofs.Letters.{letter-cases, letters-append}
use Rattle.palindromes.proofs.Order.{longest-length-bound}
use Rattle.ambiguity.specs.Code.{codes, bases_in, bases_of, is_code, all_codes}
use Rattle.ambiguity.specs.Choice.{Choice, choices}
use Rattle.ambiguity.specs.Longest.{is_mirror_for_every, longest_for_some, longest_for_every, longest_over_choices}
use Rattle.ambiguity.proofs.Choices.{choices-is}
use Rattle.ambiguity.proofs.Longest.{first-over-choices, every-below-some, passing-most, mirror-every-is}

letter-bases : (x : ℕ) → is_letter x ≡ true → bases_of x ≡ x ∷ []
unfolding bases_of bases_in codes
letter-bases = letter-cases (λ (x : ℕ). bases_of x ≡ x ∷ []) refl refl refl refl

pub letters-codes : (s : Word) → all_letters s ≡ true → all_codes s ≡ true
unfolding all_letters all_codes is_code is_empty
letters-codes [] h = refl
letters-codes (x ∷ s) h =
    let k = both_true (is_letter x) (all_letters s) h in
    both-are (is_code x) (all_codes s) (rw (letter-bases x k.0) refl) (letters-codes s k.1)

-- the only choice
pub letters-choices : (s : Word) → all_letters s ≡ true → choices s ≡ s ∷ []
unfolding all_letters choices flat_map
letters-choices [] h = refl
letters-choices (x ∷ s) h =
    let k = both_true (is_letter x) (all_letters s) h in
    rw (letter-bases x k.0, letters-choices s k.1) refl

module _ (s : Word) (h : all_letters s ≡ true) where
  -- the first length
  pub letters-some : longest_for_some s ≡ longest_length plain s
  unfolding longest_over_choices greatest
  letters-some =
      first-over-choices s (letters-codes s h) ∙ ap (λ (l : List Word). greatest (map (longest_length plain) l)) (letters-choices s h) ∙ omega arith

  -- and the second
  pub letters-every : longest_for_every s ≡ longest_length plain s
  unfolding longest_for_every
  letters-every =
      le_antisymm (omega (arith, every-below-some s (letters-codes s h), letters-some)) (longest-length-bound plain (longest_for_every s) s one)
    where
      part : (u : Word) → Stands u s → all_letters u ≡ true
      part u c =
          let whole : all_letters (c.before ++ u ++ c.after) ≡ true = rw c.whole h in
          let outer = both_true (all_letters (c.before ++ u)) (all_letters c.after) (sym (letters-append (c.before ++ u) c.after) ∙ whole) in
          (both_true (all_letters c.before) (all_letters u) (sym (letters-append c.before u) ∙ outer.0)).1

      only : (u v : Word) → all_letters u ≡ true → Choice v u → v ≡ u
      only u v k d = Memᴰ.eq_of_singleton (rw (letters-choices u k) at (choices-is d))

      one : (u : Word) → Palindrome plain u → Stands u s → length u ≤ longest_for_every s
      one u p c =
          passing-most is_mirror_for_every s u c p.non-empty
          (mirror-every-is u λ v d. subst (Palindrome plain) (sym (only u v (part u c) d)) p)
