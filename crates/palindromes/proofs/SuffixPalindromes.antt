-- The palindromes that end a word, longest first: they are those that end the longest of them (`ending-longest`), and after it come those that end its link (`ending-link`). So the same is known of
-- whether a given palindrome ends a word (`ends-longest`, `ends-link`). There are at most as many as letters.
-- Rests on `Stretches` and on the tests. The partner rule may be any.
use Prim.Native.Nat.{ℕ, ◌≤◌}
use native.Mathlib.Omega.{arith}
use mathlib.Core.Path.{◌≡◌, refl, sym, ap, ◌∙◌}
use mathlib.Core.Bool.{Bool, true, false, cond, ◌&&◌, ◌||◌, and-true}
use mathlib.Core.List.{List, [], ◌∷◌, cons-ne-nil}
use lib.ListN.{length}
use Rattle.palindromes.specs.Word.{Word, same_word, member, keep}
use Rattle.palindromes.specs.Palindrome.{Symmetric, is_symmetric, Palindrome, is_palindrome}
use Rattle.palindromes.specs.Record.{suffixes, suffix_palindromes, longest_suffix}
use Rattle.palindromes.proofs.Tests.{false-not-true, not-true-false, symmetric-is, palindrome-true, palindrome-is}
use Rattle.palindromes.proofs.Lists.{member-cons, member-keep, keep-pass, keep-skip, length-keep-not}

-- a word has as many suffixes as letters
suffixes-length : (s : Word) → length (suffixes s) ≡ length s
unfolding suffixes
suffixes-length [] = refl
suffixes-length (x ∷ s) = omega (arith, suffixes-length s)

module _ (σ : ℕ → ℕ) where
  -- none ends the empty word
  pub ending-none : suffix_palindromes σ [] ≡ []
  unfolding suffixes keep
  ending-none = refl

  ending-pass : (x : ℕ) (s : Word) → Symmetric σ (x ∷ s) → suffix_palindromes σ (x ∷ s) ≡ (x ∷ s) ∷ suffix_palindromes σ s
  unfolding suffixes
  ending-pass x s h = keep-pass (is_palindrome σ) (x ∷ s) (suffixes s) (palindrome-is σ (x ∷ s) (record { non-empty = cons-ne-nil x s; symmetric = h }))

  ending_skip : (x : ℕ) (s : Word) → is_symmetric σ (x ∷ s) ≡ false → suffix_palindromes σ (x ∷ s) ≡ suffix_palindromes σ s
  unfolding suffixes
  ending_skip x s h =
      keep-skip (is_palindrome σ) (x ∷ s) (suffixes s)
      (not-true-false (is_palindrome σ (x ∷ s)) (λ t. false-not-true h (symmetric-is σ (x ∷ s) (palindrome-true σ (x ∷ s) t).symmetric)))

  -- those that end a word are those that end the longest of them
  pub ending-longest : (s : Word) → suffix_palindromes σ s ≡ suffix_palindromes σ (longest_suffix σ s)
  unfolding longest_suffix
  ending-longest [] = refl
  ending-longest (x ∷ s) = go (is_symmetric σ (x ∷ s)) refl (ending-longest s)
    where
      go : (t : Bool) → is_symmetric σ (x ∷ s) ≡ t → suffix_palindromes σ s ≡ suffix_palindromes σ (longest_suffix σ s) → suffix_palindromes σ (x ∷ s) ≡ suffix_palindromes σ (cond t (x ∷ s) (longest_suffix σ s))
      go true e ih = refl
      go false e ih = ending_skip x s e ∙ ih

  -- and after a palindrome come those that end its link
  pub ending-link : (x : ℕ) (s : Word) → Symmetric σ (x ∷ s) → suffix_palindromes σ (x ∷ s) ≡ (x ∷ s) ∷ suffix_palindromes σ (longest_suffix σ s)
  ending-link x s h = ending-pass x s h ∙ ap {B = List Word} (λ l. (x ∷ s) ∷ l) (ending-longest s)

  -- they are at most as many as the letters
  pub ending-few : (s : Word) → length (suffix_palindromes σ s) ≤ length s
  ending-few s = omega (arith, length-keep-not (is_palindrome σ) (suffixes s), suffixes-length s)

  -- ---- one of them

  module _ (w : Word) (p : Palindrome σ w) where
    -- a palindrome ends a word if it is one of the palindromes that do
    among : (s : Word) → member w (suffixes s) ≡ member w (suffix_palindromes σ s)
    among s = sym (member-keep w (is_palindrome σ) (suffixes s) ∙ ap (λ (t : Bool). member w (suffixes s) && t) (palindrome-is σ w p) ∙ and-true (member w (suffixes s)))

    pub ends-longest : (s : Word) → member w (suffixes s) ≡ member w (suffixes (longest_suffix σ s))
    ends-longest s = among s ∙ ap (member w) (ending-longest s) ∙ sym (among (longest_suffix σ s))

    pub ends-link : (x : ℕ) (s : Word) → Symmetric σ (x ∷ s) → member w (suffixes (x ∷ s)) ≡ (same_word w (x ∷ s) || member w (suffixes (longest_suffix σ s)))
    ends-link x s h =
        among (x ∷ s) ∙ ap (member w) (ending-link x s h) ∙ member-cons w (x ∷ s) (suffix_palindromes σ (longest_suffix σ s))
        ∙ ap (λ (t : Bool). same_word w (x ∷ s) || t) (sym (among (longest_suffix σ s)))
