-- What a change at one end does to the longest palindrome at the other: it is a new one only if that is the whole record, and it goes only if it was the
-- whole record, and then its link takes its place. Rests on `Longest` and the mirror.
use Prim.Native.Nat.{ℕ}
use mathlib.Core.Path.{◌≡◌, refl, sym, ap, ◌∙◌, subst}
use mathlib.Core.Bool.{true, cond}
use mathlib.Core.List.{[], ◌∷◌, ◌++◌}
use native.Mathlib.Omega.{arith}
use lib.Dec.{eqb}
use lib.ListN.{length}
use borrow.Author.Tests.{eq-eqb, eqb-true}
use Rattle.palindromes.specs.Word.{Word}
use Rattle.palindromes.specs.Palindrome.{SelfInverse, mirror, Symmetric, is_symmetric}
use Rattle.palindromes.specs.Record.{longest_suffix}
use Rattle.palindromes.specs.End.{End, at_left, at_right, other, added, longest_at}
use Rattle.palindromes.specs.Node.{spelt, link_of}
use Rattle.palindromes.proofs.Tests.{symmetric-true, symmetric-is}
use Rattle.palindromes.proofs.Lists.{same_test}
use Rattle.palindromes.proofs.Words.{suffix_refl, suffix-full, suffix-length}
use Rattle.palindromes.proofs.Mirror.{mirror-length, mirror-snoc}
use Rattle.palindromes.proofs.Longest.{longest-suffix, longest-prefix, longest-prefix-snoc, longest-suffix-cons, symmetric-of-mirror}

module _ (σ : ℕ → ℕ) where
  -- a symmetric word is its own longest symmetric suffix, and nothing else is as long as it
  whole-suffix : (t : Word) → Symmetric σ t → longest_suffix σ t ≡ t
  whole-suffix t h =
      let m = longest-suffix σ t in
      suffix-full m.suffix (suffix-length (m.most t h suffix_refl))

  full-suffix : (t : Word) → length (longest_suffix σ t) ≡ length t → Symmetric σ t
  full-suffix t e =
      let m = longest-suffix σ t in
      let same : longest_suffix σ t ≡ t = suffix-full m.suffix (omega arith) in
      subst (Symmetric σ) same m.symmetric

module _ (σ : ℕ → ℕ) (inv : SelfInverse σ) where
  -- the longest at either end is the whole record exactly if the record is symmetric
  pub whole-at : (e : End) (t : Word) → is_symmetric σ t ≡ true → longest_at σ e t ≡ t
  unfolding longest_at
  whole-at at_right t h = whole-suffix σ t (symmetric-true σ t h)
  whole-at at_left t h =
      let g : Symmetric σ (mirror σ t) = symmetric-true σ (mirror σ t) (symmetric-of-mirror σ inv t ∙ h) in
      let k : mirror σ t ≡ t = symmetric-true σ t h in
      cc (longest-prefix σ inv t, whole-suffix σ (mirror σ t) g, k)

  pub whole-test : (e : End) (t : Word) → is_symmetric σ t ≡ eqb (length (longest_at σ e t)) (length t)
  unfolding longest_at
  whole-test e t = same_test (is_symmetric σ t) (eqb (length (longest_at σ e t)) (length t)) (λ h. eq-eqb _ _ (ap length (whole-at e t h))) (λ h. back e (eqb-true _ _ h))
    where
      back : (e : End) → length (longest_at σ e t) ≡ length t → is_symmetric σ t ≡ true
      back at_right h = symmetric-is σ t (full-suffix σ t h)
      back at_left h =
          let g : length (longest_suffix σ (mirror σ t)) ≡ length (mirror σ t) = cc (h, longest-prefix σ inv t, mirror-length σ t) in
          sym (symmetric-of-mirror σ inv t) ∙ symmetric-is σ (mirror σ t) (full-suffix σ (mirror σ t) g)

  -- the longest at the other end after an addition
  pub across-added : (e : End) (c : ℕ) (s : Word) → longest_at σ (other e) (added e c s) ≡ cond (is_symmetric σ (added e c s)) (added e c s) (longest_at σ (other e) s)
  unfolding longest_at added
  across-added at_right c s = longest-prefix-snoc σ s c
  across-added at_left c s = longest-suffix-cons σ c s

  -- the longest at the other end before an addition, where the record after it is symmetric: the link of the whole
  pub across-whole : (e : End) (c : ℕ) (s : Word) → is_symmetric σ (added e c s) ≡ true → spelt (longest_at σ (other e) s) ≡ link_of σ (spelt (added e c s))
  unfolding longest_at added link_of
  across-whole at_left c s h = refl
  across-whole at_right c s h =
      let k : σ c ∷ mirror σ s ≡ s ++ (c ∷ []) = sym (mirror-snoc σ s c) ∙ symmetric-true σ (s ++ (c ∷ [])) h in
      ap spelt (longest-prefix σ inv s) ∙ subst (λ (t : Word). spelt (longest_suffix σ (mirror σ s)) ≡ link_of σ (spelt t)) k refl
