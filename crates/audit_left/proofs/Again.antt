-- When a palindrome stands again, in p·d but the first letter: exactly if it did in p but the first, or is the longest that ends p·d, which here is not all of p·d. For no other palindrome comes to these
-- letters with d (`at-most-one-new` of palindromes). Nothing here knows of rows.
use Prim.Native.Nat.{ℕ, ◌≤◌}
use mathlib.Core.Path.{◌≡◌, sym, ◌∙◌, subst}
use mathlib.Core.Logic.{◌⊎◌, inl, inr, ⊎_elim}
use mathlib.Core.List.{[], ◌∷◌, ◌++◌}
use lib.ListN.{length}
use Rattle.palindromes.specs.Word.{Word}
use Rattle.palindromes.specs.Palindrome.{SelfInverse, Symmetric}
use Rattle.palindromes.specs.Place.{Stands}
use Rattle.palindromes.specs.Record.{longest_suffix}
use Rattle.palindromes.specs.End.{at_left, removed, without_first}
use Rattle.palindromes.proofs.Words.{suffix-stands, stands-snoc}
use Rattle.palindromes.proofs.Longest.{longest-suffix}
use Rattle.palindromes.proofs.Change.{at-most-one-new}
use Rattle.audit_left.proofs.Prefixes.{rest, ends-rest}

module _ (σ : ℕ → ℕ) (inv : SelfInverse σ) {w : Word} where
  pub again-there : (p : Word) (d : ℕ) → length (longest_suffix σ (p ++ (d ∷ []))) ≤ length p → Symmetric σ w → Stands w (rest p d)
      → (longest_suffix σ (p ++ (d ∷ [])) ≡ w) ⊎ Stands w (removed at_left p)
  unfolding removed without_first
  again-there [] d less h s = inr s
  again-there (x ∷ u) d less h s = ⊎_elim (λ i. inl (ends-rest σ (x ∷ u) d inv less ∙ sym i)) inr (at-most-one-new σ u w d h s)

  pub again-back : (p : Word) (d : ℕ) → length (longest_suffix σ (p ++ (d ∷ []))) ≤ length p → (longest_suffix σ (p ++ (d ∷ [])) ≡ w) ⊎ Stands w (removed at_left p) → Stands w (rest p d)
  unfolding removed without_first
  again-back p d less (inl e) = subst (λ (v : Word). Stands v (rest p d)) (sym (ends-rest σ p d inv less) ∙ e) (suffix-stands (longest-suffix σ (rest p d)).suffix)
  again-back [] d less (inr h) = h
  again-back (x ∷ u) d less (inr h) = stands-snoc d h
