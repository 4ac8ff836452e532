-- How many palindromes of a record have a length, and the largest of their lengths: no more have one than there are in all; a length that some have is not above the largest; and some have the
-- largest, where there is any. Rests on `Lists`, `Order` and `Answers`.
use Prim.Native.Nat.{ℕ, ◌≤◌, ◌<◌}
use native.Mathlib.Omega.{arith}
use mathlib.Core.Path.{◌≡◌, refl, sym, ◌∙◌}
use mathlib.Core.Bool.{true}
use mathlib.Core.List.{List, [], ◌∷◌}
use mathlib.Core.Logic.{⊎_elim}
use lib.Dec.{eqb}
use lib.ListN.{length}
use borrow.Author.Tests.{eqb-true, eq-eqb}
use Rattle.palindromes.specs.Word.{Word, member, keep}
use Rattle.palindromes.specs.Palindrome.{Palindrome}
use Rattle.palindromes.specs.Place.{Stands}
use Rattle.palindromes.specs.Record.{palindromes, count, count_of_length, longest_length}
use Rattle.palindromes.proofs.Tests.{both_true, both-are}
use Rattle.palindromes.proofs.Lists.{member-first, member-length, member-keep, length-keep-not}
use Rattle.palindromes.proofs.Palindromes.{palindromes-true, palindromes-is, count-empty}
use Rattle.palindromes.proofs.Order.{longest-length-most, longest-length-is}
use Rattle.palindromes.proofs.Answers.{none-length, none_or_some}

-- a list is empty, or has a first word
first_of : (l : List Word) → 0 < length l → (w : Word) × (member w l ≡ true)
first_of [] h = absurd (omega arith)
first_of (w ∷ l) h = (w, member-first w l)

module _ (σ : ℕ → ℕ) where
  -- no more palindromes have one length than there are
  pub length-count-most : (k : ℕ) (s : Word) → count_of_length σ k s ≤ count σ s
  unfolding count_of_length count
  length-count-most k s = omega (arith, length-keep-not (λ p. eqb (length p) k) (palindromes σ s))

  -- the empty record has none
  pub length-count-empty : (k : ℕ) → count_of_length σ k [] ≡ 0
  length-count-empty k = omega (arith, length-count-most k [], count-empty σ)

  -- a palindrome is one of its length
  pub length-counted : (w s : Word) → Palindrome σ w → Stands w s → 0 < count_of_length σ (length w) s
  unfolding count_of_length
  length-counted w s p h =
      member-length w (keep (λ v. eqb (length v) (length w)) (palindromes σ s))
      (member-keep w (λ v. eqb (length v) (length w)) (palindromes σ s) ∙ both-are (member w (palindromes σ s)) (eqb (length w) (length w)) (palindromes-is σ w s p h) (eq-eqb (length w) (length w) refl))

  -- a length that some palindromes have is at most the largest
  pub counted-most : (k : ℕ) (s : Word) → 0 < count_of_length σ k s → k ≤ longest_length σ s
  unfolding count_of_length
  counted-most k s h =
      let f = first_of (keep (λ v. eqb (length v) k) (palindromes σ s)) h in
      let m = both_true (member f.0 (palindromes σ s)) (eqb (length f.0) k) (sym (member-keep f.0 (λ v. eqb (length v) k) (palindromes σ s)) ∙ f.1) in
      let p = palindromes-true σ f.0 s m.0 in
      omega (arith, eqb-true (length f.0) k m.1, longest-length-most σ f.0 s p.0 p.1)

  -- and the largest is the length of some, unless it is 0
  pub longest-counted : (s : Word) → 0 < longest_length σ s → 0 < count_of_length σ (longest_length σ s) s
  longest-counted s h =
      ⊎_elim
      (λ e. absurd (omega (arith, none-length σ s e)))
      (λ n.
      let l = longest-length-is σ s n in
      rw (← l.3) (length-counted l.0 s l.1 l.2))
      (none_or_some σ s)
