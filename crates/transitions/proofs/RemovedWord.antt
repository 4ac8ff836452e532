-- The word that a removal can take out, before any byte is written. Where the longest palindrome v at the call's end stands in what is left, the palindromes stay. Where it does not,
-- the record had v more, and one more was counted. Last, the longest palindrome at the other end: it goes only if it was the whole record, and then the link of v takes its place.
-- Rests on `same-removed` and `one-more-removed` of the eertree, on `count-removed`, and on `across-added` and `across-whole`.
use Prim.Native.Nat.{ℕ, ◌+◌, ◌<◌}
use native.Mathlib.Omega.{arith}
use mathlib.Core.Path.{◌≡◌, refl, ap, ◌∙◌}
use mathlib.Core.Bool.{Bool, true, false, cond}
use mathlib.Core.List.{[]}
use lib.Dec.{eqb}
use lib.ListN.{length}
use borrow.Author.Tests.{not-true, not-false}
use Rattle.palindromes.specs.Word.{Word, is_letter, all_letters}
use Rattle.palindromes.specs.Palindrome.{SelfInverse, is_symmetric}
use Rattle.palindromes.specs.Place.{stands}
use Rattle.palindromes.specs.Record.{count}
use Rattle.palindromes.specs.End.{End, other, added, removed, letter_at, longest_at}
use Rattle.palindromes.specs.Node.{spelt, link_of}
use Rattle.palindromes.proofs.Tests.{both_true}
use Rattle.palindromes.proofs.Words.{added-removed, added-length}
use Rattle.palindromes.proofs.Places.{stands-true, stands-false}
use Rattle.palindromes.proofs.NewIn.{longest-at, count-removed}
use Rattle.palindromes.proofs.Across.{whole-at, whole-test, across-added, across-whole}
use Rattle.palindromes.proofs.Readings.{rule-inverse}
use Rattle.eertree.specs.Covers.{NodeOf}
use Rattle.eertree.proofs.Covers.{SamePalindromes}
use Rattle.eertree.proofs.Grow.{OneMore, same-removed, one-more-removed}
use Rattle.store.specs.Layout.{size_in, count_in, reading_in, letters_in}
use Rattle.store.specs.Good.{rule_of, Good}
use Rattle.store.proofs.Sizes.{letters-length}
use Rattle.transitions.specs.Removal.{longest_before, takes_out}
use Rattle.transitions.proofs.Letters.{letters-added}

-- the longest at the other end after a removal: the link of the whole record, if that was symmetric, and what it was otherwise
across-removed : (σ : ℕ → ℕ) (inv : SelfInverse σ) (e : End) (s : Word) → (s ≡ [] → ⊥)
    → spelt (longest_at σ (other e) (removed e s)) ≡ cond (eqb (length (longest_at σ e s)) (length s)) (link_of σ (spelt (longest_at σ e s))) (spelt (longest_at σ (other e) s))
across-removed σ inv e s n = go (is_symmetric σ s) refl
  where
    made : added e (letter_at e s) (removed e s) ≡ s
    made = added-removed e s n

    go : (t : Bool) → is_symmetric σ s ≡ t
        → spelt (longest_at σ (other e) (removed e s)) ≡ cond (eqb (length (longest_at σ e s)) (length s)) (link_of σ (spelt (longest_at σ e s))) (spelt (longest_at σ (other e) s))
    go true h = cc (whole-test σ inv e s, whole-at σ inv e s h, made, across-whole σ inv e (letter_at e s) (removed e s) (ap (is_symmetric σ) made ∙ h))
    go false h = cc (whole-test σ inv e s, made, across-added σ inv e (letter_at e s) (removed e s))

module _ (e : End) {b : Word} (g : Good b) (n : 0 < size_in b) where
  -- there is a letter
  not-empty : letters_in b ≡ [] → ⊥
  not-empty h = omega (arith, letters-length g.sized, ap length h)

  -- the letters that are left
  pub length-left : length (removed e (letters_in b)) + 1 ≡ size_in b
  length-left =
      omega (
        arith,
        added-length e (letter_at e (letters_in b)) (removed e (letters_in b)),
        ap length (added-removed e (letters_in b) not-empty),
        letters-length g.sized,
      )

  pub letters-left : all_letters (removed e (letters_in b)) ≡ true
  letters-left =
      (both_true (is_letter (letter_at e (letters_in b))) (all_letters (removed e (letters_in b)))
      (cc (letters-added e (letter_at e (letters_in b)) (removed e (letters_in b)), added-removed e (letters_in b) not-empty, g.letters))
      ).1

  -- the longest at the other end of what is left
  pub other-left :
      spelt (longest_at (rule_of b) (other e) (removed e (letters_in b)))
      ≡ cond (eqb (length (longest_before e b)) (size_in b)) (link_of (rule_of b) (spelt (longest_before e b))) (spelt (longest_at (rule_of b) (other e) (letters_in b)))
  unfolding longest_before
  other-left = rw (← letters-length g.sized) (across-removed (rule_of b) (rule-inverse (reading_in b)) e (letters_in b) not-empty)

module _ (e : End) {b : Word} (g : Good b) where
  -- a palindrome of what is left was one of the record: so is the longest at either end
  pub longest-left : (e' : End) → NodeOf (rule_of b) (removed e (letters_in b)) (spelt (longest_at (rule_of b) e' (removed e (letters_in b))))
  longest-left e' = longest-at (rule_of b) (rule-inverse (reading_in b)) e' (removed e (letters_in b))

  count_left : count (rule_of b) (letters_in b) ≡ count (rule_of b) (removed e (letters_in b)) + cond (stands (longest_before e b) (removed e (letters_in b))) 0 1
  unfolding longest_before
  count_left = count-removed (rule_of b) (rule-inverse (reading_in b)) e (letters_in b)

  -- where the longest palindrome at the call's end stands in what is left, the palindromes and their number stay
  module _ (k : takes_out e b ≡ false) where
    pub same_left : SamePalindromes (rule_of b) (letters_in b) (removed e (letters_in b))
    unfolding takes_out longest_before
    same_left = same-removed (rule_of b) (rule-inverse (reading_in b)) e (letters_in b) (stands-true (longest_before e b) (removed e (letters_in b)) (not-false (stands (longest_before e b) (removed e (letters_in b))) k))

    pub count_same : count (rule_of b) (removed e (letters_in b)) ≡ count_in b
    unfolding takes_out longest_before
    count_same = omega (arith, g.count-is, count_left, ap {B = ℕ} (λ t. cond t 0 1) (not-false (stands (longest_before e b) (removed e (letters_in b))) k))

  -- where it does not, the record had it more
  module _ (k : takes_out e b ≡ true) where
    pub one_less : OneMore (rule_of b) (removed e (letters_in b)) (letters_in b) (longest_before e b)
    unfolding takes_out longest_before
    one_less = one-more-removed (rule_of b) (rule-inverse (reading_in b)) e (letters_in b) (stands-false (longest_before e b) (removed e (letters_in b)) (not-true (stands (longest_before e b) (removed e (letters_in b))) k))

    pub count_less : count (rule_of b) (removed e (letters_in b)) + 1 ≡ count_in b
    unfolding takes_out longest_before
    count_less = omega (arith, g.count-is, count_left, ap {B = ℕ} (λ t. cond t 0 1) (not-true (stands (longest_before e b) (removed e (letters_in b))) k))
