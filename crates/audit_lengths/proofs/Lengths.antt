-- The lengths of the palindromes as they are counted: none at first; where the palindromes stay, what was counted stays right; with a palindrome more it is right once that is counted. And a store
-- carries the right numbers exactly if they are those counted of its letters. Rests on `Lengths` of eertree and of palindromes.
use Prim.Native.Nat.{ℕ, ◌+◌, ◌-◌, ◌≤◌, ◌<◌}
use native.Mathlib.Decide.{ℕ_discrete}
use native.Mathlib.Omega.{arith}
use mathlib.Core.Path.{◌≡◌, sym, ap, ◌∙◌}
use mathlib.Core.Bool.{cond}
use mathlib.Core.List.{[]}
use lib.ListN.{length, get_or}
use borrow.Author.Tests.{eq-eqb}
use Rattle.palindromes.specs.Word.{Word}
use Rattle.palindromes.specs.Record.{count_of_length}
use Rattle.palindromes.proofs.Answers.{longest-length-empty}
use Rattle.palindromes.proofs.Palindromes.{count-length}
use Rattle.palindromes.proofs.Lengths.{length-count-empty, length-count-most}
use Rattle.eertree.proofs.Covers.{SamePalindromes}
use Rattle.eertree.proofs.Grow.{OneMore}
use Rattle.eertree.proofs.Lengths.{same-length-count, same-longest, more-length-count, other-length-count, more-longest}
use Rattle.store.specs.Layout.{cell, capacity_in, length_count_in, letters_in}
use Rattle.store.specs.Good.{rule_of, Sized, Good}
use Rattle.audit_lengths.specs.Lengths.{LengthsOf, Counted}

-- the empty word has none
pub lengths-empty : (σ : ℕ → ℕ) {carried : Word} → length carried ≡ 1026 → ((i : ℕ) → get_or carried i 0 ≡ 0) → LengthsOf σ [] carried
lengths-empty σ l z = record { long = l; counts = λ k h m. z (k + 1) ∙ sym (length-count-empty σ k); longest = z 1 ∙ sym (longest-length-empty σ) }

-- where the palindromes stay
pub lengths-same : {σ : ℕ → ℕ} {p t carried : Word} → SamePalindromes σ p t → LengthsOf σ p carried → LengthsOf σ t carried
lengths-same {σ} s h = record { long = h.long; counts = λ k l m. h.counts k l m ∙ sym (same-length-count σ s k); longest = h.longest ∙ sym (same-longest σ s) }

-- with a palindrome more
pub lengths-more : {σ : ℕ → ℕ} {p t w carried carried' : Word} {m : ℕ} → OneMore σ p t w → LengthsOf σ p carried → m ≡ length w + 1 → length carried' ≡ length carried → Counted carried m carried' → LengthsOf σ t carried'
lengths-more {σ} {p} {t} {w} {carried} {carried'} o h e l c =
    record { long = l ∙ h.long; counts = λ k i j. counts k i j (ℕ_discrete (length w) k); longest = omega (arith, c.largest, h.longest, more-longest o) }
  where
    counts : (k : ℕ) → 1 ≤ k → k ≤ 1024 → Dec (length w ≡ k) → get_or carried' (k + 1) 0 ≡ count_of_length σ k t
    counts k i j (yes d) =
        let place = e ∙ ap (λ (n : ℕ). n + 1) d in
        let more = ap {B = ℕ} (λ b. cond b 1 0) (eq-eqb (length w) k d) in
        omega (arith, rw place at c.here, h.counts k i j, more-length-count o k)
    counts k i j (no d) = c.others (k + 1) (λ n. omega arith) (λ n. d (omega arith)) ∙ h.counts k i j ∙ sym (other-length-count o k d)

-- a number of palindromes of a length is small
pub count_small : {σ : ℕ → ℕ} {p carried : Word} (k : ℕ) → LengthsOf σ p carried → 1 ≤ k → k ≤ 1024 → length p ≤ 1024 → get_or carried (k + 1) 0 < 65535
count_small {σ} {p} k h i j l = omega (arith, h.counts k i j, length-count-most σ k p, count-length σ p)

module _ {b carried : Word} (z : Sized b) (h : LengthsOf (rule_of b) (letters_in b) carried) where
  -- a store that carries what was counted
  pub right-counts : ((r : ℕ) → 2 ≤ r → r < capacity_in b + 2 → cell b r 10 ≡ get_or carried r 0) → (k : ℕ) → 1 ≤ k → k ≤ capacity_in b → length_count_in b k ≡ count_of_length (rule_of b) k (letters_in b)
  unfolding length_count_in
  right-counts r k i j = r (k + 1) (omega arith) (omega arith) ∙ h.counts k i (omega (arith, z.at_most))

  -- as a good one does
  pub good-counts : Good b → (r : ℕ) → 2 ≤ r → r < capacity_in b + 2 → cell b r 10 ≡ get_or carried r 0
  unfolding length_count_in
  good-counts g r i j =
      let k : r - 1 + 1 ≡ r = omega arith in
      rw (← k) (g.length-counts (r - 1) (omega arith) (omega arith) ∙ sym (h.counts (r - 1) (omega arith) (omega (arith, z.at_most))))
