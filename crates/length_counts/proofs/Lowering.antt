-- The largest length of a palindrome once w has gone, told from what was carried before it went. It stays where some are longer than w, or as long. Else it is what is left below the length of w:
-- nothing below a single letter; and otherwise one letter less or two, by whether there are palindromes of one letter less.
-- Rests on `Lengths` of palindromes and of the eertree: on `two-more-at-most`, by which no step is longer than two.
use Prim.Native.Nat.{ℕ, ◌+◌, ◌-◌, ◌≤◌, ◌<◌}
use native.Mathlib.Omega.{arith}
use mathlib.Core.Path.{◌≡◌, refl, ap}
use mathlib.Core.Bool.{cond}
use mathlib.Core.Logic.{◌≢◌}
use lib.ListN.{length}
use borrow.Author.Tests.{eq-eqb}
use Rattle.palindromes.specs.Word.{Word}
use Rattle.palindromes.specs.Record.{count_of_length, longest_length}
use Rattle.palindromes.proofs.Lengths.{counted-most, longest-counted}
use Rattle.eertree.proofs.Grow.{OneMore}
use Rattle.eertree.proofs.Lengths.{more-letters, more-length-count, other-length-count, more-longest, two-more-at-most}

-- a length that no palindrome has is not the largest
not-longest : (σ : ℕ → ℕ) (s : Word) (j : ℕ) → 0 < j → count_of_length σ j s ≡ 0 → longest_length σ s ≢ j
not-longest σ s j l z e =
    let h : 0 < count_of_length σ j s = rw e at (longest-counted σ s (omega arith)) in
    omega arith

module _ {σ : ℕ → ℕ} {s t w : Word} (o : OneMore σ s t w) where
  -- it is one of its length
  pub one-of-length : count_of_length σ (length w) t ≡ count_of_length σ (length w) s + 1
  one-of-length = omega (arith, more-length-count o (length w), ap {B = ℕ} (λ b. cond b 1 0) (eq-eqb (length w) (length w) refl))

  -- some are longer
  pub longer-stay : length w < longest_length σ t → longest_length σ t ≡ longest_length σ s
  longer-stay h = omega (arith, more-longest o)

  module _ (l : longest_length σ t ≤ length w) where
    -- some are as long
    pub equals-stay : 1 < count_of_length σ (length w) t → longest_length σ t ≡ longest_length σ s
    equals-stay h = omega (arith, more-longest o, counted-most σ (length w) s (omega (arith, one-of-length)))

    -- no other is as long
    module _ (h : count_of_length σ (length w) t ≤ 1) where
      all-shorter : longest_length σ s < length w
      all-shorter = omega (arith, more-longest o, not-longest σ s (length w) (more-letters o) (omega (arith, one-of-length)))

      pub none_stays : length w < 2 → 0 ≡ longest_length σ s
      none_stays k = omega (arith, all-shorter)

      module _ (k : 2 ≤ length w) where
        -- as many are one letter shorter as before
        shorter-stay : count_of_length σ (length w - 1) t ≡ count_of_length σ (length w - 1) s
        shorter-stay = other-length-count o (length w - 1) λ e. omega arith

        pub one-shorter : 0 < count_of_length σ (length w - 1) t → length w - 1 ≡ longest_length σ s
        one-shorter p = omega (arith, all-shorter, counted-most σ (length w - 1) s (omega (arith, shorter-stay)))

        pub two-shorter : count_of_length σ (length w - 1) t ≡ 0 → length w - 2 ≡ longest_length σ s
        two-shorter z = omega (arith, all-shorter, two-more-at-most o, not-longest σ s (length w - 1) (omega arith) (omega (arith, shorter-stay)))
