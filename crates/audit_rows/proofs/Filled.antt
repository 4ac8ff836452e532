-- When a row that is no root says something of a palindrome: exactly if one of its first four cells is not zero. Assumes nothing.
use Prim.Native.Nat.{ℕ, ◌+◌, ◌≤◌}
use native.Mathlib.Decide.{ℕ_discrete}
use mathlib.Core.Path.{◌≡◌, ap}
use mathlib.Core.Bool.{true, false, not}
use lib.Dec.{eqb, leb}
use borrow.Author.Tests.{le-leb, leb-true, eq-eqb, ne_eqb}
use Rattle.palindromes.specs.Word.{Word}
use Rattle.palindromes.proofs.Tests.{both_true, false-not-true}
use Rattle.store.specs.Layout.{cell}
use Rattle.audit_rows.specs.Rows.{filled}

module _ (b : Word) (r : ℕ) where
  -- it is no root
  pub filled-low : filled b r ≡ true → 2 ≤ r
  unfolding filled
  filled-low t = leb-true 2 r (both_true (leb 2 r) (not (eqb (cell b r 0 + cell b r 1 + cell b r 2 + cell b r 3) 0)) t).0

  module _ (low : 2 ≤ r) where
    pub filled_is : (cell b r 0 + cell b r 1 + cell b r 2 + cell b r 3 ≡ 0 → ⊥) → filled b r ≡ true
    unfolding filled
    filled_is n = rw (le-leb 2 r low) (ap not (ne_eqb (cell b r 0 + cell b r 1 + cell b r 2 + cell b r 3) 0 n))

    pub unfilled-is : cell b r 0 + cell b r 1 + cell b r 2 + cell b r 3 ≡ 0 → filled b r ≡ false
    unfolding filled
    unfilled-is e = rw (le-leb 2 r low) (ap not (eq-eqb (cell b r 0 + cell b r 1 + cell b r 2 + cell b r 3) 0 e))

    pub unfilled-cells : filled b r ≡ false → cell b r 0 + cell b r 1 + cell b r 2 + cell b r 3 ≡ 0
    unfilled-cells t = go (ℕ_discrete (cell b r 0 + cell b r 1 + cell b r 2 + cell b r 3) 0)
      where
        go : Dec (cell b r 0 + cell b r 1 + cell b r 2 + cell b r 3 ≡ 0) → cell b r 0 + cell b r 1 + cell b r 2 + cell b r 3 ≡ 0
        go (yes e) = e
        go (no n) = absurd (false-not-true t (filled_is n))
