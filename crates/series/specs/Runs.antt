-- What contracts inside the library say of series of palindromes along the links, and of a choice that is kept with a row. Rows are numbers, `link`
-- leads from a row to its link, and `reach` is a row's length plus one.
use Rattle.std.specs.Prelude.{ℕ, ◌+◌, ◌≤◌, ◌≡◌, List, [], ◌∷◌}
use Rattle.palindromes.specs.Factorization.{choice}

-- from row r, whose palindrome begins at p, the links fall by d down to `next`, and ps are the places at which the palindromes on the way begin: 001
-- section 4.1 "the series of a palindrome", or the first part of one
pub data Run (link reach : ℕ → ℕ) (d next : ℕ) : ℕ → ℕ → List ℕ → Type 0 where
  last : {p r : ℕ} {ps : List ℕ} → 2 ≤ r → reach r ≡ reach (link r) + d → next ≡ link r → ps ≡ p ∷ [] → Run link reach d next p r ps
  more : {p r : ℕ} {ps qs : List ℕ} → 2 ≤ r → reach r ≡ reach (link r) + d → Run link reach d next (p + d) (link r) qs → ps ≡ p ∷ qs
      → Run link reach d next p r ps

-- what is kept with a row r for a place p at which its palindrome begins: which of the places of its run has the smallest number, the first where
-- numbers are equal, and the row after the run
pub record Kept (link reach f : ℕ → ℕ) (p r cut next : ℕ) : Type 0 where
  pub difference : ℕ
  pub places : List ℕ
  pub run : Run link reach difference next p r (p ∷ places)
  pub chosen : cut ≡ choice f (p ∷ places)
