-- DEFINITIONS. Places of a text that face each other, and what their codes must be. Nothing here is proved.
use Rattle.std.specs.Prelude.{ℕ, suc, ◌+◌, ◌<◌, ◌≡◌, true, cond, length, get_or}
use Rattle.std.specs.Int.Bits.{bit_and}
use Rattle.palindromes.specs.Word.{Word}
use Rattle.ambiguity.specs.Code.{set_of, is_certain}

-- any two places of the word that face each other are so related. The middle place of an odd word faces itself and is free
abbrev pub FacingPairs : (ℕ → ℕ → Type 0) → Word → Type 0
FacingPairs R w = (i j : ℕ) → i < j → suc (i + j) ≡ length w → R (get_or w i 0) (get_or w j 0)

-- two sets have a base in common
abbrev pub Meet : ℕ → ℕ → Type 0
Meet m n = bit_and m n ≡ 0 → ⊥

-- the sets of two codes do
abbrev pub SetsMeet : ℕ → ℕ → Type 0
SetsMeet x y = Meet (set_of x) (set_of y)

-- two codes are certain and stand for the same base
pub record Settled (x y : ℕ) : Type 0 where
  pub first-certain : is_certain x ≡ true
  pub second-certain : is_certain y ≡ true
  pub same_set : set_of x ≡ set_of y

-- the set of a certain code, and the empty set for any other: two of these meet exactly if their codes are settled
unfoldable pub certain_set_of : ℕ → ℕ
certain_set_of x = cond (is_certain x) (set_of x) 0
