-- DEFINITIONS. Where the letters of a word and those that face them disagree, pair by pair, and what find tells of it: 02 (x). Nothing here is proved.
use Rattle.std.specs.Prelude.{ℕ, suc, ◌-◌, ◌<◌, min, ◌≡◌, length, get_or}
use Rattle.palindromes.specs.Word.{Word}
use Rattle.palindromes.specs.Palindrome.{first_mismatch}

-- the pair at place i from the outside agrees: "a letter is compared with the partner of the one facing it". The middle letter of an odd word faces itself
abbrev pub Agrees : (ℕ → ℕ) → Word → ℕ → Type 0
Agrees σ w i = get_or w i 0 ≡ σ (get_or w (length w - 1 - i) 0)

-- r is the first of the n outermost pairs that disagrees, counted from 1, or 0 if there is none
pub data Mismatch (σ : ℕ → ℕ) (w : Word) (n r : ℕ) : Type 0 where
  all-agree : ((i : ℕ) → i < n → Agrees σ w i) → r ≡ 0 → Mismatch σ w n r
  first-at : (k : ℕ) → k < n → ((i : ℕ) → i < k → Agrees σ w i) → (Agrees σ w k → ⊥) → r ≡ suc k → Mismatch σ w n r

-- what find hands on: "a number above 65,535 as 65,535"
unfoldable pub reported_mismatch : (ℕ → ℕ) → Word → ℕ
reported_mismatch σ w = min (first_mismatch σ w) 65535
