-- DEFINITIONS. When a sheet has full marks, said of lines and repeats and not of counts. Nothing here is proved.
use Rattle.std.specs.Prelude.{ℕ, zero, suc, ◌≡◌, Bool, true, cond, ◌&&◌}
use mathlib.Core.List.{List, [], ◌∷◌, Memᴰ}
use Rattle.palindromes.specs.Word.{Word, same_word}
use Rattle.palindromes.specs.Palindrome.{Palindrome}
use Rattle.palindromes.specs.Place.{Stands}
use Rattle.palindromes.specs.Sheet.{Line}
use Rattle.palindromes.specs.Marks.{is_naming, named}

-- the line names this repeat
unfoldable pub names : (ℕ → ℕ) → Word → Word → Word → Line → Bool
names σ identifier s p l = is_naming σ identifier s l && same_word p (named s l)

-- how many lines do
unfoldable pub namers : (ℕ → ℕ) → Word → Word → Word → List Line → ℕ
namers σ identifier s p [] = zero
namers σ identifier s p (l ∷ ls) = cond (names σ identifier s p l) (suc (namers σ identifier s p ls)) (namers σ identifier s p ls)

-- 02 (xi) "each repeat is named by one right line and no other line stands on the sheet". A line that names a repeat is right unless a right line above it
-- names the same; where one line alone names it, that is right
pub record Full (σ : ℕ → ℕ) (identifier s : Word) (ls : List Line) : Type 0 where
  pub one_line : (p : Word) → Palindrome σ p → Stands p s → namers σ identifier s p ls ≡ 1
  pub no_other : (l : Line) → Memᴰ l ls → is_naming σ identifier s l ≡ true
