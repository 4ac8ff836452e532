-- DEFINITIONS. Series of palindromes, and how many steps the walks over them take, by the letters alone: 001 section 4.1. Nothing here is proved.
use Rattle.std.specs.Prelude.{ℕ, zero, suc, ◌+◌, ◌-◌, ◌<◌, ◌≡◌, cond, List, [], ◌∷◌, map, eqb, length}
use Rattle.palindromes.specs.Word.{Word}
use Rattle.palindromes.specs.Palindrome.{Symmetric}
use Rattle.palindromes.specs.Place.{Suffix}
use Rattle.palindromes.specs.Occurrences.{sum}
use Rattle.palindromes.specs.Record.{prefixes, suffix_palindromes, longest_suffix}

-- how much shorter each of a falling list of lengths is than the one before it, and the last than the empty word: 001 section 4.1 "diff"
unfoldable pub differences : List ℕ → List ℕ
differences [] = []
differences (l ∷ []) = l ∷ []
differences (l ∷ m ∷ ls) = (l - m) ∷ differences (m ∷ ls)

-- how many runs of equal numbers a list has
unfoldable pub runs : List ℕ → ℕ
runs [] = zero
runs (d ∷ []) = 1
runs (d ∷ e ∷ ds) = cond (eqb d e) (runs (e ∷ ds)) (suc (runs (e ∷ ds)))

-- how many series the palindromes that end t make, each of neighbours along the links with the same difference: 001 remark 4.8 "the number of series
-- of suffix-palindromes"
unfoldable pub series : (ℕ → ℕ) → Word → ℕ
series σ t = runs (differences (map length (suffix_palindromes σ t)))

-- one step for each series of each right end: 001 remark 4.8 "t_i calls to getMin"
unfoldable pub series_steps : (ℕ → ℕ) → Word → ℕ
series_steps σ s = sum (map (series σ) (prefixes s))

-- a record has at most 1,024 letters, and no right end of it more series than these
abbrev pub most_series : ℕ
most_series = 13

-- the Fibonacci numbers, 0, 1, 1, 2, 3, 5
unfoldable pub fib : ℕ → ℕ
fib zero = zero
fib (suc zero) = 1
fib (suc (suc n)) = fib (suc n) + fib n

-- ---- one palindrome of a series, and the next

-- the longest shorter palindrome that ends the word, the empty word where there is none: 001 section 2 "link"
unfoldable pub linked : (ℕ → ℕ) → Word → Word
linked σ [] = []
linked σ (x ∷ t) = longest_suffix σ t

-- a palindrome and its link are of one series: they have the same difference. Not so where the link is empty
abbrev pub Same : (ℕ → ℕ) → Word → Type 0
Same σ w = length w + length (linked σ (linked σ w)) ≡ length (linked σ w) + length (linked σ w)

-- what comes after the series of w, the first of the next one or the empty word: 001 section 4.1 "seriesLink"
pub data After (σ : ℕ → ℕ) : Word → Word → Type 0 where
  stop : {w n : Word} → (Same σ w → ⊥) → n ≡ linked σ w → After σ w n
  pass : {w n : Word} → Same σ w → After σ (linked σ w) n → After σ w n

-- 001 section 4.1 "leading": a palindrome that ends s, and is not of one series with a longer one there
pub record Leader (σ : ℕ → ℕ) (w s : Word) : Type 0 where
  pub symmetric : Symmetric σ w
  pub some : 0 < length w
  pub suffix : Suffix w s
  pub alone : (v : Word) → Symmetric σ v → 0 < length v → Suffix v s → linked σ v ≡ w → Same σ v → ⊥
