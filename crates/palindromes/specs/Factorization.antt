-- DEFINITIONS. Factorizations of a record into palindromes, and which of them 02 (xiv) asks for. Nothing here is proved.
use Rattle.std.specs.Prelude.{ℕ, zero, suc, ◌+◌, ◌-◌, ◌*◌, ◌≤◌, ◌≡◌, Bool, true, false, cond, ◌&&◌, ◌||◌, ltb, eqb, length, get_or, take}
use mathlib.Core.List.{List, [], ◌∷◌, ◌++◌, map, reverse, flatten}
use Rattle.palindromes.specs.Word.{Word}
use Rattle.palindromes.specs.Palindrome.{is_palindrome}
use Rattle.palindromes.specs.Record.{suffix_palindromes}
use Rattle.palindromes.specs.Interval.{two_bytes}

-- ---- what is asked

-- each factor is a palindrome
unfoldable pub all_palindromes : (ℕ → ℕ) → List Word → Bool
all_palindromes σ [] = true
all_palindromes σ (p ∷ ps) = is_palindrome σ p && all_palindromes σ ps

-- 02 (xiv) "cuts a record into mirror repeats": palindromes, from the left, that joined are the record
pub record Factorization (σ : ℕ → ℕ) (s : Word) (ps : List Word) : Type 0 where
  pub whole : flatten ps ≡ s
  pub each : all_palindromes σ ps ≡ true

-- the ends of the factors, from the left, if the first begins at place k: 02 (xiv) "their ends, left to right"
unfoldable pub ends_from : ℕ → List Word → List ℕ
ends_from k [] = []
ends_from k (p ∷ ps) = (k + length p) ∷ ends_from (k + length p) ps

unfoldable pub ends_of : List Word → List ℕ
ends_of ps = ends_from zero ps

-- the lengths of the factors, the last one's first
unfoldable pub lengths_from_last : List Word → List ℕ
lengths_from_last ps = reverse (map length ps)

-- the order of the dictionary: the first number that differs is smaller in the first list, or none differs
unfoldable pub not_above : List ℕ → List ℕ → Bool
not_above [] ys = true
not_above (x ∷ xs) [] = false
not_above (x ∷ xs) (y ∷ ys) = ltb x y || (eqb x y && not_above xs ys)

-- 02 (xiv) "no cutting has fewer pieces; among those with as few, the last piece is the longest, then the one before it, and so on"
pub record MinimalFactorization (σ : ℕ → ℕ) (s : Word) (ps : List Word) : Type 0 where
  pub factors : Factorization σ s ps
  pub fewest : (qs : List Word) → Factorization σ s qs → length ps ≤ length qs
  pub last-longest :
      (qs : List Word) → Factorization σ s qs → length qs ≡ length ps → not_above (lengths_from_last qs) (lengths_from_last ps) ≡ true

-- ---- how it is computed: the recurrence in the proof of 001 proposition 4.2

-- the places at which the palindromes that end t begin, from the left, so that the longest comes first
unfoldable pub starts : (ℕ → ℕ) → Word → List ℕ
starts σ t = map (λ p. length t - length p) (suffix_palindromes σ t)

-- of two places the one with the smaller number, the first where the numbers are equal
unfoldable pub better : (ℕ → ℕ) → ℕ → ℕ → ℕ
better f a p = cond (ltb (f p) (f a)) p a

-- of a and a list of places the first with the smallest number
unfoldable pub pick : (ℕ → ℕ) → ℕ → List ℕ → ℕ
pick f a [] = a
pick f a (p ∷ ps) = pick f (better f a p) ps

-- the same of a list, 0 where it is empty
unfoldable pub choice : (ℕ → ℕ) → List ℕ → ℕ
choice f [] = zero
choice f (p ∷ ps) = pick f p ps

-- where the last factor of the letters t begins, if `known` has the number of factors for each place before their end
unfoldable pub last_start : (ℕ → ℕ) → List ℕ → Word → ℕ
last_start σ known t = choice (λ p. get_or known p 0) (starts σ t)

-- the number of factors for each place up to the end of the letters, from that for each place up to the end of t
unfoldable pub lengths_from : (ℕ → ℕ) → Word → List ℕ → Word → List ℕ
lengths_from σ t known [] = known
lengths_from σ t known (c ∷ s) =
    lengths_from σ (t ++ (c ∷ [])) (known ++ (suc (get_or known (last_start σ known (t ++ (c ∷ []))) 0) ∷ [])) s

-- for each place of the record the fewest factors of the letters before it: 001 proposition 4.2 "the array ans"
unfoldable pub palindromic_lengths : (ℕ → ℕ) → Word → List ℕ
palindromic_lengths σ s = lengths_from σ [] (zero ∷ []) s

-- the ends of the factors up to place i, where `before` tells for each end where its factor begins. The first number bounds how many there are
unfoldable pub ends_to : (ℕ → ℕ) → ℕ → ℕ → List ℕ
ends_to before zero i = []
ends_to before (suc n) zero = []
ends_to before (suc n) (suc i) = ends_to before n (before (suc i)) ++ (suc i ∷ [])

-- 02 (xiv) "the number of pieces": 001 section 1 "palindromic length"
unfoldable pub palindromic_length : (ℕ → ℕ) → Word → ℕ
palindromic_length σ s = get_or (palindromic_lengths σ s) (length s) 0

-- 02 (xiv) "their ends"
unfoldable pub factor_ends : (ℕ → ℕ) → Word → List ℕ
factor_ends σ s = ends_to (λ i. last_start σ (palindromic_lengths σ s) (take i s)) (length s) (length s)

-- 02 (xiv) "two bytes each, low byte first, left to right"
unfoldable pub end_bytes : List ℕ → Word
end_bytes [] = []
end_bytes (e ∷ es) = two_bytes e ++ end_bytes es

-- what a host reads in such bytes, two by two: `mirror_piece_end` of include/mirror.h
unfoldable pub ends_read : Word → List ℕ
ends_read [] = []
ends_read (a ∷ []) = []
ends_read (a ∷ b ∷ w) = (a + 256 * b) ∷ ends_read w
