-- DEFINITIONS. Where a stretch of a record stands, by the places of its two ends: 003 section 5.1 "intervals"; 02 (viii) "each start and end".
-- Nothing here is proved.
use Rattle.std.specs.Prelude.{ℕ, zero, suc, ◌+◌, ◌*◌, ◌-◌, ◌/◌, ◌%◌, List, [], ◌∷◌, ◌++◌, map, length, take, drop}
use Rattle.palindromes.specs.Word.{Word}

-- the place of the first letter, and 02 (viii) "the end one past the last letter"
pub record Interval : Type 0 where
  pub start : ℕ
  pub end : ℕ

abbrev pub interval : ℕ → ℕ → Interval
interval start end = record { start = start; end = end }

-- the stretch that stands there; 003 section 2 "S[i..j]"
unfoldable pub word_at : Word → Interval → Word
word_at s i = take (i.end - i.start) (drop i.start s)

-- n numbers, from k on
unfoldable pub numbers_from : ℕ → ℕ → List ℕ
numbers_from k zero = []
numbers_from k (suc n) = k ∷ numbers_from (suc k) n

-- where the non-empty stretches of n letters stand, if the first letter has the place k: 02 (viii) "ordered by start and then by end"
unfoldable pub intervals_from : ℕ → ℕ → List Interval
intervals_from k zero = []
intervals_from k (suc n) = map (λ e. interval k e) (numbers_from (suc k) (suc n)) ++ intervals_from (suc k) n

-- those of a record
unfoldable pub intervals : Word → List Interval
intervals s = intervals_from zero (length s)

-- 02 (viii) "two bytes a number, low byte first"
unfoldable pub two_bytes : ℕ → Word
two_bytes n = n % 256 ∷ n / 256 ∷ []

-- each start and end of a list
unfoldable pub interval_bytes : List Interval → Word
interval_bytes [] = []
interval_bytes (i ∷ is) = two_bytes i.start ++ two_bytes i.end ++ interval_bytes is

-- what a host reads in such bytes, four by four: `mirror_start` and `mirror_end` of include/mirror.h
unfoldable pub intervals_read : Word → List Interval
intervals_read [] = []
intervals_read (a ∷ []) = []
intervals_read (a ∷ b ∷ []) = []
intervals_read (a ∷ b ∷ c ∷ []) = []
intervals_read (a ∷ b ∷ c ∷ d ∷ w) = interval (a + 256 * b) (c + 256 * d) ∷ intervals_read w
