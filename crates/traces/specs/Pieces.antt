-- DEFINITIONS. What is claimed of the fewest pieces after every list of calls: 02 (xiv). m is the reading in force and s the letters, as they follow
-- from the arguments, and b the store. Nothing here is proved.
use Rattle.std.specs.Prelude.{ℕ, ◌*◌, ◌≤◌, ◌≡◌, List, length}
use Rattle.palindromes.specs.Word.{Word}
use Rattle.palindromes.specs.Palindrome.{plain}
use Rattle.palindromes.specs.Factorization.{MinimalFactorization, ends_of, palindromic_length, factor_ends, end_bytes, ends_read}
use Rattle.series.specs.Series.{series_steps, most_series}
use Rattle.palindromes.specs.Refusal.{the_pieces}
use Rattle.outcome.specs.Reply.{tells}
use Rattle.traces.specs.Writes.{Writes, Refuses}

-- "give the number of pieces and their ends", or "a short buffer with 9"
abbrev pub CutUp : Word → Word → Type 0
CutUp s b = Writes the_pieces (tells (palindromic_length plain s)) (end_bytes (factor_ends plain s)) b

-- "only plain records are cut", "an inverted record is refused with 14"; the number and the ends are those of the one cutting that is asked for; from
-- the bytes they are read back; there are never more pieces than letters, so 2,048 bytes are always enough; and the walks that find them visit at most
-- 13 rows for each letter
pub record Pieces (m : ℕ) (s b : Word) : Type 0 where
  pub cut : m ≡ 0 → CutUp s b
  pub inverted : m ≡ 1 → Refuses the_pieces 14 b
  pub factors : (ps : List Word) × MinimalFactorization plain s ps × (length ps ≡ palindromic_length plain s) × (ends_of ps ≡ factor_ends plain s)
  pub one : (ps : List Word) → MinimalFactorization plain s ps → ps ≡ factors.0
  pub read : ends_read (end_bytes (factor_ends plain s)) ≡ factor_ends plain s
  pub few : palindromic_length plain s ≤ length s
  pub most : length (end_bytes (factor_ends plain s)) ≤ 2048
  pub steps : series_steps plain s ≤ length s * most_series

-- a record turned to inverted, in the store b, and turned back, in the store c: no pieces, and its pieces again
pub record TurnedBack (s b c : Word) : Type 0 where
  pub turned : Refuses the_pieces 14 b
  pub back : CutUp s c
