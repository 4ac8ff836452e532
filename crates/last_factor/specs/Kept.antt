-- What the contracts of src/lib.rt say of the numbers of factors, of the choices kept with rows, and of the place at which a last factor begins.
use Rattle.std.specs.Prelude.{ℕ, ◌+◌, ◌*◌, ◌/◌, ◌%◌, ◌≤◌, ◌<◌, ◌≡◌, true, length, get_or, take}
use Rattle.palindromes.specs.Word.{Word}
use Rattle.palindromes.specs.Factorization.{last_start, palindromic_lengths}
use Rattle.palindromes.specs.Node.{spelling_of}
use Rattle.series.specs.Runs.{Kept}
use Rattle.series.specs.Series.{series}
use Rattle.series.specs.Memory.{next_row, Fresh, Walked}
use Rattle.store.specs.Layout.{cell, link_in, used_in, letters_in}
use Rattle.store.specs.Good.{rule_of, node_in}

-- the length of a row's palindrome plus one, as the store has it
abbrev pub reach_in : Word → ℕ → ℕ
reach_in b r = cell b r 0

-- the fewest factors of the letters before a place
abbrev pub factors_in : Word → ℕ → ℕ
factors_in b p = get_or (palindromic_lengths (rule_of b) (letters_in b)) p 0

-- where the last factor of the first i letters begins
abbrev pub start_in : Word → ℕ → ℕ
start_in b i = last_start (rule_of b) (palindromic_lengths (rule_of b) (letters_in b)) (take i (letters_in b))

-- the choice that is kept with row r for the place p at which its palindrome begins
abbrev pub KeptIn : Word → (p r cut next : ℕ) → Type 0
KeptIn b = Kept (link_in b) (reach_in b) (factors_in b)

-- the numbers of factors for the places before i
pub record Known (b : Word) (i : ℕ) (factors : Word) : Type 0 where
  pub long : length factors ≡ 1025
  pub each : (q : ℕ) → q < i → get_or factors q 0 ≡ factors_in b q

-- what is kept with a row, in one number: the place at which its series begins plus one, the row after it and the chosen place. 0 keeps nothing
abbrev pub memo : (begin next place : ℕ) → ℕ
memo begin next place = begin + 2048 * next + 4194304 * place

abbrev pub begin_of : ℕ → ℕ
begin_of v = v % 2048

abbrev pub next_of : ℕ → ℕ
next_of v = v / 2048 % 2048

abbrev pub place_of : ℕ → ℕ
place_of v = v / 4194304

-- whatever is kept is true
pub record Memos (b memos : Word) : Type 0 where
  pub long : length memos ≡ 1026
  pub each : (r p : ℕ) → r < 1026 → let v = get_or memos r 0 in begin_of v ≡ p + 1 → (used_in b r ≡ true) × KeptIn b p r (place_of v) (next_of v)

-- what a row spells
abbrev pub word_in : Word → ℕ → Word
word_in b r = spelling_of (node_in b r)

-- the row to which the walk at the end i goes on from a row
abbrev pub next_in : (b memos : Word) → ℕ → ℕ → ℕ
next_in b memos = next_row (link_in b) (reach_in b) (λ r. begin_of (get_or memos r 0)) (λ r. next_of (get_or memos r 0))

-- before the walk at the end i what is kept with a row is of the last end at which it led, and in that walk, at a row, what is kept with the longer
-- ones that lead is of the end i: so nothing is missing that is asked for
abbrev pub FreshIn : (b memos : Word) → ℕ → Type 0
FreshIn b memos = Fresh (rule_of b) (letters_in b) (word_in b) (used_in b) (reach_in b) (λ r. begin_of (get_or memos r 0)) (λ r. next_of (get_or memos r 0))

abbrev pub WalkedIn : (b memos : Word) → ℕ → ℕ → Type 0
WalkedIn b memos = Walked (rule_of b) (letters_in b) (word_in b) (used_in b) (reach_in b) (λ r. begin_of (get_or memos r 0)) (λ r. next_of (get_or memos r 0))

-- how many series the palindromes that end the first i letters make
abbrev pub series_at : Word → ℕ → ℕ
series_at b i = series (rule_of b) (take i (letters_in b))

-- a row whose palindrome may end at i
pub record EndsAt (b : Word) (i row : ℕ) : Type 0 where
  pub used : used_in b row ≡ true
  pub high : 2 ≤ row
  pub reaches : reach_in b row ≤ i + 1
  pub small : i ≤ 1024
