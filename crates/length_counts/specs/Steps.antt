-- What the contracts say of the carried numbers once a palindrome comes or goes.
use Rattle.std.specs.Prelude.{ℕ, ◌+◌, ◌*◌, ◌≤◌, ◌<◌, max, ◌≡◌, true, ℤ, pos, length}
use Rattle.palindromes.specs.Word.{Word}
use Rattle.palindromes.specs.Record.{count_of_length, longest_length}
use Rattle.palindromes.specs.End.{End, removed}
use Rattle.store.specs.Layout.{end_row, longest_length_in, length_count_in, letters_in}
use Rattle.store.specs.Good.{rule_of}
use Rattle.store.specs.Writes.{writes, carried_writes}
use Rattle.transitions.specs.Removal.{longest_before, takes_out}
use Rattle.length_counts.specs.declared.Carried.{Carried}

-- a length whose count lies within the store
pub record LengthIn (b : Word) (z : ℤ) : Type 0 where
  pub letters : ℕ
  pub is : z ≡ pos letters
  pub small : letters < 65535
  pub inside : 24 * (letters + 1) + 24 ≤ length b

-- one palindrome more of this length is counted, and the largest length is not below it
abbrev pub Gained : Word → ℤ → Word → Type 0
Gained b z b' = (k : ℕ) → z ≡ pos k → b' ≡ writes b (carried_writes k (length_count_in b k + 1) (max (longest_length_in b) k))

-- what the record t has of length k, and its largest length
pub record CarriedFor (σ : ℕ → ℕ) (t : Word) (k : ℕ) (r : Carried) : Type 0 where
  pub length-is : r.length ≡ k
  pub count-is : r.count ≡ count_of_length σ k t
  pub longest-is : r.longest ≡ longest_length σ t

-- r is the largest length after a removal that takes out a palindrome of length k
abbrev pub Lowered : Word → (k r : ℕ) → Type 0
Lowered b k r = (e : End) → takes_out e b ≡ true → k ≡ length (longest_before e b) → r ≡ longest_length (rule_of b) (removed e (letters_in b))

-- what is carried after a removal that takes out the palindrome of row q
abbrev pub Without : Word → (q : ℕ) → Carried → Type 0
Without b q r = (e : End) → takes_out e b ≡ true → q ≡ end_row b e → CarriedFor (rule_of b) (removed e (letters_in b)) (length (longest_before e b)) r
