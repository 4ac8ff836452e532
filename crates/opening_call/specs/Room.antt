-- What the contract of `judge_open` says: that a record can be opened, or why it cannot. Neither hangs on the reading.
use Rattle.std.specs.Prelude.{ℕ, ◌≡◌, ◌≤◌, length}
use Rattle.refusal.specs.declared.Refusal.{Refusal}
use Rattle.refusal.specs.Number.{number_of}
use Rattle.palindromes.specs.Word.{Word}
use Rattle.palindromes.specs.Reading.{Reading}
use Rattle.palindromes.specs.Refusal.{store_size, opening, refusal}
use Rattle.store.specs.Good.{rule_of}
use Rattle.outcome.specs.Outcome.{view_in}
use Rattle.outcome.specs.Promise.{nothing}

-- the size k is the capacity asked for, and the store has room for a record of it
pub record Room (capacity : ℕ) (b : Word) (k : ℕ) : Type 0 where
  pub same : k ≡ capacity
  pub least : 1 ≤ k
  pub most : k ≤ 1024
  pub fits : store_size k ≤ length b

-- an opening is refused with the number of f, in either reading
abbrev pub Refuses : (capacity : ℕ) → Word → Refusal → Type 0
Refuses k b f = (way : Reading) → refusal (rule_of b) (view_in b nothing) (opening way k) ≡ number_of f
