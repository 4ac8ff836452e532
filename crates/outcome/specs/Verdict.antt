-- What the test of a call's store and arguments says, for contracts inside the library: 3 where the store is not good, and else the call's refusal number.
use Rattle.std.specs.Prelude.{ℕ, ◌≡◌, Result, Ok, Err}
use Rattle.refusal.specs.declared.Refusal.{Refusal}
use Rattle.refusal.specs.Number.{number_of}
use Rattle.palindromes.specs.Word.{Word}
use Rattle.palindromes.specs.Refusal.{Call, refusal}
use Rattle.store.specs.Good.{rule_of, Good}
use Rattle.outcome.specs.Outcome.{Lent, view_in}

pub data Verdict (call : Call) (b : Word) (l : Lent) (n : ℕ) : Type 0 where
  damaged : (Good b → ⊥) → n ≡ 3 → Verdict call b l n
  judged : Good b → n ≡ refusal (rule_of b) (view_in b l) call → Verdict call b l n

-- the number of what such a test returns: 0 where the call can be carried out
abbrev pub judged_number : Result (Unit {0}) Refusal → ℕ
judged_number (Ok done) = 0
judged_number (Err refusal) = number_of refusal
