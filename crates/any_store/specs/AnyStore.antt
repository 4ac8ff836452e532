-- DEFINITIONS. What is claimed of every store call on every store, a damaged one among them, and whatever buffers it is lent: demand 1, and 01 "A refusal
-- answers its number, zero in every other field, and changes no byte lent". Nothing here is proved.
use Rattle.std.specs.Prelude.{ℕ, ◌≡◌}
use Rattle.palindromes.specs.Word.{Word}
use Rattle.palindromes.specs.Refusal.{Question, Call, ask}
use Rattle.store.specs.Good.{Good}
use Rattle.outcome.specs.Reply.{refused_with, refusal_in, unpacked}
use Rattle.outcome.specs.Outcome.{Lent}
use Rattle.any_store.specs.Contract.{OnStore, Contract}

-- the call answers a, and leaves the store b' and the buffers l': it is refused, with the number n, zero in every other field and every byte as it was
pub record RefusedWhole (n : ℕ) (b : Word) (l : Lent) (a : ℕ) (b' : Word) (l' : Lent) : Type 0 where
  pub told : unpacked a ≡ refused_with n
  pub store_kept : b' ≡ b
  pub buffers-kept : l' ≡ l

-- the call on the store b with the buffers l
pub record AnyStore (call : Call) (b : Word) (l : Lent) : Type 0 where
  -- there is an answer that keeps the contract
  pub some-answer : (a : ℕ) × (b' : Word) × (l' : Lent) × Contract call b l a b' l'
  -- and one only: the number and every byte follow from what the call was handed
  pub one_answer : (a c : ℕ) (b' c' : Word) (l' m' : Lent) → Contract call b l a b' l' → Contract call b l c c' m' → (a ≡ c) × (b' ≡ c') × (l' ≡ m')
  -- 01 "every other store call, first: 3, store not good, or too short for its capacity"
  pub damaged-three : OnStore call → (Good b → ⊥) → (a : ℕ) (b' : Word) (l' : Lent) → Contract call b l a b' l' → RefusedWhole 3 b l a b' l'
  -- whatever its number
  pub refused-keeps : (a : ℕ) (b' : Word) (l' : Lent) → Contract call b l a b' l' → (refusal_in a ≡ 0 → ⊥) → RefusedWhole (refusal_in a) b l a b' l'
  -- 01 "a question, spelling, finding and listing among them, changes no byte of the store"
  pub question-keeps : (q : Question) → call ≡ ask q → (a : ℕ) (b' : Word) (l' : Lent) → Contract call b l a b' l' → b' ≡ b
