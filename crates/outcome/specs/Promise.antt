-- DEFINITIONS. What a host call promises: the contract of every exported function. Nothing here is proved.
use Rattle.std.specs.Prelude.{ℕ, ◌≡◌, true, []}
use Rattle.palindromes.specs.Word.{Word}
use Rattle.palindromes.specs.Reading.{Reading}
use Rattle.palindromes.specs.End.{End}
use Rattle.palindromes.specs.Refusal.{Question, Call, opening, ask, add, refusal}
use Rattle.store.specs.Good.{rule_of, Good}
use Rattle.transitions.specs.Rows.{free_row, Free}
use Rattle.transitions.specs.Addition.{brings_in}
use Rattle.outcome.specs.Reply.{packed}
use Rattle.outcome.specs.Outcome.{Lent, Outcome, view_in, outcome, Answers}

-- the buffers that are lent to a call that writes text: 01 "scratch" and "buffer", each empty where the call takes none
abbrev pub lending : Word → Word → Lent
lending scratch out = record { scratch = scratch; out = out }

-- no buffer is lent beside the store
abbrev pub nothing : Lent
nothing = lending [] []

-- the number r is the packed reply of an outcome, and the store and the buffers are left as it says
pub record Left (o : Outcome) (r : ℕ) (b : Word) (l : Lent) : Type 0 where
  pub reply : r ≡ packed o.reply
  pub store : b ≡ o.store
  pub lent : l ≡ o.lent

-- the call on the store b with the buffers l answers r, and leaves b' and l': what it comes to is what `Answers` asks, of every store and every buffer
pub record Promise (call : Call) (b : Word) (l : Lent) (r : ℕ) (b' : Word) (l' : Lent) : Type 0 where
  pub came : Outcome
  pub answers : Answers call b l came
  pub left : Left came r b' l'

-- the same for a question: the store stays
abbrev pub Asked : Question → Word → Lent → ℕ → Lent → Type 0
Asked q b l r l' = Promise (ask q) b l r b l'

-- the same for one that is lent an output alone
abbrev pub AskedInto : Question → Word → (out : Word) → ℕ → (out' : Word) → Type 0
AskedInto q b out r out' = Asked q b (lending [] out) r (lending [] out')

-- the same for an opening, in either reading, which asks nothing of the store's bytes
pub record OpeningPromise (way : Reading) (k : ℕ) (b : Word) (r : ℕ) (b' : Word) : Type 0 where
  pub left : Left (outcome (opening way k) b nothing) r b' nothing

-- 01 "the free row that a new repeat takes: one of 2 to capacity + 1 that no other repeat has": where an addition to a good store is carried out and brings in a repeat,
-- the row that it answers is such a one before the call
abbrev pub FreeRow : End → ℕ → Word → Type 0
FreeRow e c b = Good b → refusal (rule_of b) (view_in b nothing) (add e c) ≡ 0 → brings_in e c b ≡ true → Free b (free_row b)
