-- What the outcome of a call is, whatever its refusal number n: the reply has that number, a refused call comes to a refusal, and a question leaves
-- the store. Rests on `Replies` of outcome.
use Prim.Native.Nat.{ℕ, zero, suc}
use mathlib.Core.Path.{◌≡◌, refl, ap}
use Rattle.palindromes.specs.Word.{Word}
use Rattle.palindromes.specs.Reading.{Reading}
use Rattle.palindromes.specs.End.{letter_at}
use Rattle.palindromes.specs.Node.{spelt}
use Rattle.palindromes.specs.SearchSteps.{reported_steps}
use Rattle.palindromes.specs.Refusal.{Question, Call, opening, add, remove, turn, ask}
use Rattle.store.specs.Layout.{reading_in, letters_in}
use Rattle.transitions.specs.Rows.{row_of}
use Rattle.transitions.specs.Addition.{brings_in, row_after}
use Rattle.transitions.specs.Removal.{longest_before, takes_out}
use Rattle.outcome.specs.Reply.{Reply, accepted, refused_with}
use Rattle.outcome.specs.Outcome.{Lent, changed, accepted_outcome, refused_outcome, unless_refused}
use Rattle.outcome.proofs.Replies.{reply-of-added, reply-of-removed}

-- the reply's number is n
pub number_of : (n : ℕ) (call : Call) (b : Word) (l : Lent) → (unless_refused n call b l).reply.number ≡ n
unfolding unless_refused refused_outcome refused_with accepted_outcome changed accepted
number_of (suc n) call b l = refl
number_of zero (opening way k) b l = refl
number_of zero (add e c) b l =
    ap (λ (r : Reply). r.number) (reply-of-added (brings_in e c b) (row_after e c b) (reported_steps (reading_in b) e c (letters_in b)))
number_of zero (remove e) b l =
    ap (λ (r : Reply). r.number) (reply-of-removed (takes_out e b) (letter_at e (letters_in b)) (row_of b (spelt (longest_before e b))))
number_of zero (turn way) b l = refl
number_of zero (ask q) b l = refl

-- a refused call
pub refused-is : (n : ℕ) (call : Call) (b : Word) (l : Lent) → (n ≡ 0 → ⊥) → unless_refused n call b l ≡ refused_outcome n b l
unfolding unless_refused
refused-is zero call b l h = absurd (h refl)
refused-is (suc n) call b l h = refl

-- a question leaves the store
pub question-store : (n : ℕ) (q : Question) (b : Word) (l : Lent) → (unless_refused n (ask q) b l).store ≡ b
unfolding unless_refused refused_outcome accepted_outcome
question-store zero q b l = refl
question-store (suc n) q b l = refl

-- an opening leaves the buffers that come beside the store
pub opening-lent : (n : ℕ) (way : Reading) (k : ℕ) (b : Word) (l : Lent) → (unless_refused n (opening way k) b l).lent ≡ l
unfolding unless_refused refused_outcome accepted_outcome changed
opening-lent zero way k b l = refl
opening-lent (suc n) way k b l = refl
