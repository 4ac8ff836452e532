-- Demand 1 of every call and every store: `any-store`. The test of a store decides whether it is good (`good-decided`); so what a call comes to is one
-- outcome, by one number, and a promise tells it (`Told`). Assumes nothing.
use Prim.Native.Nat.{ℕ}
use native.Mathlib.Omega.{arith}
use mathlib.Core.Path.{◌≡◌, refl, sym, ap, ◌∙◌, subst}
use mathlib.Core.Logic.{◌⊎◌, inl, inr}
use Rattle.palindromes.specs.Word.{Word}
use Rattle.palindromes.specs.Reading.{Reading}
use Rattle.palindromes.specs.Refusal.{Question, Call, opening, add, remove, turn, ask, refusal}
use Rattle.store.specs.Good.{rule_of, Good}
use Rattle.decided.proofs.Good.{good-decided}
use Rattle.outcome.specs.Reply.{Reply, Fits, packed, refused_with, refusal_in, unpacked}
use Rattle.outcome.specs.Outcome.{Lent, Outcome, view_in, refused_outcome, unless_refused, outcome}
use Rattle.outcome.specs.Promise.{nothing, Promise, OpeningPromise, Left}
use Rattle.outcome.proofs.Packing.{unpack-packed}
use Rattle.outcome.proofs.Promises.{kept}
use Rattle.outcome.proofs.Told.{Told, told, opening-told}
use Rattle.any_store.specs.Contract.{OnStore, Contract}
use Rattle.any_store.specs.AnyStore.{RefusedWhole, AnyStore}
use Rattle.any_store.proofs.Numbers.{number_of, refused-is, question-store, opening-lent}

-- ---- the number of a call, and what it comes to

-- that of any call but an opening: 3 first, for a store that is not good
abbrev judged : (call : Call) (b : Word) (l : Lent) → Good b ⊎ (Good b → ⊥) → ℕ
judged call b l (inl g) = refusal (rule_of b) (view_in b l) call
judged call b l (inr n) = 3

-- an opening does not ask whether the store is good
abbrev number : (call : Call) (b : Word) (l : Lent) → Good b ⊎ (Good b → ⊥) → ℕ
number (opening way k) b l d = refusal (rule_of b) (view_in b l) (opening way k)
number (add e c) b l d = judged (add e c) b l d
number (remove e) b l d = judged (remove e) b l d
number (turn way) b l d = judged (turn way) b l d
number (ask q) b l d = judged (ask q) b l d

damaged-number : (call : Call) (b : Word) (l : Lent) (n : Good b → ⊥) → OnStore call → number call b l (inr n) ≡ 3
damaged-number (opening way k) b l n s = absurd s
damaged-number (add e c) b l n s = refl
damaged-number (remove e) b l n s = refl
damaged-number (turn way) b l n s = refl
damaged-number (ask q) b l n s = refl

-- ---- what a promise tells

refusal-fits : Fits (refused_with 3)
unfolding refused_with
refusal-fits = record { number = omega arith; row = omega arith; first = omega arith; second = omega arith }

-- on a store that is not good
damaged-told : (b : Word) (l : Lent) {a : ℕ} {b' : Word} {l' : Lent} → Left (refused_outcome 3 b l) a b' l' → Told (refused_outcome 3 b l) a b' l'
unfolding refused_outcome
damaged-told b l h =
    record { number = h.reply; reply = ap unpacked h.reply ∙ unpack-packed (refused_with 3) refusal-fits; store = h.store; lent = h.lent }

-- on any
promise-told : {call : Call} {b : Word} {l : Lent} {a : ℕ} {b' : Word} {l' : Lent} (d : Good b ⊎ (Good b → ⊥)) → Promise call b l a b' l'
    → Told (unless_refused (judged call b l d) call b l) a b' l'
unfolding outcome unless_refused
promise-told (inl g) p = told g p
promise-told {call} {b} {l} {a} {b'} {l'} (inr n) p = damaged-told b l (subst (λ (o : Outcome). Left o a b' l') (p.answers.damaged n) p.left)

-- and what the contract of any call tells
contract-told : (call : Call) (b : Word) (l : Lent) (a : ℕ) (b' : Word) (l' : Lent) (d : Good b ⊎ (Good b → ⊥)) → Contract call b l a b' l'
    → Told (unless_refused (number call b l d) call b l) a b' l'
unfolding outcome
contract-told (opening way k) b l a b' l' d p = opening-told p.0 p.1
contract-told (add e c) b l a b' l' d p = promise-told d p
contract-told (remove e) b l a b' l' d p = promise-told d p
contract-told (turn way) b l a b' l' d p = promise-told d p
contract-told (ask q) b l a b' l' d p = promise-told d p

-- ---- there is an answer

-- what a call comes to keeps its promise
promised : (call : Call) (b : Word) (l : Lent) (d : Good b ⊎ (Good b → ⊥))
    → let o = unless_refused (judged call b l d) call b l in
    Promise call b l (packed o.reply) o.store o.lent
unfolding outcome unless_refused
promised call b l (inl g) = kept call b l g (record { reply = refl; store = refl; lent = refl })
promised call b l (inr n) =
    record {
      came = refused_outcome 3 b l;
      answers = record { good = λ g. absurd (n g); damaged = λ m. refl };
      left = record { reply = refl; store = refl; lent = refl };
    }

opening-promised : (way : Reading) (k : ℕ) (b : Word)
    → let o = outcome (opening way k) b nothing in
    OpeningPromise way k b (packed o.reply) o.store
unfolding outcome
opening-promised way k b =
    record { left = record { reply = refl; store = refl; lent = sym (opening-lent (refusal (rule_of b) (view_in b nothing) (opening way k)) way k b nothing) } }

abbrev SomeAnswer : Call → Word → Lent → Type 0
SomeAnswer call b l = (a : ℕ) × (b' : Word) × (l' : Lent) × Contract call b l a b' l'

some-answer : (call : Call) (b : Word) (l : Lent) → SomeAnswer call b l
some-answer (opening way k) b l = (_, _, l, (opening-promised way k b, refl))
some-answer (add e c) b l = (_, _, _, promised (add e c) b l (good-decided b))
some-answer (remove e) b l = (_, _, _, promised (remove e) b l (good-decided b))
some-answer (turn way) b l = (_, _, _, promised (turn way) b l (good-decided b))
some-answer (ask q) b l = (_, _, _, promised (ask q) b l (good-decided b))

-- ---- what it is

module _ (call : Call) (b : Word) (l : Lent) where
  module _ (a : ℕ) (b' : Word) (l' : Lent) (p : Contract call b l a b' l') (d : Good b ⊎ (Good b → ⊥)) where
    its : Told (unless_refused (number call b l d) call b l) a b' l'
    its = contract-told call b l a b' l' d p

    answered : refusal_in a ≡ number call b l d
    unfolding unpacked
    answered = ap (λ (r : Reply). r.number) its.reply ∙ number_of (number call b l d) call b l

    refused-whole : (n : ℕ) → number call b l d ≡ n → (n ≡ 0 → ⊥) → RefusedWhole n b l a b' l'
    unfolding refused_outcome
    refused-whole n e h =
        let o : unless_refused (number call b l d) call b l ≡ refused_outcome n b l = ap (λ (m : ℕ). unless_refused m call b l) e ∙ refused-is n call b l h in
        record {
          told = its.reply ∙ ap (λ (x : Outcome). x.reply) o;
          store_kept = its.store ∙ ap (λ (x : Outcome). x.store) o;
          buffers-kept = its.lent ∙ ap (λ (x : Outcome). x.lent) o;
        }

    question-kept : (q : Question) → call ≡ ask q → b' ≡ b
    question-kept q e =
        its.store ∙ ap (λ (c : Call). (unless_refused (number call b l d) c b l).store) e ∙ question-store (number call b l d) q b l

  one_answer : (a c : ℕ) (b' c' : Word) (l' m' : Lent) → Contract call b l a b' l' → Contract call b l c c' m' → (a ≡ c) × (b' ≡ c') × (l' ≡ m')
  one_answer a c b' c' l' m' p q =
      let d = good-decided b in
      let x = contract-told call b l a b' l' d p in
      let y = contract-told call b l c c' m' d q in
      (x.number ∙ sym y.number, x.store ∙ sym y.store, x.lent ∙ sym y.lent)

  damaged-three : OnStore call → (Good b → ⊥) → (a : ℕ) (b' : Word) (l' : Lent) → Contract call b l a b' l' → RefusedWhole 3 b l a b' l'
  damaged-three s n a b' l' p = refused-whole a b' l' p (inr n) 3 (damaged-number call b l n s) (λ e. omega arith)

  refused-keeps : (a : ℕ) (b' : Word) (l' : Lent) → Contract call b l a b' l' → (refusal_in a ≡ 0 → ⊥) → RefusedWhole (refusal_in a) b l a b' l'
  refused-keeps a b' l' p h = let d = good-decided b in refused-whole a b' l' p d (refusal_in a) (sym (answered a b' l' p d)) h

  -- THE CLAIM, of every call, every store and every buffer
  pub any-store : AnyStore call b l
  any-store =
      record {
        some-answer = some-answer call b l;
        one_answer = one_answer;
        damaged-three = damaged-three;
        refused-keeps = refused-keeps;
        question-keeps = λ q e a b' l' p. question-kept a b' l' p (good-decided b) q e;
      }
