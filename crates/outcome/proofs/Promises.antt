-- How a host call keeps its promise: a store that is not good is refused with 3, a call that a row of the table of numbers names is refused with that
-- number, and any other is carried out. Last, the row that a new repeat takes is free. Rests on `Refusals`, and for the free row on `Rows` of transitions.
use Prim.Native.Nat.{ℕ, zero, suc, ◌<◌}
use native.Mathlib.Omega.{arith}
use mathlib.Core.Path.{◌≡◌, refl, sym, ◌∙◌, subst}
use mathlib.Core.Bool.{true}
use Rattle.refusal.specs.declared.Refusal.{Refusal}
use Rattle.refusal.specs.Number.{number_of}
use Rattle.refusal.proofs.Number.{no-refusal-zero}
use Rattle.palindromes.specs.Word.{Word, is_letter}
use Rattle.palindromes.specs.Reading.{Reading}
use Rattle.palindromes.specs.End.{End}
use Rattle.palindromes.specs.Refusal.{Call, opening, add, refusal}
use Rattle.store.specs.Layout.{capacity_in, size_in}
use Rattle.store.specs.Good.{rule_of, Good}
use Rattle.store.proofs.Sizes.{letters-length}
use Rattle.transitions.proofs.Rows.{free-row}
use Rattle.outcome.specs.Reply.{packed, refused_with}
use Rattle.outcome.specs.Outcome.{Lent, Outcome, view_in, outcome, accepted_outcome, refused_outcome}
use Rattle.outcome.specs.Promise.{nothing, Left, Promise, OpeningPromise, FreeRow}
use Rattle.outcome.specs.Verdict.{Verdict, damaged, judged}
use Rattle.outcome.proofs.Refusals.{add-allowed, carried-out, refused-out}

module _ (call : Call) (b : Word) (l : Lent) where
  broken : {r : ℕ} → (Good b → ⊥) → r ≡ packed (refused_with 3) → Promise call b l r b l
  unfolding refused_outcome
  broken n e =
      record {
        came = refused_outcome 3 b l;
        answers = record { good = λ g. absurd (n g); damaged = λ m. refl };
        left = record { reply = e; store = refl; lent = refl };
      }

  -- whatever a good store's outcome leaves
  pub kept : {r : ℕ} {b' : Word} {l' : Lent} → Good b → Left (outcome call b l) r b' l' → Promise call b l r b' l'
  kept g f = record { came = outcome call b l; answers = record { good = λ h. refl; damaged = λ n. absurd (n g) }; left = f }

  pub refused : (n : ℕ) {r : ℕ} → Good b → refusal (rule_of b) (view_in b l) call ≡ suc n → r ≡ packed (refused_with (suc n)) → Promise call b l r b l
  unfolding refused_outcome
  refused n {r} g e p = kept g (subst (λ (o : Outcome). Left o r b l) (sym (refused-out call b l n e)) (record { reply = p; store = refl; lent = refl }))

  pub carried : {r : ℕ} {b' : Word} {l' : Lent} → Good b → refusal (rule_of b) (view_in b l) call ≡ 0 → Left (accepted_outcome call b l) r b' l' → Promise call b l r b' l'
  carried {r} {b'} {l'} g e f = kept g (subst (λ (o : Outcome). Left o r b' l') (sym (carried-out call b l e)) f)

  -- ---- by a verdict

  -- a call whose verdict is not 0 is refused with it
  pub by-verdict : (n : ℕ) {r : ℕ} → Verdict call b l n → (n ≡ 0 → ⊥) → r ≡ packed (refused_with n) → Promise call b l r b l
  by-verdict n {r} (damaged h e) z p = broken h (subst (λ (m : ℕ). r ≡ packed (refused_with m)) e p)
  by-verdict zero (judged g e) z p = absurd (z refl)
  by-verdict (suc n) (judged g e) z p = refused n g (sym e) p

  -- one that a refusal names is refused with its number
  pub by-refusal : (f : Refusal) {r : ℕ} → Verdict call b l (number_of f) → r ≡ packed (refused_with (number_of f)) → Promise call b l r b l
  by-refusal f v p = by-verdict (number_of f) v (no-refusal-zero f) p

  -- a call whose verdict is 0 is carried out, on a good store
  pub cleared : (n : ℕ) → Verdict call b l n → n ≡ 0 → Good b × (refusal (rule_of b) (view_in b l) call ≡ 0)
  cleared n (damaged h e) z = absurd (omega arith)
  cleared n (judged g e) z = (g, sym e ∙ z)

-- what a verdict of 0 tells
pub record Answerable (call : Call) (b : Word) (l : Lent) : Type 0 where
  pub good : Good b
  pub clear : refusal (rule_of b) (view_in b l) call ≡ 0

pub answerable : (call : Call) (b : Word) (l : Lent) (n : ℕ) → Verdict call b l n → n ≡ 0 → Answerable call b l
answerable call b l n v z = let h = cleared call b l n v z in record { good = h.0; clear = h.1 }

-- ---- an opening

module _ (way : Reading) (k : ℕ) (b : Word) where
  pub opening-refused : (n : ℕ) {r : ℕ} → refusal (rule_of b) (view_in b nothing) (opening way k) ≡ suc n → r ≡ packed (refused_with (suc n)) → OpeningPromise way k b r b
  unfolding refused_outcome
  opening-refused n {r} e p = record { left = subst (λ (o : Outcome). Left o r b nothing) (sym (refused-out (opening way k) b nothing n e)) (record { reply = p; store = refl; lent = refl }) }

  pub opening-carried : {r : ℕ} {b' : Word} → refusal (rule_of b) (view_in b nothing) (opening way k) ≡ 0 → Left (accepted_outcome (opening way k) b nothing) r b' nothing → OpeningPromise way k b r b'
  opening-carried {r} {b'} e f = record { left = subst (λ (o : Outcome). Left o r b' nothing) (sym (carried-out (opening way k) b nothing e)) f }

-- ---- an addition

module _ (e : End) (c : ℕ) (b : Word) where
  -- one that is carried out on a good store brings a letter, and finds room for it
  pub add-cleared : Good b → refusal (rule_of b) (view_in b nothing) (add e c) ≡ 0 → (is_letter c ≡ true) × (size_in b < capacity_in b)
  add-cleared g z = let a = add-allowed b nothing e c z in (a.0, omega (arith, a.1, letters-length g.sized))

  -- so the row that a new repeat takes is free
  pub free-taken : FreeRow e c b
  free-taken g z t = free-row g (add-cleared g z).1
