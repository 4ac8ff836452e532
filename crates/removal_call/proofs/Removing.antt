-- What a removal promises, on plain values: the verdict, and what is left where the letter is removed.
use Prim.Native.Nat.{ℕ, ◌<◌}
use mathlib.Core.Path.{◌≡◌, refl, sym, ap, ◌∙◌, subst}
use mathlib.Core.Bool.{Bool, true, false}
use mathlib.Core.List.{[]}
use native.Mathlib.Omega.{arith}
use lib.ListN.{length}
use Rattle.palindromes.specs.Word.{Word}
use Rattle.palindromes.specs.End.{End, letter_at}
use Rattle.palindromes.specs.Refusal.{remove, refusal}
use Rattle.palindromes.proofs.Words.{no-letters}
use Rattle.store.specs.Layout.{size_in, end_row, letters_in}
use Rattle.store.specs.Good.{rule_of, Good}
use Rattle.store.proofs.Sizes.{letters-length}
use Rattle.transitions.specs.Removal.{longest_before, takes_out, after_removal}
use Rattle.transitions.proofs.Rows.{end_row_lem, end-small}
use Rattle.outcome.specs.declared.answers.Removed.{Removed}
use Rattle.outcome.specs.Reply.{packed, accepted}
use Rattle.outcome.specs.Answers.{removed_of, removed_reply}
use Rattle.outcome.specs.Outcome.{view_in, accepted_outcome, changed}
use Rattle.outcome.specs.Promise.{nothing, Promise}
use Rattle.outcome.specs.Verdict.{Verdict, judged}
use Rattle.outcome.proofs.Refusals.{remove-empty, remove-accepted}
use Rattle.outcome.proofs.Promises.{carried}

pub no-letter : (e : End) (b : Word) → Good b → size_in b ≡ 0 → Verdict (remove e) b nothing 6
no-letter e b g h = judged g (sym (remove-empty b nothing e (no-letters (letters_in b) (omega (arith, letters-length g.sized)))))

-- a record that has a letter is not the empty word
some-letter : (b : Word) → Good b → (size_in b ≡ 0 → ⊥) → letters_in b ≡ [] → ⊥
some-letter b g n e = n (sym (letters-length g.sized) ∙ ap length e)

pub record Removable (e : End) (b : Word) : Type 0 where
  pub good : Good b
  pub clear : refusal (rule_of b) (view_in b nothing) (remove e) ≡ 0

pub removable : (e : End) (b : Word) → Good b → 0 < size_in b → Removable e b
removable e b g n = record { good = g; clear = remove-accepted b nothing e (some-letter b g λ z. omega arith) }

-- the row of what a removal answers fits its two bytes
pub removed-fits : (e : End) (b : Word) (a : Removed) → Removable e b → a ≡ removed_of (takes_out e b) (letter_at e (letters_in b)) (end_row b e) → (removed_reply a).row < 65536
unfolding removed_reply accepted
removed-fits e b a h q = subst (λ (x : Removed). (removed_reply x).row < 65536) (sym q) (go (takes_out e b))
  where
    go : (t : Bool) → (removed_reply (removed_of t (letter_at e (letters_in b)) (end_row b e))).row < 65536
    go true = end-small h.good e
    go false = omega arith

pub removed : (e : End) (b : Word) (a : Removed) {r : ℕ} {b' : Word} → Removable e b → a ≡ removed_of (takes_out e b) (letter_at e (letters_in b)) (end_row b e) → r ≡ packed (removed_reply a) → b' ≡ after_removal e b
    → Promise (remove e) b nothing r b' nothing
unfolding accepted_outcome changed longest_before
removed e b a h q p s =
    carried (remove e) b nothing h.good h.clear
    (record { reply = p ∙ ap (λ (x : Removed). packed (removed_reply x)) (q ∙ ap (removed_of (takes_out e b) (letter_at e (letters_in b))) (end_row_lem h.good e)); store = s; lent = refl })
