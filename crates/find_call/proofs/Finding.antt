-- What finding a piece promises, on plain values. Rests on `Refusals`, `Promises` and `Fits` of the outcomes.
use Prim.Native.Nat.{ℕ, ◌<◌}
use mathlib.Core.Path.{◌≡◌, refl, sym, ap, ◌∙◌, subst}
use mathlib.Core.Bool.{Bool, true, false}
use native.Mathlib.Omega.{arith}
use lib.Dec.{leb}
use lib.ListN.{length}
use borrow.Author.Tests.{leb-true, leb-false}
use Rattle.palindromes.specs.Word.{Word, all_letters, member}
use Rattle.palindromes.specs.Mismatch.{reported_mismatch}
use Rattle.palindromes.specs.Record.{palindromes}
use Rattle.palindromes.specs.Node.{spelt}
use Rattle.palindromes.specs.Refusal.{ask, refusal, find}
use Rattle.palindromes.proofs.Words.{no-letters}
use Rattle.store.specs.Layout.{letters_in}
use Rattle.store.specs.Good.{rule_of, Good}
use Rattle.transitions.specs.Rows.{row_of}
use Rattle.outcome.specs.Reply.{packed}
use Rattle.outcome.specs.Outcome.{view_in, accepted_outcome, answer_to, lent_after, changed}
use Rattle.outcome.specs.Promise.{nothing, Promise}
use Rattle.outcome.specs.Verdict.{Verdict, judged}
use Rattle.outcome.proofs.Refusals.{find-empty, find-letters, find-accepted}
use Rattle.outcome.proofs.Promises.{cleared, carried}
use Rattle.outcome.specs.declared.answers.Found.{Found}
use Rattle.outcome.specs.Answers.{found_of, found_reply}
use Rattle.outcome.proofs.Fits.{answer-fits}

module _ (b : Word) (g : Good b) (p : Word) where
  pub no-piece : length p ≡ 0 → Verdict (ask (find p)) b nothing 8
  no-piece h = judged g (sym (find-empty b nothing p (no-letters p (omega arith))))

  pub no_text : (length p ≡ 0 → ⊥) → all_letters p ≡ false → Verdict (ask (find p)) b nothing 4
  no_text n h = judged g (sym (find-letters b nothing p (λ e. n (ap length e)) h))

  pub can-find : (length p ≡ 0 → ⊥) → all_letters p ≡ true → Verdict (ask (find p)) b nothing 0
  can-find n h = judged g (sym (find-accepted b nothing p (λ e. n (ap length e)) h))

pub record Findable (p b : Word) : Type 0 where
  pub good : Good b
  pub some : 0 < length p
  pub letters : all_letters p ≡ true
  pub clear : refusal (rule_of b) (view_in b nothing) (ask (find p)) ≡ 0

pub findable : (p b : Word) (n : ℕ) → Verdict (ask (find p)) b nothing n → n ≡ 0 → Findable p b
findable p b n v z =
    let h = cleared (ask (find p)) b nothing n v z in
    let s : 0 < length p = some h.1 (leb (length p) 0) refl in
    record { good = h.0; some = s; letters = text s h.1 (all_letters p) refl; clear = h.1 }
  where
    some : refusal (rule_of b) (view_in b nothing) (ask (find p)) ≡ 0 → (t : Bool) → leb (length p) 0 ≡ t → 0 < length p
    some k true x = absurd (omega (arith, find-empty b nothing p (no-letters p (omega (arith, leb-true (length p) 0 x)))))
    some k false x = leb-false (length p) 0 x

    text : 0 < length p → refusal (rule_of b) (view_in b nothing) (ask (find p)) ≡ 0 → (t : Bool) → all_letters p ≡ t → all_letters p ≡ true
    text s k true x = x
    text s k false x = absurd (omega (arith, find-letters b nothing p (λ e. omega (arith, ap length e)) x))

module _ (p b : Word) (a : Found) (h : Findable p b) (q : a ≡ found_of (member p (palindromes (rule_of b) (letters_in b))) (row_of b (spelt p)) (reported_mismatch (rule_of b) p)) where
  -- the row and the number of what a search answers fit their two bytes each
  pub found-fits : ((found_reply a).row < 65536) × ((found_reply a).first < 65536)
  unfolding answer_to
  found-fits =
      let fits = answer-fits h.good (find p) nothing h.clear in
      subst (λ (x : Found). ((found_reply x).row < 65536) × ((found_reply x).first < 65536)) (sym q) (fits.row, fits.first)

  pub found : {x : ℕ} → x ≡ packed (found_reply a) → Promise (ask (find p)) b nothing x b nothing
  unfolding accepted_outcome answer_to lent_after changed
  found e = carried (ask (find p)) b nothing h.good h.clear (record { reply = e ∙ ap (λ (x : Found). packed (found_reply x)) q; store = refl; lent = refl })
