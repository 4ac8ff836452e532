-- What listing the repeats promises, on plain values. Rests on `Refusals`, `Promises` and `Fits` of the outcomes.
use Prim.Native.Nat.{ℕ, ◌≤◌, ◌<◌}
use mathlib.Core.Path.{◌≡◌, refl, sym, ap, ◌∙◌, ap₂}
use mathlib.Core.Bool.{Bool, true, false}
use native.Mathlib.Omega.{arith}
use lib.Dec.{leb}
use lib.ListN.{length, replicate}
use borrow.Author.Tests.{leb-true, leb-false}
use Rattle.palindromes.specs.Word.{Word}
use Rattle.palindromes.specs.Refusal.{ask, list, scratch_size, refusal}
use Rattle.store.specs.Layout.{letters_in}
use Rattle.store.specs.Good.{rule_of, Good}
use Rattle.outcome.specs.Reply.{packed, accepted}
use Rattle.outcome.specs.Outcome.{view_in, accepted_outcome, answer_to, lent_after, written}
use Rattle.outcome.specs.Promise.{Promise, lending}
use Rattle.outcome.specs.Verdict.{Verdict, judged}
use Rattle.outcome.proofs.Refusals.{list-name, list-scratch, list-out, list-accepted, list-named}
use Rattle.outcome.proofs.Promises.{cleared, carried}
use lib.Seq.{sets}
use Rattle.palindromes.specs.Bed.{is_identifier, listing}
use Rattle.outcome.proofs.Fits.{answer-fits}

module _ (b : Word) (g : Good b) (name scratch out : Word) where
  pub bad-name : is_identifier name ≡ false → Verdict (ask (list name)) b (lending scratch out) 10
  bad-name h = judged g (sym (list-name b (lending scratch out) name h))

  pub scratch-short : {n : ℕ} → is_identifier name ≡ true → n ≡ scratch_size (length (letters_in b)) → length scratch < n → Verdict (ask (list name)) b (lending scratch out) 9
  scratch-short h e l = judged g (sym (list-scratch b (lending scratch out) name h (omega (arith, e, l))))

  module _ {n m : ℕ} (h : is_identifier name ≡ true) (e : n ≡ scratch_size (length (letters_in b))) (l : n ≤ length scratch) (f : m ≡ length (listing (rule_of b) name (letters_in b))) where
    pub out-short : length out < m → Verdict (ask (list name)) b (lending scratch out) 9
    out-short k = judged g (sym (list-out b (lending scratch out) name h (omega (arith, e, l)) (omega (arith, f, k))))

    pub can-list : m ≤ length out → Verdict (ask (list name)) b (lending scratch out) 0
    can-list k = judged g (sym (list-accepted b (lending scratch out) name h (omega (arith, e, l)) (omega (arith, f, k))))

pub record Listable (name b scratch out : Word) : Type 0 where
  pub good : Good b
  pub named : is_identifier name ≡ true
  pub marks : scratch_size (length (letters_in b)) ≤ length scratch
  pub room : length (listing (rule_of b) name (letters_in b)) ≤ length out
  pub clear : refusal (rule_of b) (view_in b (lending scratch out)) (ask (list name)) ≡ 0

pub listable : (name b scratch out : Word) (n : ℕ) → Verdict (ask (list name)) b (lending scratch out) n → n ≡ 0 → Listable name b scratch out
listable name b scratch out n v z =
    let h = cleared (ask (list name)) b (lending scratch out) n v z in
    let i = list-named b (lending scratch out) name h.1 in
    let m : scratch_size (length (letters_in b)) ≤ length scratch = marks i h.1 (leb (scratch_size (length (letters_in b))) (length scratch)) refl in
    record { good = h.0; named = i; marks = m; room = room i m h.1 (leb (length (listing (rule_of b) name (letters_in b))) (length out)) refl; clear = h.1 }
  where
    marks : is_identifier name ≡ true → refusal (rule_of b) (view_in b (lending scratch out)) (ask (list name)) ≡ 0 → (t : Bool) → leb (scratch_size (length (letters_in b))) (length scratch) ≡ t → scratch_size (length (letters_in b)) ≤ length scratch
    marks i k true x = leb-true (scratch_size (length (letters_in b))) (length scratch) x
    marks i k false x = absurd (omega (arith, list-scratch b (lending scratch out) name i (leb-false (scratch_size (length (letters_in b))) (length scratch) x)))

    room : is_identifier name ≡ true → scratch_size (length (letters_in b)) ≤ length scratch → refusal (rule_of b) (view_in b (lending scratch out)) (ask (list name)) ≡ 0 → (t : Bool) → leb (length (listing (rule_of b) name (letters_in b))) (length out) ≡ t
        → length (listing (rule_of b) name (letters_in b)) ≤ length out
    room i m k true x = leb-true (length (listing (rule_of b) name (letters_in b))) (length out) x
    room i m k false x = absurd (omega (arith, list-out b (lending scratch out) name i m (leb-false (length (listing (rule_of b) name (letters_in b))) (length out) x)))

pub listing-packs : (name b scratch out : Word) {n : ℕ} → Listable name b scratch out → n ≡ length (listing (rule_of b) name (letters_in b)) → (0 < 65536) × (n < 65536) × (0 < 65536)
unfolding answer_to accepted
listing-packs name b scratch out a e = (omega arith, omega (arith, (answer-fits a.good (list name) (lending scratch out) a.clear).first), omega arith)

pub listed-out : (name b scratch out : Word) {x n : ℕ} {scratch' out' : Word} → Listable name b scratch out → x ≡ packed (accepted false 0 n 0)
    → n ≡ length (listing (rule_of b) name (letters_in b)) → scratch' ≡ sets scratch 0 (replicate (scratch_size (length (letters_in b))) 0) → out' ≡ sets out 0 (listing (rule_of b) name (letters_in b))
    → Promise (ask (list name)) b (lending scratch out) x b (lending scratch' out')
unfolding accepted_outcome answer_to lent_after written
listed-out name b scratch out a p e f g =
    carried (ask (list name)) b (lending scratch out) a.good a.clear
    (record { reply = p ∙ ap (λ (k : ℕ). packed (accepted false 0 k 0)) e; store = refl; lent = ap₂ (λ (s o : Word). lending s o) f g })
