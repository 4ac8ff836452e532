-- What printing a record promises, on plain values. Rests on `Questions`, `Promises` and `Fits` of the outcomes.
use Prim.Native.Nat.{ℕ, ◌≤◌, ◌<◌}
use native.Mathlib.Omega.{arith}
use mathlib.Core.Path.{◌≡◌, refl, sym, ap, ◌∙◌}
use mathlib.Core.Bool.{false}
use mathlib.Core.List.{[]}
use lib.ListN.{length}
use lib.Seq.{sets}
use Rattle.palindromes.specs.Word.{Word}
use Rattle.palindromes.specs.Genbank.{genbank}
use Rattle.palindromes.specs.Refusal.{ask, refusal, page}
use Rattle.store.specs.Layout.{letters_in}
use Rattle.store.specs.Good.{rule_of, Good}
use Rattle.outcome.specs.Reply.{packed, accepted}
use Rattle.outcome.specs.Outcome.{view_in, accepted_outcome, answer_to, lent_after, written}
use Rattle.outcome.specs.Promise.{Promise, lending}
use Rattle.outcome.specs.Verdict.{Verdict, judged}
use Rattle.outcome.proofs.Promises.{cleared, carried}
use Rattle.outcome.proofs.Fits.{answer-fits}
use Rattle.outcome.proofs.Questions.{page-writing, too_short, long-enough, room}

module _ (b : Word) (g : Good b) (out : Word) where
  pub no_room : {n : ℕ} → n ≡ length (genbank (letters_in b)) → length out < n → Verdict (ask page) b (lending [] out) 9
  no_room e l = judged g (sym (too_short (page-writing b) (lending [] out) (omega (arith, e, l))))

  pub can-print : {n : ℕ} → n ≡ length (genbank (letters_in b)) → n ≤ length out → Verdict (ask page) b (lending [] out) 0
  can-print e l = judged g (sym (long-enough (page-writing b) (lending [] out) (omega (arith, e, l))))

-- what a verdict of 0 tells
pub record Printable (b out : Word) : Type 0 where
  pub good : Good b
  pub room : length (genbank (letters_in b)) ≤ length out
  pub clear : refusal (rule_of b) (view_in b (lending [] out)) (ask page) ≡ 0

pub printable : (b out : Word) (n : ℕ) → Verdict (ask page) b (lending [] out) n → n ≡ 0 → Printable b out
printable b out n v z =
    let h = cleared (ask page) b (lending [] out) n v z in
    record { good = h.0; room = room (page-writing b) (lending [] out) h.1; clear = h.1 }

-- the page's length fits its two bytes
pub page-packs : (b out : Word) {n : ℕ} → Printable b out → n ≡ length (genbank (letters_in b)) → (0 < 65536) × (n < 65536) × (0 < 65536)
unfolding answer_to accepted
page-packs b out a e = (omega arith, omega (arith, (answer-fits a.good page (lending [] out) a.clear).first), omega arith)

pub printed : (b out : Word) {x n : ℕ} {out' : Word} → Printable b out → x ≡ packed (accepted false 0 n 0) → n ≡ length (genbank (letters_in b))
    → out' ≡ sets out 0 (genbank (letters_in b)) → Promise (ask page) b (lending [] out) x b (lending [] out')
unfolding accepted_outcome answer_to lent_after written
printed b out a p e f =
    carried (ask page) b (lending [] out) a.good a.clear
    (record { reply = p ∙ ap (λ (k : ℕ). packed (accepted false 0 k 0)) e; store = refl; lent = ap (λ (o : Word). lending [] o) f })
