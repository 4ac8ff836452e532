-- What a question that writes to its output answers and leaves on a good store, by the length of the output: `writes`; one that is refused whatever
-- its buffers: `refuses`; and that what a question answers and writes decides all of that: `same-written`. Rests on what a promise tells of an
-- outcome (`told`) and on the one law for such questions (`Writing` of outcome).
use Prim.Native.Nat.{ℕ, suc, ◌≤◌, ◌<◌}
use native.Mathlib.Decide.{dec_lt}
use native.Mathlib.Omega.{arith}
use mathlib.Core.Path.{◌≡◌, refl, sym, ap, ◌∙◌}
use lib.ListN.{length, take}
use Rattle.palindromes.specs.Word.{Word}
use Rattle.palindromes.specs.Refusal.{Question, ask, refusal}
use Rattle.decimal.proofs.Stores.{stored-front}
use Rattle.store.specs.Good.{rule_of, Good}
use Rattle.outcome.specs.Reply.{Answer}
use Rattle.outcome.specs.Outcome.{Lent, Outcome, view_in, outcome, written, refused_outcome}
use Rattle.outcome.specs.Promise.{lending, Promise}
use Rattle.outcome.proofs.Refusals.{refused-out}
use Rattle.outcome.proofs.Told.{told}
use Rattle.outcome.proofs.Questions.{Writing, with-room, without-room}
use Rattle.traces.specs.Claims.{SameAnswer}
use Rattle.traces.specs.Writes.{Written, Refused, Writes, Refuses}
use Rattle.traces.proofs.Theorem.{same_answer}

-- a question that comes to a refusal
refused : {q : Question} {b : Word} → Good b → (n : ℕ) (l : Lent) (a : ℕ) (b' : Word) (l' : Lent) → Promise (ask q) b l a b' l'
    → outcome (ask q) b l ≡ refused_outcome n b l → Refused n b l a b' l'
unfolding refused_outcome
refused g n l a b' l' p o =
    let t = told g p in
    record {
      told = t.reply ∙ ap (λ (x : Outcome). x.reply) o;
      store = t.store ∙ ap (λ (x : Outcome). x.store) o;
      bytes = t.lent ∙ ap (λ (x : Outcome). x.lent) o;
    }

-- whatever buffers come with it
pub refuses : {q : Question} {b : Word} → Good b → (n : ℕ) → ((l : Lent) → refusal (rule_of b) (view_in b l) (ask q) ≡ suc n) → Refuses q (suc n) b
refuses {q} {b} g n h l a b' l' p = refused g (suc n) l a b' l' p (refused-out (ask q) b l n (h l))

module _ {q : Question} {x : Answer} {w b : Word} (g : Good b) (f : Writing q x w b) where
  put : (l : Lent) (a : ℕ) (b' : Word) (l' : Lent) → Promise (ask q) b l a b' l' → length w ≤ length l.out → Written x w b l a b' l'
  unfolding written
  put l a b' l' p h =
      let t = told g p in
      let o = with-room f l h in
      let bytes : l' ≡ lending l.scratch (written w l.out) = t.lent ∙ ap (λ (y : Outcome). y.lent) o in
      record {
        told = t.reply ∙ ap (λ (y : Outcome). y.reply) o;
        store = t.store ∙ ap (λ (y : Outcome). y.store) o;
        bytes = bytes;
        front = ap (λ (y : Lent). take (length w) y.out) bytes ∙ stored-front l.out w h;
      }

  pub writes : Writes q x w b
  writes = record { written = put; short = λ l a b' l' p h. refused g 9 l a b' l' p (without-room f l h) }

-- ---- two stores

-- on which a question answers the same and writes the same bytes
module _ {q : Question} {x : Answer} {w b c : Word} (f : Writing q x w b) (e : Writing q x w c) (l : Lent) where
  abbrev Alike : Type 0
  Alike = ((outcome (ask q) b l).reply ≡ (outcome (ask q) c l).reply) × ((outcome (ask q) b l).lent ≡ (outcome (ask q) c l).lent)

  -- by what the two come to
  by-outcomes : {y z : Outcome} → outcome (ask q) b l ≡ y → outcome (ask q) c l ≡ z → y.reply ≡ z.reply → y.lent ≡ z.lent → Alike
  by-outcomes i j r t = (
    ap (λ (o : Outcome). o.reply) i ∙ r ∙ sym (ap (λ (o : Outcome). o.reply) j),
    ap (λ (o : Outcome). o.lent) i ∙ t ∙ sym (ap (λ (o : Outcome). o.lent) j),
  )

  by-room : Dec (length l.out < length w) → Alike
  unfolding refused_outcome
  by-room (yes h) = by-outcomes (without-room f l h) (without-room e l h) refl refl
  by-room (no m) =
      let h : length w ≤ length l.out = omega arith in
      by-outcomes (with-room f l h) (with-room e l h) refl refl

  alike : Alike
  alike = by-room (dec_lt (length l.out) (length w))

-- good ones then answer alike
pub same-written : {q : Question} {x : Answer} {w b c : Word} → Good b → Good c → Writing q x w b → Writing q x w c → SameAnswer q b c
same-written {q} g h f e = same_answer q g h (λ l. (alike f e l).0) (λ l. (alike f e l).1)
