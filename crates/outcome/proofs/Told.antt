-- What a promise tells on a good store: the number packs the outcome's reply and can be read back to it, and every lent byte is the outcome's. Rests on `Packing` and
-- `Fits`.
use Prim.Native.Nat.{ℕ, zero, suc}
use mathlib.Core.Path.{◌≡◌, refl, sym, ap, ◌∙◌, subst}
use Rattle.palindromes.specs.Word.{Word}
use Rattle.palindromes.specs.Reading.{Reading}
use Rattle.palindromes.specs.Refusal.{Call, opening, faults, refusal}
use Rattle.store.specs.Good.{rule_of, Good}
use Rattle.outcome.specs.Reply.{Fits, packed, unpacked}
use Rattle.outcome.specs.Outcome.{Lent, Outcome, view_in, changed, accepted_outcome, refused_outcome, unless_refused, outcome}
use Rattle.outcome.specs.Promise.{nothing, Left, Promise, OpeningPromise}
use Rattle.outcome.proofs.Packing.{unpack-packed}
use Rattle.outcome.proofs.Fits.{reply-fits, opening-fits}

pub record Told (o : Outcome) (a : ℕ) (b : Word) (l : Lent) : Type 0 where
  pub number : a ≡ packed o.reply
  pub reply : unpacked a ≡ o.reply
  pub store : b ≡ o.store
  pub lent : l ≡ o.lent

-- a number that packs a reply which fits its bytes
by_left : {o : Outcome} {a : ℕ} {b : Word} {l : Lent} → Fits o.reply → Left o a b l → Told o a b l
by_left {o} f h = record { number = h.reply; reply = ap unpacked h.reply ∙ unpack-packed o.reply f; store = h.store; lent = h.lent }

pub told : {call : Call} {b : Word} {l : Lent} {a : ℕ} {b' : Word} {l' : Lent} → Good b → Promise call b l a b' l' → Told (outcome call b l) a b' l'
told {call} {b} {l} {a} {b'} {l'} g p = by_left (reply-fits b l call g) (subst (λ (o : Outcome). Left o a b' l') (p.answers.good g) p.left)

-- an opening asks nothing of the buffers beside the store, and leaves them
opening-lent : (n : ℕ) (way : Reading) (k : ℕ) (b : Word) (l : Lent) → unless_refused n (opening way k) b l ≡ record { reply = (unless_refused n (opening way k) b nothing).reply; store = (unless_refused n (opening way k) b nothing).store; lent = l }
unfolding unless_refused accepted_outcome changed refused_outcome
opening-lent zero way k b l = refl
opening-lent (suc n) way k b l = refl

-- an opening, on any bytes
pub opening-told : {way : Reading} {k : ℕ} {b : Word} {a : ℕ} {b' : Word} {l l' : Lent} → OpeningPromise way k b a b' → l' ≡ l → Told (outcome (opening way k) b l) a b' l'
unfolding outcome refusal faults view_in
opening-told {way} {k} {b} {a} {b'} {l} {l'} p e =
    let f = by_left (opening-fits b nothing way k) p.left in
    let same = opening-lent (refusal (rule_of b) (view_in b nothing) (opening way k)) way k b l in
    subst (λ (o : Outcome). Told o a b' l') (sym same) (record { number = f.number; reply = f.reply; store = f.store; lent = e })
