-- What an opening promises, on plain values: each refusal, and what is left where a record is opened.
use Prim.Native.Nat.{ℕ, zero, suc, ◌+◌, ◌*◌, ◌≤◌, ◌<◌}
use mathlib.Core.Path.{◌≡◌, refl, ap, ap₂}
use mathlib.Core.Bool.{Bool, true, false, ◌&&◌}
use lib.Dec.{leb}
use lib.ListN.{length}
use borrow.Author.Tests.{le-leb, lt-leb}
use Rattle.palindromes.specs.Word.{Word}
use Rattle.palindromes.specs.Reading.{Reading, reading_number}
use Rattle.palindromes.specs.Refusal.{store_size, opening, refusal}
use Rattle.palindromes.proofs.Tests.{both-are}
use Rattle.refusal.specs.declared.Refusal.{Refusal}
use Rattle.refusal.specs.declared.Refusal.TheVariants.{Capacity, ShortStore}
use Rattle.refusal.specs.Number.{number_of}
use Rattle.refusal.proofs.Number.{no-refusal-zero}
use Rattle.store.specs.Good.{rule_of}
use Rattle.transitions.specs.Opening.{opened}
use Rattle.outcome.specs.Reply.{packed, accepted, refused_with}
use Rattle.outcome.specs.Outcome.{view_in, accepted_outcome, changed}
use Rattle.outcome.specs.Promise.{nothing, OpeningPromise}
use Rattle.outcome.proofs.Refusals.{opening-capacity, opening-short, opening-accepted}
use Rattle.outcome.proofs.Promises.{opening-refused, opening-carried}
use Rattle.opening_call.specs.Room.{Room, Refuses}

within : (k : ℕ) → 1 ≤ k → k ≤ 1024 → (leb 1 k && leb k 1024) ≡ true
within k p q = both-are (leb 1 k) (leb k 1024) (le-leb 1 k p) (le-leb k 1024 q)

pub too_small : (k : ℕ) (b : Word) → k < 1 → Refuses k b Capacity
too_small k b h way = opening-capacity b nothing way k (ap (λ (t : Bool). t && leb k 1024) (lt-leb 1 k h))

pub too_large : (k : ℕ) (b : Word) → 1 ≤ k → 1024 < k → Refuses k b Capacity
too_large k b l h way = opening-capacity b nothing way k (ap₂ (λ (t u : Bool). t && u) (le-leb 1 k l) (lt-leb k 1024 h))

pub too_short : (k : ℕ) (b : Word) → 1 ≤ k → k ≤ 1024 → length b < 48 * k + 256 → Refuses k b ShortStore
unfolding store_size
too_short k b p q h way = opening-short b nothing way k (within k p q) h

pub room_for : (k : ℕ) (b : Word) → 1 ≤ k → k ≤ 1024 → 48 * k + 256 ≤ length b → Room k b k
unfolding store_size
room_for k b p q h = record { same = refl; least = p; most = q; fits = h }

-- an opening that a refusal names is refused with its number
pub opening-by-refusal : (way : Reading) (k : ℕ) (b : Word) (f : Refusal) {r : ℕ} → Refuses k b f → r ≡ packed (refused_with (number_of f))
    → OpeningPromise way k b r b
opening-by-refusal way k b f s = go (number_of f) (no-refusal-zero f) (s way)
  where
    go : (n : ℕ) → (n ≡ 0 → ⊥) → refusal (rule_of b) (view_in b nothing) (opening way k) ≡ n → {r : ℕ} → r ≡ packed (refused_with n) → OpeningPromise way k b r b
    go zero z e p = absurd (z refl)
    go (suc n) z e p = opening-refused way k b n e p

pub opened_up : (way : Reading) (n : ℕ) (b : Word) (k : ℕ) {r : ℕ} {b' : Word} → Room n b k → r ≡ packed (accepted false 0 0 0) → b' ≡ opened (reading_number way) k b
    → OpeningPromise way n b r b'
unfolding accepted_outcome changed
opened_up way n b k h e f =
    rw (← h.same)
    (opening-carried way k b (opening-accepted b nothing way k (within k h.least h.most) h.fits) (record { reply = e; store = f; lent = refl }))
