-- What a change of the reading promises, on plain values. Rests on `Promises` of the outcomes.
use Prim.Native.Nat.{ℕ}
use mathlib.Core.Path.{◌≡◌, refl}
use mathlib.Core.Bool.{false}
use Rattle.palindromes.specs.Word.{Word}
use Rattle.palindromes.specs.Reading.{Reading, reading_number}
use Rattle.palindromes.specs.Refusal.{turn}
use Rattle.store.specs.Good.{Good}
use Rattle.transitions.specs.Turning.{turned}
use Rattle.outcome.specs.Reply.{packed, accepted}
use Rattle.outcome.specs.Outcome.{accepted_outcome, changed}
use Rattle.outcome.specs.Promise.{nothing, Promise}
use Rattle.outcome.proofs.Refusals.{turn-accepted}
use Rattle.outcome.proofs.Promises.{carried}

-- a good store is turned, and the answer is zero throughout
pub turned-to : (way : Reading) (b : Word) {r : ℕ} {b' : Word} → Good b → r ≡ packed (accepted false 0 0 0) → b' ≡ turned (reading_number way) b → Promise (turn way) b nothing r b' nothing
unfolding accepted_outcome changed
turned-to way b g e f = carried (turn way) b nothing g (turn-accepted b nothing way) (record { reply = e; store = f; lent = refl })
