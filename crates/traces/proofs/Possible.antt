-- The theorem's hypotheses can be met: what a call comes to by the definitions keeps the contract, so a list from an opening goes on with any call but an accepted opening.
-- And a store that no opening made need not be good: one of zeros never is.
use Prim.Native.Nat.{ℕ, zero, suc}
use native.Mathlib.Omega.{arith}
use mathlib.Core.Path.{◌≡◌, refl, sym, ap, ◌∙◌, subst}
use mathlib.Core.List.{List, ◌∷◌}
use lib.ListN.{get_or, replicate}
use Rattle.palindromes.specs.Word.{Word}
use Rattle.palindromes.specs.Reading.{Reading}
use Rattle.palindromes.specs.Refusal.{Call, opening, add, remove, turn, ask, refusal}
use Rattle.store.specs.Layout.{cell, capacity_in}
use Rattle.store.specs.Good.{rule_of, Good}
use Rattle.transitions.specs.Bytes.{Bytes}
use Rattle.outcome.specs.Reply.{Reply, packed, refusal_in, unpacked}
use Rattle.outcome.specs.Outcome.{Lent, Outcome, view_in, refused_outcome, outcome}
use Rattle.outcome.specs.Promise.{nothing, Promise, OpeningPromise}
use Rattle.outcome.proofs.Promises.{kept}
use Rattle.outcome.proofs.Told.{opening-told}
use Rattle.traces.specs.Run.{Step, Stated, Keeps, store_after, Run, called}
use Rattle.traces.proofs.Theorem.{number-of, refused-is, always-good}

-- the step that a call comes to
abbrev pub step_of : Call → Word → Lent → Step
step_of call b l =
    record { call = call; lent = l; answer = packed (outcome call b l).reply; store = (outcome call b l).store; after = (outcome call b l).lent }

-- a call that may stand in a list: any but an opening that is accepted
abbrev pub MayStand : Call → Word → Lent → Type 0
MayStand (opening way k) b l = (l ≡ nothing) × (refusal (rule_of b) (view_in b nothing) (opening way k) ≡ 0 → ⊥)
MayStand (add e c) b l = Unit {0}
MayStand (remove e) b l = Unit {0}
MayStand (turn way) b l = Unit {0}
MayStand (ask q) b l = Unit {0}

-- on a good store it keeps its contract
promised : (call : Call) (b : Word) (l : Lent) → Good b → Promise call b l (packed (outcome call b l).reply) (outcome call b l).store (outcome call b l).lent
promised call b l g = kept call b l g (record { reply = refl; store = refl; lent = refl })

refused-opening : (way : Reading) (k : ℕ) (b : Word) → (refusal (rule_of b) (view_in b nothing) (opening way k) ≡ 0 → ⊥) → Keeps b (step_of (opening way k) b nothing)
unfolding Stated outcome refused_outcome unpacked
refused-opening way k b h =
    let n = refusal (rule_of b) (view_in b nothing) (opening way k) in
    let lent = ap (λ (o : Outcome). o.lent) (refused-is n (opening way k) b nothing h) in
    let promise : OpeningPromise way k b (packed (outcome (opening way k) b nothing).reply) (outcome (opening way k) b nothing).store = record { left = record { reply = refl; store = refl; lent = sym lent } } in
    let told = opening-told {l = nothing} promise refl in
    (promise, lent, λ z. h (sym (number-of n (opening way k) b nothing) ∙ ap (λ (r : Reply). r.number) (sym told.reply) ∙ z))

pub keeps-contract : (call : Call) (b : Word) (l : Lent) → Good b → MayStand call b l → Keeps b (step_of call b l)
unfolding Stated
keeps-contract (opening way k) b l g h = subst (λ (x : Lent). Keeps b (step_of (opening way k) b x)) (sym h.0) (refused-opening way k b h.1)
keeps-contract (add e c) b l g h = promised (add e c) b l g
keeps-contract (remove e) b l g h = promised (remove e) b l g
keeps-contract (turn way) b l g h = promised (turn way) b l g
keeps-contract (ask q) b l g h = promised (ask q) b l g

-- any list from an opening goes on
pub goes_on : (way : Reading) (k : ℕ) (b₀ : Word) → Bytes b₀ → (a : ℕ) (b : Word) → OpeningPromise way k b₀ a b → refusal_in a ≡ 0 → {xs : List Step} → Run b xs → (call : Call) (l : Lent) → MayStand call (store_after b xs) l
    → Run b (step_of call (store_after b xs) l ∷ xs)
goes_on way k b₀ h a b p z {xs} r call l m =
    called r (step_of call (store_after b xs) l) (keeps-contract call (store_after b xs) l (always-good way k b₀ h a b p z r) m)

-- ---- a store of zeros

all-zero : (n i : ℕ) → get_or {A = ℕ} (replicate n 0) i 0 ≡ 0
all-zero zero i = refl
all-zero (suc n) zero = refl
all-zero (suc n) (suc i) = all-zero n i

-- 01 "an all-zero store never is"
pub zeros-not-good : (n : ℕ) → Good (replicate n 0) → ⊥
unfolding capacity_in cell
zeros-not-good n g = omega (arith, g.sized.at_least_one, all-zero n 16, all-zero n 17)
