-- DEFINITIONS. The contract of every store call in one form, by the call. Nothing here is proved.
use Rattle.std.specs.Prelude.{ℕ, ◌≡◌}
use Rattle.palindromes.specs.Word.{Word}
use Rattle.palindromes.specs.Refusal.{Call, opening, add, remove, turn, ask}
use Rattle.outcome.specs.Outcome.{Lent}
use Rattle.outcome.specs.Promise.{Promise, OpeningPromise}

-- 01 "every other store call": any call but an opening, which asks nothing of the store's bytes
abbrev pub OnStore : Call → Type 0
OnStore (opening way k) = ⊥
OnStore (add e c) = Unit {0}
OnStore (remove e) = Unit {0}
OnStore (turn way) = Unit {0}
OnStore (ask q) = Unit {0}

-- the contract of the exported function of each store call, in its own words. An opening is lent nothing but the store
abbrev pub Contract : Call → Word → Lent → ℕ → Word → Lent → Type 0
Contract (opening way k) b l r b' l' = OpeningPromise way k b r b' × (l' ≡ l)
Contract (add e c) b l r b' l' = Promise (add e c) b l r b' l'
Contract (remove e) b l r b' l' = Promise (remove e) b l r b' l'
Contract (turn way) b l r b' l' = Promise (turn way) b l r b' l'
Contract (ask q) b l r b' l' = Promise (ask q) b l r b' l'
