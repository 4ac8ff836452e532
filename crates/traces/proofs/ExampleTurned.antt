-- A list of calls that changes the reading in the middle: A and T join the right end of a plain record, the record is turned to the inverted reading and once more to the same, and T joins at the right. What
-- the theorem says of it: AT comes in with the turn and is found, A, which was a repeat until then, is absent, the second turn leaves every byte, AT keeps its row, and an
-- addition after the turns is undone.
use Prim.Native.Nat.{ℕ}
use native.Mathlib.Omega.{arith}
use mathlib.Core.Path.{◌≡◌, refl, sym, subst}
use mathlib.Core.Bool.{true, false}
use mathlib.Core.List.{List, [], ◌∷◌}
use Rattle.palindromes.specs.Word.{Word, is_letter, mismatch_from}
use Rattle.palindromes.specs.Palindrome.{mirror, first_mismatch}
use Rattle.palindromes.specs.Mismatch.{reported_mismatch}
use Rattle.palindromes.specs.Reading.{as_plain, as_inverted, complement, reading_number, rule_in}
use Rattle.palindromes.specs.Place.{Stands}
use Rattle.palindromes.specs.Record.{palindromes}
use Rattle.palindromes.specs.End.{at_right, added, not_among}
use Rattle.palindromes.specs.Refusal.{find, add, remove, turn}
use Rattle.outcome.specs.Reply.{accepted, refusal_in, unpacked}
use Rattle.outcome.specs.Promise.{nothing}
use Rattle.traces.specs.Run.{Step, store_after, Run, begun, letters_step, letters_after, reading_step, reading_after, row_after}
use Rattle.traces.specs.Claims.{Replies, Table, Turned, Kept, EachCall, Undone, Claims}
use Rattle.traces.proofs.Possible.{step_of, keeps-contract}
use Rattle.traces.proofs.Example.{start, more, one_more, claims-of, stays-good, letter, ClaimedIn}
use Rattle.traces.proofs.ExampleInverted.{AT-repeat}

pub with-AT : List Step
with-AT = more (more [] (add at_right 65)) (add at_right 84)

pub inverted : List Step
inverted = more with-AT (turn as_inverted)

pub again : List Step
again = more inverted (turn as_inverted)

pub with-ATT : List Step
with-ATT = more again (add at_right 84)

again-run : Run start again
unfolding again inverted with-AT
again-run = one_more (one_more (one_more (one_more begun (add at_right 65) tt) (add at_right 84) tt) (turn as_inverted) tt) (turn as_inverted) tt

turned-run : Run start with-ATT
unfolding with-ATT
turned-run = one_more again-run (add at_right 84) tt

pub turned-claims : Claims 0 3 start with-ATT
unfolding reading_number
turned-claims = claims-of as_plain turned-run

-- ---- the letters and the reading, from the arguments alone

letters-AT : letters_after 3 with-AT ≡ 65 ∷ 84 ∷ []
unfolding with-AT letters_after letters_step added is_letter
letters-AT = refl

letters-again : letters_after 3 again ≡ 65 ∷ 84 ∷ []
unfolding again inverted letters_after letters_step
letters-again = letters-AT

letters-ATT : letters_after 3 with-ATT ≡ 65 ∷ 84 ∷ 84 ∷ []
unfolding with-ATT letters_after letters_step added is_letter
letters-ATT = rw letters-again refl

plain-before : reading_after 0 with-AT ≡ 0
unfolding with-AT reading_after reading_step
plain-before = refl

inverted-then : reading_after 0 inverted ≡ 1
unfolding inverted reading_after reading_step reading_number
inverted-then = refl

inverted-still : reading_after 0 again ≡ 1
unfolding again reading_after reading_step reading_number
inverted-still = refl

inverted-after : reading_after 0 with-ATT ≡ 1
unfolding with-ATT reading_after reading_step
inverted-after = inverted-still

-- ---- after the list: the repeats are those of the inverted reading

abbrev end : Word
end = store_after start with-ATT

abbrev row_now : Word → ℕ
row_now w = row_after 0 3 with-ATT w

its-table : Table 1 3 (letters_after 3 with-ATT) row_now end
its-table = subst (λ (m : ℕ). Table m 3 (letters_after 3 with-ATT) row_now end) inverted-after turned-claims.table

AT-stands : Stands (65 ∷ 84 ∷ []) (letters_after 3 with-ATT)
AT-stands = record { before = []; after = 84 ∷ []; whole = sym letters-ATT }

-- AT is found, in the row that it has had since the turn
pub AT-found : Replies (find (65 ∷ 84 ∷ [])) end (accepted true (row_now (65 ∷ 84 ∷ [])) 0 0)
AT-found = its-table.found (65 ∷ 84 ∷ []) AT-repeat AT-stands

-- ---- the turn, and the one to the reading that is then in force

of-turn : ClaimedIn 0 with-AT (turn as_inverted)
unfolding EachCall with-ATT again inverted
of-turn = subst (λ (m : ℕ). ClaimedIn m with-AT (turn as_inverted)) plain-before turned-claims.each.1.1.0

of-second : ClaimedIn 1 inverted (turn as_inverted)
unfolding EachCall with-ATT again
of-second = subst (λ (m : ℕ). ClaimedIn m inverted (turn as_inverted)) inverted-then turned-claims.each.1.0

abbrev turn_step : Step
turn_step = step_of (turn as_inverted) (store_after start with-AT) nothing

abbrev second-step : Step
second-step = step_of (turn as_inverted) (store_after start inverted) nothing

of-turned : Turned 0 1 3 (letters_after 3 with-AT) (λ w. row_after 0 3 with-AT w) (λ w. row_after 0 3 (more with-AT (turn as_inverted)) w) (store_after start with-AT) turn_step.store (unpacked turn_step.answer)
unfolding reading_number
of-turned = of-turn.turning as_inverted refl

differ : ◌≡◌ {A = ℕ} 0 1 → ⊥
differ e = omega arith

-- it answers zero throughout
pub turn-answers-zero : unpacked turn_step.answer ≡ accepted false 0 0 0
turn-answers-zero = of-turned.accepted-zero

-- it brings in AT alone, which is all that is a repeat of A and T in the inverted reading, and takes out A and T
pub AT-came : not_among (palindromes (rule_in 0) (letters_after 3 with-AT)) (palindromes (rule_in 1) (letters_after 3 with-AT)) ≡ palindromes (rule_in 1) (letters_after 3 with-AT)
AT-came = of-turned.comes-in differ

pub A-and-T-went : not_among (palindromes (rule_in 1) (letters_after 3 with-AT)) (palindromes (rule_in 0) (letters_after 3 with-AT)) ≡ palindromes (rule_in 0) (letters_after 3 with-AT)
A-and-T-went = of-turned.goes-out differ

-- find answers A absent right after it, though A stands and was a repeat until then: its one pair, A with itself, disagrees from now on
A-stood : Stands (65 ∷ []) (letters_after 3 with-AT)
A-stood = record { before = []; after = 84 ∷ []; whole = sym letters-AT }

pub A-absent : Replies (find (65 ∷ [])) turn_step.store (accepted false 0 1 0)
unfolding reported_mismatch first_mismatch mismatch_from mirror rule_in complement
A-absent = of-turned.old-absent differ (65 ∷ []) (letter 65) A-stood

-- and AT found, with the row that the ledger has from then on
AT-then : Stands (65 ∷ 84 ∷ []) (letters_after 3 with-AT)
AT-then = record { before = []; after = []; whole = sym letters-AT }

pub AT-right-after : Replies (find (65 ∷ 84 ∷ [])) turn_step.store (accepted true (row_after 0 3 (more with-AT (turn as_inverted)) (65 ∷ 84 ∷ [])) 0 0)
AT-right-after = of-turned.new-rows.found (65 ∷ 84 ∷ []) AT-repeat AT-then

-- the second turn leaves every byte, and AT in its row
pub second-leaves : second-step.store ≡ store_after start inverted
unfolding reading_number
second-leaves = ((of-second.turning as_inverted refl).in-force refl).0

AT-standing : Stands (65 ∷ 84 ∷ []) (letters_after 3 inverted)
unfolding inverted letters_after letters_step
AT-standing = AT-then

pub AT-kept : Kept (65 ∷ 84 ∷ []) (λ w. row_after 0 3 inverted w) (λ w. row_after 0 3 (more inverted (turn as_inverted)) w) (store_after start inverted) second-step.store
unfolding reading_step letters_step reading_number
AT-kept = of-second.kept (65 ∷ 84 ∷ []) AT-repeat AT-standing AT-repeat AT-standing

-- ---- T added at the right and taken back, after the turns: every byte and every answer as before

abbrev first : Step
first = step_of (add at_right 84) (store_after start again) nothing

abbrev second : Step
second = step_of (remove at_right) first.store nothing

first-accepted : refusal_in first.answer ≡ 0
unfolding EachCall with-ATT is_letter unpacked
first-accepted = (turned-claims.each.0.addition at_right 84 refl).accepted-if (rw letters-again refl)

pub taken-back-after-turns : Undone (store_after start again) 84 first second
unfolding store_after with-ATT
taken-back-after-turns =
    (claims-of as_plain again-run).undone at_right 84 first second refl (keeps-contract (add at_right 84) (store_after start again) nothing (stays-good as_plain again-run) tt) first-accepted refl
    (keeps-contract (remove at_right) first.store nothing (stays-good as_plain turned-run) tt)
