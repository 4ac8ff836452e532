-- The third point: an addition and at once the removal at the same end. Rests on `undone` and `takes_back` of transitions.
use Prim.Native.Nat.{ℕ, ◌<◌}
use mathlib.Core.Path.{◌≡◌, refl, sym, ap, ap₂, ◌∙◌, subst}
use mathlib.Core.Bool.{Bool, true, false, cond, ◌&&◌}
use native.Mathlib.Omega.{arith}
use lib.Dec.{ltb}
use lib.ListN.{length}
use borrow.Author.Tests.{ltb-true}
use Rattle.palindromes.specs.Word.{Word, is_letter}
use Rattle.palindromes.specs.Reading.{rule_in}
use Rattle.palindromes.specs.End.{End, added, letter_at, longest_at}
use Rattle.palindromes.specs.Node.{spelt}
use Rattle.palindromes.specs.Refusal.{add, remove}
use Rattle.palindromes.proofs.Tests.{both_true}
use Rattle.palindromes.proofs.Words.{added-not-empty, letter-added}
use Rattle.store.specs.Layout.{capacity_in, size_in, letters_in}
use Rattle.store.specs.Good.{rule_of, Good}
use Rattle.transitions.specs.Rows.{row_of, free_row}
use Rattle.transitions.specs.Addition.{longest_after, brings_in, after_addition}
use Rattle.transitions.specs.Removal.{longest_before, takes_out, after_removal}
use Rattle.transitions.proofs.Rows.{row-of}
use Rattle.transitions.proofs.Added as Transitions-as-Added
use Rattle.transitions.proofs.Undone.{undone, takes_back}
use Rattle.palindromes.specs.SearchSteps.{reported_steps}
use Rattle.outcome.specs.Reply.{Reply, accepted}
use Rattle.outcome.specs.Outcome.{Lent, Outcome, outcome, accepted_outcome, changed}
use Rattle.outcome.proofs.Replies.{reply-of-removed}
use Rattle.outcome.proofs.Refusals.{remove-accepted, carried-out}
use Rattle.traces.proofs.State.{State, size_is}
use Rattle.traces.proofs.Addition.{add-claim, room, facts, store_is, reply-is}

-- the addition's outcome, and that of the removal at once after it
pub record Back (b : Word) (c : ℕ) (first second : Outcome) : Type 0 where
  pub accepted-too : second.reply.number ≡ 0
  pub same-letter : second.reply.first ≡ c
  pub same_flag : second.reply.flag ≡ first.reply.flag
  pub same_row : second.reply.row ≡ first.reply.row
  pub same_bytes : second.store ≡ b

module _ (m k : ℕ) (s : Word) (row : Word → ℕ) (b : Word) (st : State m k s row b) where
  module _ (e : End) (c : ℕ) (l l' : Lent) (z : (outcome (add e c) b l).reply.number ≡ 0) where
    abbrev o : Outcome
    o = outcome (add e c) b l

    abbrev o' : Outcome
    o' = outcome (remove e) o.store l'

    roomy : (is_letter c && ltb (length s) k) ≡ true
    roomy = (add-claim m k s row b st e c l).only_if z

    in-room : room m k s row b st e c l ≡ true
    in-room = roomy

    made : Transitions-as-Added.Added e c b
    made = facts m k s row b st e c l in-room

    stored : o.store ≡ after_addition e c b
    stored = store_is m k s row b st e c l in-room

    valid : is_letter c ≡ true
    valid = (both_true (is_letter c) (ltb (length s) k) roomy).0

    below : size_in b < capacity_in b
    below = omega (arith, ltb-true (length s) k (both_true (is_letter c) (ltb (length s) k) roomy).1, st.capacity, size_is st)

    letters-now : letters_in o.store ≡ added e c s
    letters-now = ap letters_in stored ∙ made.letters ∙ ap (added e c) st.letters

    pub good-now : Good o.store
    good-now = subst Good (sym stored) made.good

    removed-out : o' ≡ accepted_outcome (remove e) o.store l'
    removed-out = carried-out (remove e) o.store l' (remove-accepted o.store l' e (λ n. added-not-empty e c s (sym letters-now ∙ n)))

    flag-now : takes_out e o.store ≡ brings_in e c b
    flag-now = ap (takes_out e) stored ∙ takes_back e c st.good valid below

    first-reply : o.reply ≡ accepted (brings_in e c b) (cond (brings_in e c b) (free_row b) 0) (reported_steps m e c s) 0
    first-reply = reply-is m k s row b st e c l in-room

    second-reply : o'.reply ≡ accepted (takes_out e o.store) (cond (takes_out e o.store) (row_of o.store (spelt (longest_before e o.store))) 0) (letter_at e (letters_in o.store)) 0
    unfolding accepted_outcome changed
    second-reply =
        ap (λ (x : Outcome). x.reply) removed-out
        ∙ reply-of-removed (takes_out e o.store) (letter_at e (letters_in o.store)) (row_of o.store (spelt (longest_before e o.store)))

    -- the row that goes is the one that came
    row_now_lem : (t : Bool) → brings_in e c b ≡ t → cond t (row_of o.store (spelt (longest_before e o.store))) 0 ≡ cond t (free_row b) 0
    unfolding longest_before longest_after
    row_now_lem true h =
        let held = made.new_row h in
        ap (λ (x : Word). row_of x (spelt (longest_at (rule_of x) e (letters_in x)))) stored
        ∙ ap₂ (λ (r : ℕ) (t : Word). row_of (after_addition e c b) (spelt (longest_at (rule_in r) e t))) made.reading made.letters
        ∙ row-of made.good (free_row b) (spelt (longest_after e c b)) held.0 held.1
    row_now_lem false h = refl

    pub undone-claim : Back b c o o'
    unfolding accepted accepted_outcome changed
    undone-claim =
        record {
          accepted-too = ap (λ (r : Reply). r.number) second-reply;
          same-letter = ap (λ (r : Reply). r.first) second-reply ∙ ap (letter_at e) letters-now ∙ letter-added e c s;
          same_flag = ap (λ (r : Reply). r.flag) second-reply ∙ flag-now ∙ ap (λ (r : Reply). r.flag) (sym first-reply);
          same_row = ap (λ (r : Reply). r.row) second-reply
              ∙ ap (λ (t : Bool). cond t (row_of o.store (spelt (longest_before e o.store))) 0) flag-now
              ∙ row_now_lem (brings_in e c b) refl
              ∙ ap (λ (r : Reply). r.row) (sym first-reply);
          same_bytes = ap (λ (x : Outcome). x.store) removed-out ∙ ap (after_removal e) stored ∙ undone e c st.good valid below st.bytes;
        }
