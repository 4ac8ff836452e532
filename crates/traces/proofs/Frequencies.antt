-- How often repeats stand, after every list of calls: `frequencies-after`. Rests on the state that the theorem about lists carries, and on `Occurrences` of the outcomes.
use Prim.Native.Nat.{ℕ, ◌<◌}
use native.Mathlib.Decide.{dec_lt}
use native.Mathlib.Omega.{arith}
use mathlib.Core.Path.{◌≡◌, ap, ◌∙◌}
use mathlib.Core.Bool.{false}
use mathlib.Core.List.{List}
use Rattle.palindromes.specs.Word.{Word}
use Rattle.palindromes.specs.Palindrome.{Palindrome}
use Rattle.palindromes.specs.Reading.{Reading, reading_number, rule_in}
use Rattle.palindromes.specs.Place.{Stands, frequency}
use Rattle.palindromes.specs.Occurrences.{occurrences_by_row, occurrences_by_end}
use Rattle.palindromes.specs.Node.{Node, spelling_of}
use Rattle.palindromes.specs.Refusal.{the_frequency, the_occurrences, ask, refusal}
use Rattle.eertree.proofs.Rows.{row-high}
use Rattle.store.specs.Layout.{letters_in}
use Rattle.store.specs.Good.{rule_of}
use Rattle.transitions.specs.Bytes.{Bytes}
use Rattle.transitions.proofs.Rows.{covers}
use Rattle.outcome.specs.Reply.{accepted, refused_with, refusal_in}
use Rattle.outcome.specs.Outcome.{Lent, Outcome, view_in, accepted_outcome, answer_to, refused_outcome}
use Rattle.outcome.specs.Promise.{Promise, OpeningPromise}
use Rattle.outcome.proofs.Refusals.{frequency-root, frequency-free, frequency-accepted, carried-out, refused-out}
use Rattle.outcome.proofs.Occurrences.{occurrences-read, occurrences-equal}
use Rattle.traces.specs.Run.{Step, store_after, Run, letters_after, reading_after, row_after}
use Rattle.traces.specs.Claims.{Replies}
use Rattle.traces.specs.Frequencies.{BothSums, Frequencies}
use Rattle.traces.proofs.State.{State, rule-is}
use Rattle.traces.proofs.Table.{row-holds, unheld, replies}
use Rattle.traces.proofs.Theorem.{state-after}

module _ (m k : ℕ) (s : Word) (row : Word → ℕ) (b : Word) (st : State m k s row b) where
  -- a repeat's row
  each : (w : Word) → Palindrome (rule_in m) w → Stands w s → Replies (the_frequency (row w)) b (accepted false 0 (frequency w s) 0)
  unfolding accepted_outcome answer_to spelling_of
  each w p h =
      let held = row-holds m k s row b st w p h in
      let high = row-high (covers st.good) (row w) held.1 p.non-empty in
      replies m k s row b st (the_frequency (row w)) (accepted false 0 (frequency w s) 0) λ l.
      ap (λ (o : Outcome). o.reply) (carried-out (ask (the_frequency (row w))) b l (frequency-accepted b l (row w) high held.0))
      ∙ ap (λ (v : Node). accepted false 0 (frequency (spelling_of v) (letters_in b)) 0) held.1
      ∙ ap (λ (t : Word). accepted false 0 (frequency w t) 0) st.letters

  -- any other number
  none : (r : ℕ) → ((w : Word) → Palindrome (rule_in m) w → Stands w s → row w ≡ r → ⊥) → Replies (the_frequency r) b (refused_with 7)
  unfolding refused_outcome
  none r n = replies m k s row b st (the_frequency r) (refused_with 7) λ l. ap (λ (o : Outcome). o.reply) (refused-out (ask (the_frequency r)) b l 6 (go l (dec_lt r 2)))
    where
      go : (l : Lent) → Dec (r < 2) → refusal (rule_of b) (view_in b l) (ask (the_frequency r)) ≡ 7
      go l (yes h) = frequency-root b l r h
      go l (no h) = frequency-free b l r (omega arith) (unheld m k s row b st r (omega arith) n)

  -- both sums
  sums : (l : Lent) (a : ℕ) (b' : Word) (l' : Lent) → Promise (ask the_occurrences) b l a b' l' → BothSums m s a
  sums l a b' l' p =
      let r = occurrences-read st.good p in
      let e = occurrences-equal st.good p in
      record {
        carried-out = r.0;
        no_flag = r.1;
        by_rows = r.2 ∙ ap (λ (σ : ℕ → ℕ). occurrences_by_row σ (letters_in b)) (rule-is st) ∙ ap (occurrences_by_row (rule_in m)) st.letters;
        by-ends = r.3 ∙ ap (λ (σ : ℕ → ℕ). occurrences_by_end σ (letters_in b)) (rule-is st) ∙ ap (occurrences_by_end (rule_in m)) st.letters;
        equal = e.0;
        most = e.1;
      }

-- 02 (iii). For either reading, every capacity and every lent store on which an opening answers 0, and every list of calls that follows, each of which keeps the contract of its exported function
module _ (way : Reading) (k : ℕ) (b₀ : Word) (h : Bytes b₀) (a : ℕ) (b : Word) (p : OpeningPromise way k b₀ a b) (z : refusal_in a ≡ 0) where
  pub frequencies-after : {xs : List Step} → Run b xs → Frequencies (reading_after (reading_number way) xs) (letters_after k xs) (λ w. row_after (reading_number way) k xs w) (store_after b xs)
  frequencies-after {xs} r =
      let st = state-after way k b₀ h a b p z r in
      let m = reading_after (reading_number way) xs in
      let row : Word → ℕ = λ w. row_after (reading_number way) k xs w in
      record {
        each = each m k (letters_after k xs) row (store_after b xs) st;
        no_row = none m k (letters_after k xs) row (store_after b xs) st;
        sums = sums m k (letters_after k xs) row (store_after b xs) st;
      }
