-- One more removal: what it does to the state, and the first point of the claim for it. Rests on what is proved of the bytes after a removal (`Removed` of transitions).
use Prim.Native.Nat.{ℕ, ◌<◌}
use mathlib.Core.Path.{◌≡◌, refl, sym, ap, ap₂, ◌∙◌, subst, subst₂}
use mathlib.Core.Bool.{Bool, true, false, cond, not}
use mathlib.Core.Logic.{◌⊎◌, ⊎_elim}
use mathlib.Core.List.{[], ◌∷◌}
use native.Mathlib.Omega.{arith}
use lib.ListN.{length}
use borrow.Author.Tests.{not-true}
use Rattle.palindromes.specs.Word.{Word}
use Rattle.palindromes.specs.Palindrome.{Palindrome}
use Rattle.palindromes.specs.Reading.{rule_in}
use Rattle.palindromes.specs.Place.{Stands, stands}
use Rattle.palindromes.specs.End.{End, removed, letter_at, longest_at}
use Rattle.palindromes.specs.Node.{spelt}
use Rattle.palindromes.specs.Refusal.{remove}
use Rattle.palindromes.proofs.Tests.{false-not-true}
use Rattle.palindromes.proofs.Words.{removed-empty, same_or_not}
use Rattle.palindromes.proofs.Change.{stands-removed}
use Rattle.palindromes.proofs.Places.{stands-is, stands-empty}
use Rattle.palindromes.proofs.NewIn.{longest-at, gone-in-removed, new-in-removed}
use Rattle.palindromes.proofs.Readings.{rule-inverse}
use Rattle.palindromes.proofs.Answers.{once-only}
use Rattle.store.specs.Layout.{used_in, letters_in}
use Rattle.store.specs.Good.{node_in, Good}
use Rattle.transitions.specs.Rows.{row_of}
use Rattle.transitions.specs.Removal.{longest_before, takes_out, after_removal}
use Rattle.transitions.proofs.Rows.{row-of, row-of-node}
use Rattle.transitions.proofs.Removed as Transitions-as-Removed
use Rattle.transitions.proofs.Removed.{removal}
use Rattle.outcome.specs.Reply.{Reply, refused_with, accepted}
use Rattle.outcome.specs.Outcome.{Lent, Outcome, outcome, accepted_outcome, refused_outcome, changed}
use Rattle.traces.specs.Claims.{Removed}
use Rattle.outcome.proofs.Replies.{reply-of-removed}
use Rattle.outcome.proofs.Refusals.{remove-empty, remove-accepted, carried-out, refused-out}
use Rattle.traces.proofs.State.{State, rule-is, size_is}
use Rattle.traces.proofs.Shared.{moved, number-zero, zero-first}

-- a row that is used after a removal was used before it, for the same repeat
kept-before : (e : End) (b : Word) → Transitions-as-Removed.Removed e b → (r : ℕ) → used_in (after_removal e b) r ≡ true → (used_in b r ≡ true) × (node_in (after_removal e b) r ≡ node_in b r)
kept-before e b f r u =
    (sym (f.other_row r (λ t q. false-not-true (f.gone-row t) (subst (λ (x : ℕ). used_in (after_removal e b) x ≡ true) q u))) ∙ u, f.nodes r u)

empty-or-some : (s : Word) → (s ≡ []) ⊎ (s ≡ [] → ⊥)
empty-or-some s = same_or_not s []

not-empty-length : (s : Word) → (s ≡ [] → ⊥) → 0 < length s
not-empty-length [] h = absurd (h refl)
not-empty-length (x ∷ s) h = omega arith

module _ (m k : ℕ) (s : Word) (row : Word → ℕ) (b : Word) (st : State m k s row b) where
  good : Good b
  good = st.good

  module _ (e : End) (l : Lent) where
    abbrev o : Outcome
    o = outcome (remove e) b l

    remove-carried : (s ≡ [] → ⊥) → o ≡ accepted_outcome (remove e) b l
    remove-carried h = carried-out (remove e) b l (remove-accepted b l e (λ z. h (sym st.letters ∙ z)))

    remove-refused : s ≡ [] → o ≡ refused_outcome 6 b l
    remove-refused h = refused-out (remove e) b l 5 (remove-empty b l e (st.letters ∙ h))

    abbrev u : Word
    u = longest_at (rule_in m) e s

    before-is : longest_before e b ≡ u
    unfolding longest_before
    before-is = ap₂ (λ (σ : ℕ → ℕ) (t : Word). longest_at σ e t) (rule-is st) st.letters

    takes-is : takes_out e b ≡ not (stands u (removed e s))
    unfolding takes_out
    takes-is = ap₂ (λ (x t : Word). not (stands x (removed e t))) before-is st.letters

    removed-facts : (s ≡ [] → ⊥) → Transitions-as-Removed.Removed e b
    removed-facts h = removal e good (omega (arith, (size_is st), not-empty-length s h))

    remove-reply : (s ≡ [] → ⊥) → o.reply ≡ accepted (takes_out e b) (cond (takes_out e b) (row_of b (spelt u)) 0) (letter_at e s) 0
    unfolding accepted_outcome changed
    remove-reply h =
        ap (λ (x : Outcome). x.reply) (remove-carried h)
        ∙ reply-of-removed (takes_out e b) (letter_at e (letters_in b)) (row_of b (spelt (longest_before e b)))
        ∙ ap₂ (λ (x t : Word). accepted (takes_out e b) (cond (takes_out e b) (row_of b (spelt x)) 0) (letter_at e t) 0) before-is st.letters

    pub remove-state : State m k (removed e s) row o.store
    unfolding accepted_outcome changed refused_outcome
    remove-state = ⊎_elim empty some (empty-or-some s)
      where
        empty : s ≡ [] → State m k (removed e s) row o.store
        empty h =
            subst₂ (λ (t x : Word). State m k t row x)
            (h ∙ sym (removed-empty e) ∙ ap (removed e) (sym h))
            (ap (λ (x : Outcome). x.store) (sym (remove-refused h)))
            st

        some : (s ≡ [] → ⊥) → State m k (removed e s) row o.store
        some h =
            let f = removed-facts h in
            let made : State m k (removed e s) row (after_removal e b) =
            record {
              good = f.good;
              capacity = f.capacity ∙ st.capacity;
              reading = f.reading ∙ st.reading;
              letters = f.letters ∙ ap (removed e) st.letters;
              rows = λ w p q.
                  let now-held = row-of-node f.good (spelt w) (rw (f.reading ∙ st.reading) p.symmetric, subst (Stands w) (sym (f.letters ∙ ap (removed e) st.letters)) q) in
                  let was = kept-before e b f (row_of (after_removal e b) (spelt w)) now-held.0 in
                  st.rows w p (stands-removed e s q) ∙ row-of good (row_of (after_removal e b) (spelt w)) (spelt w) was.0 (sym was.1 ∙ now-held.1);
              bytes = f.bytes st.bytes;
            } in
            subst (State m k (removed e s) row) (ap (λ (x : Outcome). x.store) (sym (remove-carried h))) made

    pub remove-claim : Removed m s row e o.reply
    unfolding accepted refused_outcome refused_with
    remove-claim =
        record {
          accepted-if = λ h. number-zero (takes_out e b) (cond (takes_out e b) (row_of b (spelt u)) 0) (letter_at e s) (remove-reply h);
          only_if = λ z h. omega (arith, ap (λ (x : Outcome). x.reply.number) (remove-refused h));
          goes-out = λ z. ap (λ (r : Reply). r.flag) (remove-reply (some z)) ∙ takes-is ∙ sym (once-only (rule_in m) (rule-inverse m) e s (some z));
          letter-is = λ z. ap (λ (r : Reply). r.first) (remove-reply (some z));
          moves = λ z.
              moved m (removed e s) s u o.reply.flag (ap (λ (r : Reply). r.flag) (remove-reply (some z)) ∙ takes-is)
              (gone-in-removed (rule_in m) (rule-inverse m) e s) (new-in-removed (rule_in m) e s);
          old_row = old_row;
          no_row = λ f. ⊎_elim (λ h. ap (λ (x : Outcome). x.reply.row) (remove-refused h)) (λ h. zero-first (takes_out e b) (row_of b (spelt u)) (letter_at e s) (remove-reply h) f) (empty-or-some s);
        }
      where
        some : o.reply.number ≡ 0 → s ≡ [] → ⊥
        some z h = omega (arith, ap (λ (x : Outcome). x.reply.number) (remove-refused h))

        old_row : o.reply.flag ≡ true → o.reply.row ≡ row u
        old_row f = ⊎_elim (λ h. absurd (false-not-true (ap (λ (x : Outcome). x.reply.flag) (remove-refused h)) f)) went (empty-or-some s)
          where
            went : (s ≡ [] → ⊥) → o.reply.row ≡ row u
            went h =
                let takes : takes_out e b ≡ true = sym (ap (λ (r : Reply). r.flag) (remove-reply h)) ∙ f in
                let held = longest-at (rule_in m) (rule-inverse m) e s in
                let missing : stands u (removed e s) ≡ false = not-true (stands u (removed e s)) (sym takes-is ∙ takes) in
                let whole : Palindrome (rule_in m) u =
                record { non-empty = λ z. false-not-true missing (stands-is u (removed e s) (subst (λ (x : Word). Stands x (removed e s)) (sym z) (stands-empty (removed e s)))); symmetric = held.0 } in
                ap (λ (r : Reply). r.row) (remove-reply h) ∙ ap (λ (t : Bool). cond t (row_of b (spelt u)) 0) takes ∙ sym (st.rows u whole held.1)
