-- The second point of the claim: what find, the row question and spell answer in a store whose state is known. Rests on `Refusals` and on the laws of rows.
use Prim.Native.Nat.{ℕ, ◌≤◌}
use mathlib.Core.Path.{◌≡◌, sym, ap, ap₂, ◌∙◌, subst, subst₂}
use mathlib.Core.Bool.{Bool, true, false, cond}
use mathlib.Core.List.{[], ◌∷◌}
use native.Mathlib.Omega.{arith}
use lib.ListN.{length}
use Rattle.palindromes.specs.Word.{Word, all_letters, member}
use Rattle.palindromes.specs.Palindrome.{Palindrome}
use Rattle.palindromes.specs.Mismatch.{reported_mismatch}
use Rattle.palindromes.specs.Reading.{rule_in}
use Rattle.palindromes.specs.Place.{Stands}
use Rattle.palindromes.specs.Record.{palindromes}
use Rattle.palindromes.specs.Node.{Node, imaginary, spelt, length_of, link_of, inner_of, spelling_of}
use Rattle.palindromes.specs.Refusal.{Question, ask, the_row, spell, find}
use Rattle.palindromes.proofs.Tests.{not-true-false}
use Rattle.palindromes.proofs.Mismatch.{mismatch-unreported}
use Rattle.palindromes.proofs.Palindromes.{palindromes-true, palindromes-is}
use Rattle.palindromes.proofs.Growth.{link-stands, inner-of}
use Rattle.palindromes.proofs.Longest.{longest-suffix}
use Rattle.eertree.specs.Covers.{NodeOf}
use Rattle.eertree.specs.Entries.{IsEertree}
use Rattle.eertree.proofs.Entries.{is-eertree}
use Rattle.eertree.proofs.Rows.{word_row, row-high}
use Rattle.store.specs.Layout.{used_in, letters_in}
use Rattle.store.specs.Good.{rule_of, table_in, node_in, Good}
use Rattle.store.proofs.Sizes.{used-below}
use Rattle.transitions.specs.Rows.{row_of}
use Rattle.transitions.proofs.Rows.{covers, row-of, row-of-node, row-of-imaginary, row-of-empty}
use Rattle.transitions.proofs.Letters.{letters-piece}
use Rattle.outcome.specs.Reply.{Reply, refused_with, accepted, twos_complement}
use Rattle.outcome.specs.Outcome.{Lent, Outcome, outcome, accepted_outcome, answer_to, lent_after, refused_outcome}
use Rattle.traces.specs.Claims.{Replies, Shown, number_of, Table}
use Rattle.outcome.proofs.Replies.{reply-of-found}
use Rattle.outcome.proofs.Told.{told}
use Rattle.outcome.proofs.Refusals.{find-accepted, row-accepted, row-free, spell-free, carried-out, refused-out}
use Rattle.traces.proofs.State.{State, rule-is}

-- DEMAND 2. The table of a good store is the eertree of its letters
pub good-eertree : {b : Word} → Good b → IsEertree (rule_of b) (letters_in b) (table_in b) (node_in b)
good-eertree g = is-eertree g.table

-- the nodes that a palindrome links to and holds inside are nodes of the same record
pub link-node : (m : ℕ) (w : Word) {s : Word} → Palindrome (rule_in m) w → Stands w s → NodeOf (rule_in m) s (link_of (rule_in m) (spelt w))
unfolding link_of
link-node m [] p h = tt
link-node m (x ∷ w) p h = ((longest-suffix (rule_in m) w).symmetric, link-stands (rule_in m) h)

pub inner-node : (m : ℕ) (w : Word) {s : Word} → Palindrome (rule_in m) w → Stands w s → NodeOf (rule_in m) s (inner_of (spelt w))
unfolding inner_of spelling_of
inner-node m [] p h = tt
inner-node m (x ∷ []) p h = tt
inner-node m (x ∷ y ∷ w) p h = inner-of (rule_in m) (x ∷ y ∷ w) p.symmetric h

module _ (m k : ℕ) (s : Word) (row : Word → ℕ) (b : Word) (st : State m k s row b) where
  good : Good b
  good = st.good

  -- what stands in the letters stands in the store's letters
  in-store : {w : Word} → Stands w s → Stands w (letters_in b)
  in-store {w} h = subst (Stands w) (sym st.letters) h

  out-store : {w : Word} → Stands w (letters_in b) → Stands w s
  out-store {w} h = subst (Stands w) st.letters h

  -- the row of a repeat is used and holds it
  pub row-holds : (w : Word) → Palindrome (rule_in m) w → Stands w s → (used_in b (row w) ≡ true) × (node_in b (row w) ≡ spelt w)
  row-holds w p h =
      subst (λ (r : ℕ). (used_in b r ≡ true) × (node_in b r ≡ spelt w)) (sym (st.rows w p h)) (row-of-node good (spelt w) (rw (rule-is st) p.symmetric, in-store h))

  -- the row of any node of the record
  pub number_is : (v : Node) → NodeOf (rule_in m) s v → number_of row v ≡ row_of b v
  unfolding number_of
  number_is imaginary n = sym (row-of-imaginary good)
  number_is (spelt []) n = sym (row-of-empty good)
  number_is (spelt (x ∷ w)) n = st.rows (x ∷ w) (record { non-empty = λ e. not-nil e; symmetric = n.0 }) n.1
    where
      not-nil : x ∷ w ≡ [] → ⊥
      not-nil e = let z : ◌≡◌ {A = ℕ} 0 1 = cc in omega arith

  -- a row from 2 on that no repeat has is free
  pub unheld : (r : ℕ) → 2 ≤ r → ((w : Word) → Palindrome (rule_in m) w → Stands w s → row w ≡ r → ⊥) → used_in b r ≡ false
  unheld r h n = not-true-false (used_in b r) held
    where
      held : used_in b r ≡ true → ⊥
      held u =
          let d = word_row (covers good) r u h in
          let p : Palindrome (rule_in m) d.0 = subst (λ (σ : ℕ → ℕ). Palindrome σ d.0) (rule-is st) d.2 in
          n d.0 p (out-store d.3) (st.rows d.0 p (out-store d.3) ∙ row-of good r (spelt d.0) u d.1)

  -- ---- the outcomes

  -- find and the row question, carried out: this answer, and neither store nor buffers change
  abbrev Unchanged : Reply → Lent → Outcome
  Unchanged r l = record { reply = r; store = b; lent = l }

  pub find-outcome : (w : Word) → Palindrome (rule_in m) w → Stands w s → (l : Lent) → outcome (ask (find w)) b l ≡ Unchanged (accepted true (row w) 0 0) l
  unfolding accepted_outcome answer_to lent_after
  find-outcome w p h l =
      let there : member w (palindromes (rule_of b) (letters_in b)) ≡ true = rw (rule-is st) (palindromes-is (rule_in m) w (letters_in b) p (in-store h)) in
      let none : reported_mismatch (rule_of b) w ≡ 0 = mismatch-unreported (rule_of b) w (rw (rule-is st) p.symmetric) in
      carried-out (ask (find w)) b l (find-accepted b l w p.non-empty (letters-piece (in-store h) good.letters))
      ∙ ap (λ (r : Reply). Unchanged r l)
      (reply-of-found (member w (palindromes (rule_of b) (letters_in b))) (row_of b (spelt w)) (reported_mismatch (rule_of b) w)
      ∙ ap₂ (λ (t : Bool) (r : ℕ). accepted t (cond t r 0) (reported_mismatch (rule_of b) w) 0) there (sym (st.rows w p h))
      ∙ ap (λ (n : ℕ). accepted true (row w) n 0) none)

  absent-outcome : (w : Word) → (w ≡ [] → ⊥) → all_letters w ≡ true → (Palindrome (rule_in m) w → Stands w s → ⊥) → (l : Lent)
      → outcome (ask (find w)) b l ≡ Unchanged (accepted false 0 (reported_mismatch (rule_in m) w) 0) l
  unfolding accepted_outcome answer_to lent_after
  absent-outcome w f g n l =
      let missing : member w (palindromes (rule_of b) (letters_in b)) ≡ false =
      not-true-false (member w (palindromes (rule_of b) (letters_in b))) (λ e. let h = palindromes-true (rule_of b) w (letters_in b) e in n (rw (rule-is st) at h.0) (out-store h.1)) in
      carried-out (ask (find w)) b l (find-accepted b l w f g)
      ∙ ap (λ (r : Reply). Unchanged r l)
      (reply-of-found (member w (palindromes (rule_of b) (letters_in b))) (row_of b (spelt w)) (reported_mismatch (rule_of b) w)
      ∙ ap₂ (λ (t : Bool) (σ : ℕ → ℕ). accepted t (cond t (row_of b (spelt w)) 0) (reported_mismatch σ w) 0) missing (rule-is st))

  pub row-outcome : (w : Word) → Palindrome (rule_in m) w → Stands w s → (l : Lent)
      → outcome (ask (the_row (row w))) b l ≡ Unchanged (accepted false (number_of row (link_of (rule_in m) (spelt w))) (length w) (number_of row (inner_of (spelt w)))) l
  unfolding accepted_outcome answer_to lent_after twos_complement length_of
  row-outcome w p h l =
      let held = row-holds w p h in
      carried-out (ask (the_row (row w))) b l (row-accepted b l (row w) held.0)
      ∙ ap (λ (r : Reply). Unchanged r l)
      (ap (λ (σ : ℕ → ℕ). accepted false (row_of b (link_of σ (node_in b (row w)))) (twos_complement (length_of (node_in b (row w)))) (row_of b (inner_of (node_in b (row w))))) (rule-is st)
      ∙ ap (λ (v : Node). accepted false (row_of b (link_of (rule_in m) v)) (twos_complement (length_of v)) (row_of b (inner_of v))) held.1
      ∙ ap₂ (λ (x y : ℕ). accepted false x (length w) y) (sym (number_is (link_of (rule_in m) (spelt w)) (link-node m w p h))) (sym (number_is (inner_of (spelt w)) (inner-node m w p h))))

  -- ---- the answers

  -- a question whose outcome on this store has the reply r
  pub replies : (q : Question) (r : Reply) → ((l : Lent) → (outcome (ask q) b l).reply ≡ r) → Replies q b r
  replies q r f l a b' l' p = (told good p).reply ∙ f l

  no-row-reply : (r : ℕ) → used_in b r ≡ false → Replies (the_row r) b (refused_with 7)
  unfolding refused_outcome
  no-row-reply r u = replies (the_row r) (refused_with 7) (λ l. ap (λ (x : Outcome). x.reply) (refused-out (ask (the_row r)) b l 6 (row-free b l r u)))

  no-spelling-reply : (r : ℕ) → used_in b r ≡ false → Replies (spell r) b (refused_with 7)
  unfolding refused_outcome
  no-spelling-reply r u = replies (spell r) (refused_with 7) (λ l. ap (λ (x : Outcome). x.reply) (refused-out (ask (spell r)) b l 6 (spell-free b l r u)))

  pub table : Table m k s row b
  table =
      record {
        found = λ w p h. replies (find w) _ (λ l. ap (λ (x : Outcome). x.reply) (find-outcome w p h l));
        in-range = λ w p h. let held = row-holds w p h in (row-high (covers good) (row w) held.1 p.non-empty, omega (arith, used-below b (row w) held.0, st.capacity));
        alone = λ v w p h q g e. same v w (row-holds v p h).1 (row-holds w q g).1 e;
        fields = λ w p h. replies (the_row (row w)) _ (λ l. ap (λ (x : Outcome). x.reply) (row-outcome w p h l));
        absent = λ w f g n. replies (find w) _ (λ l. ap (λ (x : Outcome). x.reply) (absent-outcome w f g n l));
        no_row = λ r h n. no-row-reply r (unheld r h n);
        no-spelling = λ r h n. no-spelling-reply r (unheld r h n);
      }
    where
      same : (v w : Word) → node_in b (row v) ≡ spelt v → node_in b (row w) ≡ spelt w → row v ≡ row w → v ≡ w
      same v w p q e = cc

  -- what the store shows
  pub shown : Shown m k s b
  shown =
      record {
        good = good;
        capacity = st.capacity;
        reading = st.reading;
        letters = st.letters;
        table = subst₂ (λ (σ : ℕ → ℕ) (t : Word). IsEertree σ t (table_in b) (node_in b)) (rule-is st) st.letters (good-eertree good);
      }
