-- Every question after every list of calls: `questions-after`. What a row of the store holds is what the rows of the repeats say (`held-is`); so the
-- table of numbers sees the same (`view-is`), and each question answers and leaves the same (`same-answers`). Rests on the state that the theorem about
-- lists carries, and on `Told` of the outcomes.
use Prim.Native.Nat.{ℕ, zero, suc}
use native.Mathlib.Omega.{arith}
use mathlib.Core.Path.{◌≡◌, refl, sym, ap, ap₂, ◌∙◌, subst, subst₂, fun_ext}
use mathlib.Core.Bool.{Bool, true, false, cond}
use mathlib.Core.Logic.{⊎_elim}
use mathlib.Core.Option.{Option, none, some}
use mathlib.Core.List.{List, [], ◌∷◌}
use lib.Dec.{eqb}
use lib.ListN.{length}
use borrow.Author.Tests.{eqb-true, eqb-false}
use Rattle.palindromes.specs.Word.{Word, member, same_word}
use Rattle.palindromes.specs.Palindrome.{Palindrome}
use Rattle.palindromes.specs.Mismatch.{reported_mismatch}
use Rattle.palindromes.specs.Reading.{Reading, reading_number, rule_in}
use Rattle.palindromes.specs.Place.{Stands, frequency, stands_once}
use Rattle.palindromes.specs.Record.{palindromes}
use Rattle.palindromes.specs.End.{longest_at}
use Rattle.palindromes.specs.Node.{Node, spelt, length_of, link_of, inner_of, spelling_of}
use Rattle.palindromes.specs.Refusal.{Question, the_length, the_count, the_longest, the_longest_length, the_occurrences, page, the_minimal_unique, the_pieces}
use Rattle.palindromes.specs.Refusal.{the_longest_at, the_letter, the_row, the_frequency, spell, find, list, mark, View, ask, refusal}
use Rattle.palindromes.proofs.Tests.{false-not-true, same_true}
use Rattle.palindromes.proofs.Lists.{either_true, not-in-nil, member-cons, member-first, member-later}
use Rattle.palindromes.proofs.NewIn.{longest-at}
use Rattle.palindromes.proofs.Palindromes.{palindromes-true, palindromes-is}
use Rattle.palindromes.proofs.Readings.{rule-inverse}
use Rattle.eertree.specs.Covers.{NodeOf}
use Rattle.eertree.proofs.Rows.{word_row}
use Rattle.store.specs.Layout.{link_in, inner_in, used_in, letters_in}
use Rattle.store.specs.Good.{rule_of, node_in}
use Rattle.transitions.specs.Removal.{longest_before}
use Rattle.transitions.specs.Rows.{row_of}
use Rattle.transitions.specs.Bytes.{Bytes}
use Rattle.transitions.proofs.Rows.{covers, row-of}
use Rattle.outcome.specs.Reply.{Answer, answer, answered, refusal_in, twos_complement, unpacked}
use Rattle.outcome.specs.Answers.{found_of, found_answer}
use Rattle.outcome.specs.Outcome.{Lent, Outcome, view_in, outcome, accepted_outcome, answer_to, lent_after, refused_outcome, written}
use Rattle.outcome.specs.Promise.{lending, Promise, OpeningPromise}
use Rattle.outcome.proofs.Refusals.{row-used, frequency-row, spell-used, carried-out, refused-out}
use Rattle.outcome.proofs.Told.{told}
use Rattle.traces.specs.Run.{Step, store_after, Run, letters_after, reading_after, row_after}
use Rattle.traces.specs.Claims.{number_of}
use Rattle.traces.specs.Questions.{Contents, answer_from, lent_from, word_of_row, held_at, node_or, contents_after, view_after, question_outcome, question_after, Questions}
use Rattle.traces.proofs.State.{State, rule-is}
use Rattle.traces.proofs.Table.{row-holds, number_is}
use Rattle.traces.proofs.Theorem.{state-after}

-- ---- the answers from a store's contents

-- what a store's questions are about
abbrev contents_in : Word → Contents
contents_in b = record { rule = rule_of b; letters = letters_in b; row_for = λ v. row_of b v; node = λ r. node_in b r }

-- what a store answers follows from them alone
from-contents : (q : Question) (b : Word) (l : Lent) → (answer_to q b ≡ answer_from q (contents_in b)) × (lent_after q b l ≡ lent_from q (contents_in b) l)
unfolding answer_to answer_from lent_after lent_from longest_before
from-contents the_length b l = (refl, refl)
from-contents the_count b l = (refl, refl)
from-contents the_longest b l = (refl, refl)
from-contents the_longest_length b l = (refl, refl)
from-contents the_occurrences b l = (refl, refl)
from-contents page b l = (refl, refl)
from-contents the_minimal_unique b l = (refl, refl)
from-contents the_pieces b l = (refl, refl)
from-contents (the_longest_at e) b l = (refl, refl)
from-contents (the_letter i) b l = (refl, refl)
from-contents (the_row r) b l = (refl, refl)
from-contents (the_frequency r) b l = (refl, refl)
from-contents (spell r) b l = (refl, refl)
from-contents (find p) b l = (refl, refl)
from-contents (list name) b l = (refl, refl)
from-contents (mark name sheet) b l = (refl, refl)

-- a question leaves the store
store-stays : (n : ℕ) (q : Question) (c : Contents) (b : Word) (l : Lent) → (question_outcome n q c b l).store ≡ b
unfolding question_outcome refused_outcome
store-stays zero q c b l = refl
store-stays (suc n) q c b l = refl

-- ---- the search for a row

-- a word of the list that has the row, and is the only one of it
word-found : (row : Word → ℕ) (r : ℕ) (w : Word) → row w ≡ r → (ws : List Word) → member w ws ≡ true
    → ((v : Word) → member v ws ≡ true → row v ≡ r → v ≡ w) → word_of_row row r ws ≡ some (spelt w)
unfolding word_of_row
word-found row r w e [] m u = absurd (false-not-true (not-in-nil w) m)
word-found row r w e (x ∷ ws) m u = go (λ i. word-found row r w e ws i (λ v j. u v (member-later v x ws j))) (eqb (row x) r) refl
  where
    later : (row x ≡ r → ⊥) → member w ws ≡ true
    later n =
        ⊎_elim (λ s. absurd (n (ap row (sym (same_true w x s)) ∙ e))) (λ i. i) (either_true (same_word w x) (member w ws) (sym (member-cons w x ws) ∙ m))

    go : (member w ws ≡ true → word_of_row row r ws ≡ some (spelt w)) → (t : Bool) → eqb (row x) r ≡ t
        → cond t (some (spelt x)) (word_of_row row r ws) ≡ some (spelt w)
    go ih true t = ap (λ (v : Word). some (spelt v)) (u x (member-first x ws) (eqb-true (row x) r t))
    go ih false t = ih (later (eqb-false (row x) r t))

-- no word of the list has it
none_found : (row : Word → ℕ) (r : ℕ) (ws : List Word) → ((v : Word) → member v ws ≡ true → row v ≡ r → ⊥) → word_of_row row r ws ≡ none
unfolding word_of_row
none_found row r [] n = refl
none_found row r (x ∷ ws) n = go (none_found row r ws (λ v i. n v (member-later v x ws i))) (eqb (row x) r) refl
  where
    go : word_of_row row r ws ≡ none → (t : Bool) → eqb (row x) r ≡ t → cond t (some (spelt x)) (word_of_row row r ws) ≡ none
    go ih true t = absurd (n x (member-first x ws) (eqb-true (row x) r t))
    go ih false t = ih

module _ (m k : ℕ) (s : Word) (row : Word → ℕ) (b : Word) (st : State m k s row b) where
  -- ---- what each row holds

  -- a word of the list is a repeat, and its row is used and holds it
  listed-holds : (v : Word) → member v (palindromes (rule_in m) s) ≡ true → (used_in b (row v) ≡ true) × (node_in b (row v) ≡ spelt v)
  listed-holds v i = let p = palindromes-true (rule_in m) v s i in row-holds m k s row b st v p.0 p.1

  -- a used row that is no root, and a free one
  held-used : (r : ℕ) (w : Word) → Palindrome (rule_in m) w → Stands w s → row w ≡ r → node_in b r ≡ spelt w
      → word_of_row row r (palindromes (rule_in m) s) ≡ some (spelt w)
  held-used r w p h e n = word-found row r w e (palindromes (rule_in m) s) (palindromes-is (rule_in m) w s p h) only
    where
      only : (v : Word) → member v (palindromes (rule_in m) s) ≡ true → row v ≡ r → v ≡ w
      only v i f = let same : spelt v ≡ spelt w = sym (listed-holds v i).1 ∙ ap (node_in b) f ∙ n in cc

  held-free : (r : ℕ) → used_in b r ≡ false → word_of_row row r (palindromes (rule_in m) s) ≡ none
  held-free r u = none_found row r (palindromes (rule_in m) s) λ v i e.
      false-not-true u (subst (λ (x : ℕ). used_in b x ≡ true) e (listed-holds v i).0)

  abbrev held_in : ℕ → Option Node
  held_in r = cond (used_in b r) (some (node_in b r)) none

  held-is : (r : ℕ) → held_in r ≡ held_at m s row r
  unfolding held_at
  held-is zero = let z = st.good.table.row_zero in ap₂ (λ (t : Bool) (v : Node). cond t (some v) none) z.0 z.1
  held-is (suc zero) = let z = st.good.table.row_one in ap₂ (λ (t : Bool) (v : Node). cond t (some v) none) z.0 z.1
  held-is (suc (suc r)) = go (used_in b (suc (suc r))) refl
    where
      go : (t : Bool) → used_in b (suc (suc r)) ≡ t → held_in (suc (suc r)) ≡ word_of_row row (suc (suc r)) (palindromes (rule_in m) s)
      go true u =
          let d = word_row (covers st.good) (suc (suc r)) u (omega arith) in
          let p : Palindrome (rule_in m) d.0 = subst (λ (σ : ℕ → ℕ). Palindrome σ d.0) (rule-is st) d.2 in
          let h : Stands d.0 s = subst (Stands d.0) st.letters d.3 in
          let e = st.rows d.0 p h ∙ row-of st.good (suc (suc r)) (spelt d.0) u d.1 in
          ap₂ (λ (t : Bool) (v : Node). cond t (some v) none) u d.1 ∙ sym (held-used (suc (suc r)) d.0 p h e d.1)
      go false u = ap (λ (t : Bool). cond t (some (node_in b (suc (suc r)))) none) u ∙ sym (held-free (suc (suc r)) u)

  node-held : (r : ℕ) → used_in b r ≡ true → node_in b r ≡ node_or (held_at m s row r)
  node-held r u = sym (ap (λ (t : Bool). node_or (cond t (some (node_in b r)) none)) u) ∙ ap node_or (held-is r)

  -- ---- what the table of numbers sees

  abbrev seen : Lent → ℕ → ℕ → Word → (ℕ → Option Node) → View
  seen l n i t f =
      record { size = length b; scratch = length l.scratch; out = length l.out; good = true; capacity = n; reading = i; letters = t; row = f }

  view-is : (l : Lent) → view_in b l ≡ view_after m k s row b l
  unfolding view_in
  view-is l =
      ap₂ (λ (n i : ℕ). seen l n i (letters_in b) held_in) st.capacity st.reading
      ∙ ap₂ (λ (t : Word) (f : ℕ → Option Node). seen l k m t f) st.letters (fun_ext held-is)

  number_same : (q : Question) (l : Lent) → refusal (rule_of b) (view_in b l) (ask q) ≡ refusal (rule_in m) (view_after m k s row b l) (ask q)
  number_same q l = ap₂ (λ (σ : ℕ → ℕ) (v : View). refusal σ v (ask q)) (rule-is st) (view-is l)

  -- ---- what each question answers and leaves

  -- the row of a node of the record
  row_is : (v : Node) → NodeOf (rule_of b) (letters_in b) v → row_of b v ≡ number_of row v
  row_is v n = sym (number_is m k s row b st v (subst₂ (λ (σ : ℕ → ℕ) (t : Word). NodeOf σ t v) (rule-is st) st.letters n))

  -- the store's contents with the rule and the letters that follow from the list
  abbrev half : Contents
  half = record { rule = rule_in m; letters = s; row_for = λ v. row_of b v; node = λ r. node_in b r }

  half_is : contents_in b ≡ half
  half_is = ap₂ (λ (σ : ℕ → ℕ) (t : Word). record { rule = σ; letters = t; row_for = λ v. row_of b v; node = λ r. node_in b r }) (rule-is st) st.letters

  -- the rows that the row question answers for a used row
  linked-row : (r : ℕ) → used_in b r ≡ true → row_of b (link_of (rule_in m) (node_in b r)) ≡ number_of row (link_of (rule_in m) (node_in b r))
  linked-row r u =
      let c = covers st.good in
      let n = subst (NodeOf (rule_of b) (letters_in b)) (c.link-is r u).1 (c.each_row (link_in b r) (c.link-is r u).0) in
      subst (λ (σ : ℕ → ℕ). row_of b (link_of σ (node_in b r)) ≡ number_of row (link_of σ (node_in b r))) (rule-is st) (row_is (link_of (rule_of b) (node_in b r)) n)

  inner-row : (r : ℕ) → used_in b r ≡ true → row_of b (inner_of (node_in b r)) ≡ number_of row (inner_of (node_in b r))
  inner-row r u =
      let c = covers st.good in
      row_is (inner_of (node_in b r)) (subst (NodeOf (rule_of b) (letters_in b)) (c.inner-is r u).1 (c.each_row (inner_in b r) (c.inner-is r u).0))

  -- find answers a row for a repeat alone
  found-same : (p : Word) (t : Bool) → member p (palindromes (rule_in m) s) ≡ t → (n : ℕ)
      → found_answer (found_of t (row_of b (spelt p)) n) ≡ found_answer (found_of t (number_of row (spelt p)) n)
  found-same p true i n =
      let q = palindromes-true (rule_in m) p s i in
      ap (λ (r : ℕ). found_answer (found_of true r n)) (sym (number_is m k s row b st (spelt p) (q.0.symmetric, q.1)))
  found-same p false i n = refl

  abbrev Same : Question → Lent → Type 0
  Same q l = (answer_from q half ≡ answer_from q (contents_after m s row)) × (lent_from q half l ≡ lent_from q (contents_after m s row) l)

  same-answers : (q : Question) (l : Lent) → refusal (rule_of b) (view_in b l) (ask q) ≡ 0 → Same q l
  unfolding answer_from lent_from
  same-answers the_length l z = (refl, refl)
  same-answers the_count l z = (refl, refl)
  same-answers the_longest l z = (refl, refl)
  same-answers the_longest_length l z = (refl, refl)
  same-answers the_occurrences l z = (refl, refl)
  same-answers page l z = (refl, refl)
  same-answers the_minimal_unique l z = (refl, refl)
  same-answers the_pieces l z = (refl, refl)
  same-answers (the_longest_at e) l z =
      let w = longest_at (rule_in m) e s in
      (ap (λ (r : ℕ). answer (stands_once w s) r 0 0) (sym (number_is m k s row b st (spelt w) (longest-at (rule_in m) (rule-inverse m) e s))), refl)
  same-answers (the_letter i) l z = (refl, refl)
  same-answers (the_row r) l z =
      let u = row-used b l r z in
      let fields : (ℕ → ℕ → Node → Answer) = λ x y v. answer false x (twos_complement (length_of v)) y in (
        ap₂ (λ (x y : ℕ). fields x y (node_in b r)) (linked-row r u) (inner-row r u)
            ∙ ap (λ (v : Node). fields (number_of row (link_of (rule_in m) v)) (number_of row (inner_of v)) v) (node-held r u),
        refl,
      )
  same-answers (the_frequency r) l z = (ap (λ (v : Node). answer false 0 (frequency (spelling_of v) s) 0) (node-held r (frequency-row b l r z).1), refl)
  same-answers (spell r) l z =
      let e = node-held r (spell-used b l r z) in
      (ap (λ (v : Node). answer false 0 (length (spelling_of v)) 0) e, ap (λ (v : Node). lending l.scratch (written (spelling_of v) l.out)) e)
  same-answers (find p) l z = (found-same p (member p (palindromes (rule_in m) s)) refl (reported_mismatch (rule_in m) p), refl)
  same-answers (list name) l z = (refl, refl)
  same-answers (mark name sheet) l z = (refl, refl)

  -- ---- what it comes to

  same_outcome : (q : Question) (l : Lent) → outcome (ask q) b l ≡ question_after m k s row b q l
  unfolding accepted_outcome question_outcome
  same_outcome q l = go (refusal (rule_of b) (view_in b l) (ask q)) refl
    where
      after : (n : ℕ) → refusal (rule_of b) (view_in b l) (ask q) ≡ n → question_outcome n q (contents_after m s row) b l ≡ question_after m k s row b q l
      after n e = ap (λ (i : ℕ). question_outcome i q (contents_after m s row) b l) (sym e ∙ number_same q l)

      left : Answer → Lent → Outcome
      left x y = record { reply = answered x; store = b; lent = y }

      go : (n : ℕ) → refusal (rule_of b) (view_in b l) (ask q) ≡ n → outcome (ask q) b l ≡ question_after m k s row b q l
      go zero e =
          let same = same-answers q l e in
          let from = from-contents q b l in
          carried-out (ask q) b l e
          ∙ ap₂ left from.0 from.1
          ∙ ap (λ (c : Contents). left (answer_from q c) (lent_from q c l)) half_is
          ∙ ap₂ left same.0 same.1
          ∙ after zero e
      go (suc n) e = refused-out (ask q) b l n e ∙ after (suc n) e

  question-after : (q : Question) (l : Lent) (a : ℕ) (b' : Word) (l' : Lent) → Promise (ask q) b l a b' l'
      → let o = question_after m k s row b q l in
      (unpacked a ≡ o.reply) × (b' ≡ b) × (l' ≡ o.lent)
  question-after q l a b' l' p =
      let t = told st.good p in
      let o = same_outcome q l in (
        t.reply ∙ ap (λ (x : Outcome). x.reply) o,
        t.store ∙ ap (λ (x : Outcome). x.store) o ∙ store-stays (refusal (rule_in m) (view_after m k s row b l) (ask q)) q (contents_after m s row) b l,
        t.lent ∙ ap (λ (x : Outcome). x.lent) o,
      )

  questions : Questions m k s row b
  questions =
      record {
        each = question-after;
        held = λ w p h.
            let r = row-holds m k s row b st w p h in
            sym (held-is (row w)) ∙ ap₂ (λ (t : Bool) (v : Node). cond t (some v) none) r.0 r.1;
      }

-- 01. For either reading, every capacity and every lent store on which an opening answers 0, and every list of calls that follows, each of which keeps
-- the contract of its exported function
module _ (way : Reading) (k : ℕ) (b₀ : Word) (h : Bytes b₀) (a : ℕ) (b : Word) (p : OpeningPromise way k b₀ a b) (z : refusal_in a ≡ 0) where
  pub questions-after : {xs : List Step} → Run b xs
      → Questions (reading_after (reading_number way) xs) k (letters_after k xs) (λ w. row_after (reading_number way) k xs w) (store_after b xs)
  questions-after {xs} r =
      let m = reading_after (reading_number way) xs in
      questions m k (letters_after k xs) (λ w. row_after (reading_number way) k xs w) (store_after b xs) (state-after way k b₀ h a b p z r)
