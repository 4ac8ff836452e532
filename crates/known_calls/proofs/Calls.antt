-- What a table of known answers says is what the exported calls answer: `promised`, for every query, good store and promise, and so for every line of
-- the four tables, the starred sittings of document 01 among them. Rests on the claims about single calls of `traces`, and on the tables, which are
-- computed in `known_answers`.
use Prim.Native.Nat.{ℕ, zero, suc, ◌+◌}
use mathlib.Core.Path.{◌≡◌, refl, sym, ap, ap₂, ◌∙◌, subst, subst₂}
use mathlib.Core.Bool.{Bool, true, false, cond, not, ◌&&◌}
use mathlib.Core.List.{List, [], ◌∷◌}
use lib.Dec.{leb, eqb}
use lib.ListN.{length}
use Rattle.palindromes.specs.Word.{Word, is_letter, is_empty, member}
use Rattle.palindromes.specs.Palindrome.{Palindrome, plain}
use Rattle.palindromes.specs.Mismatch.{reported_mismatch}
use Rattle.palindromes.specs.Reading.{reading_number, rule_in}
use Rattle.palindromes.specs.Place.{Stands, stands}
use Rattle.palindromes.specs.Record.{palindromes, count, longest_length, longest_place}
use Rattle.palindromes.specs.End.{End, at_right, added, removed, letter_at, longest_at, new_in}
use Rattle.palindromes.specs.Node.{Node, spelt, link_of, inner_of, is_node}
use Rattle.palindromes.specs.SearchSteps.{search_steps, reported_steps}
use Rattle.palindromes.specs.Refusal.{the_count, the_longest, the_row, find, Call, add, remove, ask, fault, first_fault, faults, question_faults, refusal}
use Rattle.palindromes.proofs.Tests.{not-true-false, false-not-true, both_true}
use Rattle.palindromes.proofs.Places.{stands-empty, stands-is}
use Rattle.palindromes.proofs.NewIn.{longest-at}
use Rattle.palindromes.proofs.Readings.{rule-inverse, rule-of-plain}
use Rattle.eertree.proofs.Covers.{node-is}
use Rattle.store.specs.Layout.{capacity_in, reading_in, used_in, letters_in}
use Rattle.store.specs.Good.{rule_of, node_in, Good}
use Rattle.store.proofs.Sizes.{used-below}
use Rattle.transitions.specs.Rows.{same_node, row_of}
use Rattle.transitions.specs.Bytes.{Bytes}
use Rattle.transitions.proofs.Rows.{least-passes, same-node-true, row-of, covers}
use Rattle.outcome.specs.Reply.{Reply, accepted, unpacked}
use Rattle.outcome.specs.Outcome.{Lent, Outcome, view_in, outcome, accepted_outcome, answer_to, refused_outcome}
use Rattle.outcome.specs.Promise.{Promise}
use Rattle.outcome.proofs.Refusals.{count-accepted, row-accepted, row-free, carried-out, refused-out}
use Rattle.outcome.proofs.Replies.{reply-of-found}
use Rattle.outcome.proofs.Told.{told}
use Rattle.traces.specs.Run.{letters_step, row_step}
use Rattle.traces.specs.Claims.{Replies, Added}
use Rattle.traces.proofs.State.{State, rule-is}
use Rattle.traces.proofs.Addition.{add-state, add-claim}
use Rattle.traces.proofs.Removal.{remove-state, remove-claim}
use Rattle.traces.proofs.Theorem.{number-of}
use Rattle.known_answers.specs.KnownAnswer.{Query, how_many, which_longest, addition, removal, the_link, the_inner, look, search, KnownAnswer, AllRight}
use Rattle.known_answers.specs.KnownAnswer.{Answer, refused, number, length_at, comes_in, goes_out, row, found, absent, view_of, unless_refused, answer}
use Rattle.known_answers.specs.KnownAnswer as Lines
use Rattle.known_answers.specs.Starred.{starred}
use Rattle.known_answers.specs.Inverted.{inverted}
use Rattle.known_answers.specs.Searches.{searches}
use Rattle.known_answers.specs.Mismatches.{mismatches}
use Rattle.known_answers.proofs.Claim.{known-answers, inverted-answers, search-answers, mismatch-answers}
use Rattle.known_calls.specs.Calls.{call_for, row_field, Says, Reported, Answered, AllAnswered, all-answered, and-answered}

-- the number of repeats, in the state after a call
count-told : {m k : ℕ} {s : Word} {row : Word → ℕ} {b : Word} → State m k s row b
    → Replies the_count b (accepted false 0 (count (rule_in m) s) 0)
unfolding accepted_outcome answer_to
count-told {b = b} st l a b' l' p =
    (told st.good p).reply
    ∙ ap (λ (o : Outcome). o.reply) (carried-out (ask the_count) b l (count-accepted b l))
    ∙ ap₂ (λ (σ : ℕ → ℕ) (t : Word). accepted false 0 (count σ t) 0) (rule-is st) st.letters

module _ (m k : ℕ) (s b : Word) (st : State m k s (λ w. row_of b (spelt w)) b) where
  rule : rule_of b ≡ rule_in m
  rule = rule-is st

  -- what is said of an outcome
  abbrev Said : Query → Lent → Answer → Type 0
  Said q l known = Says b (outcome (call_for b q) b l).store (outcome (call_for b q) b l).reply q known

  -- refused by the same row of the table of numbers, or carried out
  by_number : (q : Query) (l : Lent) (known : Answer)
      → let n = refusal (rule_of b) (view_in b l) (call_for b q) in
      let i = refusal (rule_in m) (view_of k s) (call_for b q) in
      n ≡ i → (n ≡ 0 → Said q l known) → Said q l (unless_refused i known)
  unfolding unless_refused Says refused_outcome
  by_number q l known e f = go (refusal (rule_in m) (view_of k s) (call_for b q)) refl
    where
      go : (n : ℕ) → refusal (rule_in m) (view_of k s) (call_for b q) ≡ n → Said q l (unless_refused n known)
      go zero h = f (e ∙ h)
      go (suc n) h = let o = refused-out (call_for b q) b l n (e ∙ h) in (ap (λ (o : Outcome). o.reply) o, ap (λ (o : Outcome). o.store) o)

  -- what an addition meets
  add-number : (e : End) (c : ℕ) (l : Lent) → refusal (rule_of b) (view_in b l) (add e c) ≡ refusal (rule_in m) (view_of k s) (add e c)
  unfolding refusal faults view_in view_of
  add-number e c l =
      ap₂ (λ (i : ℕ) (t : Word). first_fault (fault 3 (not true) ∷ fault 4 (not (is_letter c)) ∷ fault 5 (leb i (length t)) ∷ [])) st.capacity
      st.letters

  -- the longest question, a removal and find
  longest-number : (l : Lent) → refusal (rule_of b) (view_in b l) (ask the_longest) ≡ refusal (rule_in m) (view_of k s) (ask the_longest)
  unfolding refusal faults question_faults view_in view_of
  longest-number l = ap (λ (t : Word). first_fault (fault 3 (not true) ∷ fault 6 (is_empty t) ∷ [])) st.letters

  remove-number : (e : End) (l : Lent) → refusal (rule_of b) (view_in b l) (remove e) ≡ refusal (rule_in m) (view_of k s) (remove e)
  unfolding refusal faults view_in view_of
  remove-number e l = ap (λ (t : Word). first_fault (fault 3 (not true) ∷ fault 6 (is_empty t) ∷ [])) st.letters

  find-number : (w : Word) (l : Lent) → refusal (rule_of b) (view_in b l) (ask (find w)) ≡ refusal (rule_in m) (view_of k s) (ask (find w))
  unfolding refusal faults question_faults view_in view_of
  find-number w l = refl

  -- the number of a call that is carried out
  zero_number : (call : Call) (l : Lent) → refusal (rule_of b) (view_in b l) call ≡ 0 → (outcome call b l).reply.number ≡ 0
  unfolding outcome
  zero_number call l z = number-of (refusal (rule_of b) (view_in b l) call) call b l ∙ z

  says-count : (l : Lent) → Said how_many l (answer (rule_in m) k s how_many)
  unfolding answer call_for Says unless_refused refusal faults question_faults view_of first_fault fault accepted_outcome answer_to accepted
  says-count l =
      let o = carried-out (ask the_count) b l (count-accepted b l) in
      (ap (λ (o : Outcome). o.reply.number) o, ap (λ (o : Outcome). o.reply.first) o ∙ ap₂ count rule st.letters)

  says-longest : (l : Lent) → Said which_longest l (answer (rule_in m) k s which_longest)
  unfolding answer call_for Says accepted_outcome answer_to
  says-longest l = by_number which_longest l (length_at (longest_length (rule_in m) s) (longest_place (rule_in m) s)) (longest-number l) λ z.
      ap (λ (o : Outcome). o.reply) (carried-out (ask the_longest) b l z)
      ∙ ap₂ (λ (σ : ℕ → ℕ) (t : Word). accepted false 0 (longest_length σ t) (longest_place σ t)) rule st.letters

  -- an addition that brings in a repeat answers the row that the repeat has in the store after it
  module _ (e : End) (c : ℕ) (l : Lent) (z : refusal (rule_of b) (view_in b l) (add e c) ≡ 0) where
    abbrev after : Outcome
    after = outcome (add e c) b l

    abbrev longest : Word
    longest = longest_at (rule_in m) e (added e c s)

    claim : Added m k s (row_step m s (add e c) after.reply after.store (λ w. row_of b (spelt w))) e c after.reply
    claim = add-claim m k s (λ w. row_of b (spelt w)) b st e c l

    next : State m k (letters_step k s (add e c)) (row_step m s (add e c) after.reply after.store (λ w. row_of b (spelt w))) after.store
    next = add-state m k s (λ w. row_of b (spelt w)) b st e c l

    joined : letters_step k s (add e c) ≡ added e c s
    unfolding letters_step
    joined = ap (λ (t : Bool). cond t (added e c s) s) (claim.only_if (zero_number (add e c) l z))

    new-palindrome : after.reply.flag ≡ true → Palindrome (rule_in m) longest
    new-palindrome f =
        let h = claim.comes-in (zero_number (add e c) l z) in
        let missing : stands longest s ≡ false = not-true-false (stands longest s) (λ t. false-not-true (h ∙ ap not t) f) in
        record {
          non-empty = λ x. false-not-true missing (stands-is longest s (subst (λ (y : Word). Stands y s) (sym x) (stands-empty s)));
          symmetric = (longest-at (rule_in m) (rule-inverse m) e (added e c s)).0;
        }

    new_row : after.reply.flag ≡ true → after.reply.row ≡ row_of after.store (spelt longest)
    new_row f =
        let there = (longest-at (rule_in m) (rule-inverse m) e (added e c s)).1 in
        claim.new_row f ∙ next.rows longest (new-palindrome f) (subst (Stands longest) (sym joined) there)

  says-addition : (e : End) (c : ℕ) (l : Lent) → Said (addition e c) l (answer (rule_in m) k s (addition e c))
  unfolding answer call_for Says
  says-addition e c l =
      let known = comes_in (new_in (rule_in m) s (added e c s)) (count (rule_in m) (added e c s)) in
      by_number (addition e c) l known (add-number e c l) λ z.
      let n = zero_number (add e c) l z in
      let moves = (claim e c l z).moves n in (
        n,
        record {
          moved = λ f. (longest e c l z, moves.one f, new_row e c l z f);
          none-moved = λ f. (moves.none f, (claim e c l z).no_row f);
        },
        subst (λ (t : Word). Replies the_count (after e c l z).store (accepted false 0 (count (rule_in m) t) 0)) (joined e c l z)
            (count-told (next e c l z)),
      )

  says-removal : (e : End) (l : Lent) → Said (removal e) l (answer (rule_in m) k s (removal e))
  unfolding answer call_for Says
  says-removal e l =
      let known = goes_out (letter_at e s) (new_in (rule_in m) (removed e s) s) (count (rule_in m) (removed e s)) in
      by_number (removal e) l known (remove-number e l) λ z.
      let n = zero_number (remove e) l z in
      let claim = remove-claim m k s (λ w. row_of b (spelt w)) b st e l in
      let next = remove-state m k s (λ w. row_of b (spelt w)) b st e l in (
        n,
        claim.letter-is n,
        record {
          moved = λ f. (longest_at (rule_in m) e s, (claim.moves n).one f, claim.old_row f);
          none-moved = λ f. ((claim.moves n).none f, claim.no_row f);
        },
        count-told next,
      )

  -- the row of a repeat that stands, or of none
  node-held : (w : Word) → is_node (rule_in m) s (spelt w) ≡ true → (used_in b (row_of b (spelt w)) ≡ true) × (node_in b (row_of b (spelt w)) ≡ spelt w)
  node-held w e =
      let h = st.good.table.each-node (spelt w) (ap₂ (λ (σ : ℕ → ℕ) (t : Word). is_node σ t (spelt w)) rule st.letters ∙ e) in
      rw (row-of st.good h.0 (spelt w) h.1 h.2) (h.1, h.2)

  node-absent : (w : Word) → is_node (rule_in m) s (spelt w) ≡ false → used_in b (row_of b (spelt w)) ≡ false
  unfolding row_of
  node-absent w e = not-true-false (used_in b (row_of b (spelt w))) λ u.
      let p = least-passes (λ r. used_in b r && same_node (node_in b r) (spelt w)) (capacity_in b + 2) (used-below b (row_of b (spelt w)) u) in
      let held = same-node-true (node_in b (row_of b (spelt w))) (spelt w) (both_true (used_in b (row_of b (spelt w))) _ p).1 in
      let node = node-is (rule_of b) (letters_in b) (node_in b (row_of b (spelt w))) ((covers st.good).each_row (row_of b (spelt w)) u) in
      let moved = ap₂ (λ (σ : ℕ → ℕ) (t : Word). is_node σ t (spelt w)) (sym rule) (sym st.letters) in
      false-not-true e (moved ∙ ap (is_node (rule_of b) (letters_in b)) (sym held) ∙ node)

  -- a question about the row of a named repeat: refused with 7 where it is none
  by-node : (q : Query) (w : Word) (l : Lent) (v : Node) → call_for b q ≡ ask (the_row (row_of b (spelt w)))
      → (is_node (rule_in m) s (spelt w) ≡ true → Said q l (row v)) → Said q l (cond (is_node (rule_in m) s (spelt w)) (row v) (refused 7))
  unfolding Says refused_outcome
  by-node q w l v same f = go (is_node (rule_in m) s (spelt w)) refl
    where
      go : (t : Bool) → is_node (rule_in m) s (spelt w) ≡ t → Said q l (cond t (row v) (refused 7))
      go true e = f e
      go false e =
          let free = row-free b l (row_of b (spelt w)) (node-absent w e) in
          let o = ap (λ (c : Call). outcome c b l) same ∙ refused-out (ask (the_row (row_of b (spelt w)))) b l 6 free in
          (ap (λ (x : Outcome). x.reply) o, ap (λ (x : Outcome). x.store) o)

  -- and answered where it is
  row_carried : (w : Word) (l : Lent) → is_node (rule_in m) s (spelt w) ≡ true
      → let c = ask (the_row (row_of b (spelt w))) in
      outcome c b l ≡ accepted_outcome c b l
  row_carried w l e = carried-out (ask (the_row (row_of b (spelt w)))) b l (row-accepted b l _ (node-held w e).0)

  says-link : (w : Word) (l : Lent) → Said (the_link w) l (answer (rule_in m) k s (the_link w))
  unfolding answer call_for Says row_field accepted_outcome answer_to accepted
  says-link w l = by-node (the_link w) w l (link_of (rule_in m) (spelt w)) refl λ e.
      let o = row_carried w l e in (
        ap (λ (x : Outcome). x.reply.number) o,
        ap (λ (x : Outcome). x.reply.row) o ∙ ap₂ (λ (σ : ℕ → ℕ) (v : Node). row_of b (link_of σ v)) rule (node-held w e).1,
      )

  says-inner : (w : Word) (l : Lent) → Said (the_inner w) l (answer (rule_in m) k s (the_inner w))
  unfolding answer call_for Says row_field accepted_outcome answer_to accepted
  says-inner w l = by-node (the_inner w) w l (inner_of (spelt w)) refl λ e.
      let o = row_carried w l e in
      (ap (λ (x : Outcome). x.reply.number) o, ap (λ (x : Outcome). x.reply.second) o ∙ ap (λ (v : Node). row_of b (inner_of v)) (node-held w e).1)

  says-look : (w : Word) (l : Lent) → Said (look w) l (answer (rule_in m) k s (look w))
  unfolding answer call_for Says accepted_outcome answer_to
  says-look w l = by_number (look w) l _ (find-number w l) λ z.
      go (member w (palindromes (rule_in m) s))
      (ap (λ (o : Outcome). o.reply) (carried-out (ask (find w)) b l z)
      ∙ reply-of-found (member w (palindromes (rule_of b) (letters_in b))) (row_of b (spelt w)) (reported_mismatch (rule_of b) w)
      ∙ ap₂ (λ (σ : ℕ → ℕ) (t : Word). told-by (member w (palindromes σ t)) (reported_mismatch σ w)) rule st.letters)
    where
      told-by : Bool → ℕ → Reply
      told-by t n = accepted t (cond t (row_of b (spelt w)) 0) n 0

      go : (t : Bool) → (outcome (ask (find w)) b l).reply ≡ accepted t (cond t (row_of b (spelt w)) 0) (reported_mismatch (rule_in m) w) 0
          → Said (look w) l (cond t (found (spelt w) (reported_mismatch (rule_in m) w)) (absent (reported_mismatch (rule_in m) w)))
      go true e = e
      go false e = e

  says-search : (c : ℕ) (l : Lent) → m ≡ 0 → Said (search c) l (answer (rule_in m) k s (search c))
  unfolding answer call_for Says reported_steps reading_number
  says-search c l e = by_number (search c) l (number (search_steps (rule_in m) c s)) (add-number at_right c l) λ z.
      let n = zero_number (add at_right c) l z in (
        n,
        (add-claim m k s (λ w. row_of b (spelt w)) b st at_right c l).steps n
            ∙ ap (λ (i : ℕ). cond (eqb i 0) (search_steps plain c s) zero) e
            ∙ ap (λ (σ : ℕ → ℕ). search_steps σ c s) (sym rule-of-plain)
            ∙ ap (λ (i : ℕ). search_steps (rule_in i) c s) (sym e),
      )

  -- THE BRIDGE, for every query
  pub says : (q : Query) → Reported b q → (l : Lent) → Said q l (answer (rule_in m) k s q)
  unfolding Reported
  says how_many f l = says-count l
  says which_longest f l = says-longest l
  says (addition e c) f l = says-addition e c l
  says (removal e) f l = says-removal e l
  says (the_link w) f l = says-link w l
  says (the_inner w) f l = says-inner w l
  says (look w) f l = says-look w l
  says (search c) f l = says-search c l (sym st.reading ∙ f)

-- so what a promise answers on a good store is what the table's evaluator says of its letters and capacity
pub promised : (q : Query) (b : Word) → Good b → Bytes b → Reported b q → (l : Lent) (a : ℕ) (b' : Word) (l' : Lent) → Promise (call_for b q) b l a b' l'
    → Says b b' (unpacked a) q (answer (rule_of b) (capacity_in b) (letters_in b) q)
promised q b g h f l a b' l' p =
    let t = told g p in
    let st : State (reading_in b) (capacity_in b) (letters_in b) (λ w. row_of b (spelt w)) b =
    record { good = g; capacity = refl; reading = refl; letters = refl; rows = λ w p s. refl; bytes = h } in
    subst₂ (λ (r : Reply) (x : Word). Says b x r q (answer (rule_of b) (capacity_in b) (letters_in b) q)) (sym t.reply) (sym t.store)
    (says (reading_in b) (capacity_in b) (letters_in b) b st q f l)

answered : (xs : List KnownAnswer) → AllRight xs → AllAnswered xs
answered xs Lines.none_left = all-answered
answered xs (Lines.one_more {x = x} {xs = ys} r rest) = and-answered line (answered ys rest)
  where
    line : Answered x
    line b g h e f low high q l a b' l' p =
        let known = ap₂ (λ (σ : ℕ → ℕ) (t : Word). answer σ (capacity_in b) t x.query) e f ∙ r (capacity_in b) low high in
        subst (Says b b' (unpacked a) x.query) known (promised x.query b g h q l a b' l' p)

-- the starred sittings of document 01, and the other three tables
pub starred-answered : AllAnswered starred
starred-answered = answered starred known-answers

pub inverted-answered : AllAnswered inverted
inverted-answered = answered inverted inverted-answers

pub searches-answered : AllAnswered searches
searches-answered = answered searches search-answers

pub mismatches-answered : AllAnswered mismatches
mismatches-answered = answered mismatches mismatch-answers
