-- The theorem about every whole list of calls, `every-list`: from what the exported contracts state of each call to what document 01 claims of the list. A question is one
-- case here, whichever it is. Rests on `Addition`, `Removal`, `Turn`, `Undone` and `Table`, and on `Told` of the outcomes, which reads an answer back.
use Prim.Native.Nat.{ℕ, zero, suc, ◌≤◌}
use mathlib.Core.Path.{◌≡◌, refl, sym, ap, ap₂, ◌∙◌, subst, subst₂}
use mathlib.Core.Bool.{Bool, true, false, cond}
use mathlib.Core.List.{List, [], ◌∷◌}
use lib.Dec.{eqb}
use lib.ListN.{length}
use borrow.Author.Tests.{eqb-true, eqb-false, eq-eqb}
use Rattle.palindromes.specs.Word.{Word}
use Rattle.palindromes.specs.Palindrome.{Palindrome}
use Rattle.palindromes.specs.Reading.{Reading, reading_number, rule_in}
use Rattle.palindromes.specs.Place.{Stands}
use Rattle.palindromes.specs.End.{End, removed, letter_at}
use Rattle.palindromes.specs.Node.{Node, imaginary, spelt, link_of, inner_of}
use Rattle.palindromes.specs.Refusal.{Question, the_row, find, Call, opening, add, remove, turn, ask, store_size, refusal}
use Rattle.palindromes.proofs.Words.{stands-of-empty}
use Rattle.palindromes.proofs.Readings.{number-below}
use Rattle.eertree.specs.Covers.{NodeOf}
use Rattle.palindromes.specs.SearchSteps.{reported_steps}
use Rattle.store.specs.Layout.{reading_in, letters_in}
use Rattle.store.specs.Good.{rule_of, Good}
use Rattle.transitions.specs.Opening.{opened}
use Rattle.transitions.specs.Rows.{row_of}
use Rattle.transitions.specs.Addition.{brings_in, row_after as row_after_addition}
use Rattle.transitions.specs.Removal.{longest_before, takes_out}
use Rattle.transitions.specs.Bytes.{Bytes}
use Rattle.transitions.proofs.Opening.{opened-capacity, opened-reading, opened-letters, opened-bytes, opened-good}
use Rattle.outcome.specs.Reply.{Reply, packed, accepted, refused_with, refusal_in, unpacked}
use Rattle.outcome.specs.Outcome.{Lent, Outcome, view_in, changed, accepted_outcome, refused_outcome, unless_refused, outcome}
use Rattle.outcome.specs.Promise.{nothing, OpeningPromise}
use Rattle.outcome.proofs.Refusals.{number-other, opening-room}
use Rattle.outcome.proofs.Replies.{reply-of-added, reply-of-removed}
use Rattle.outcome.proofs.Told.{Told, told, opening-told}
use Rattle.traces.specs.Run.{Step, Stated, Keeps, store_after, Run, begun, called, letters_step, letters_after, reading_step, reading_after, row_found, row_step, row_after}
use Rattle.traces.specs.Claims.{SameAnswer, number_of, Added, Removed, Turned, Kept, Called, EachCall, Undone, Claims}
use Rattle.traces.proofs.State.{State}
use Rattle.traces.proofs.Table.{table, shown, link-node, inner-node, find-outcome, row-outcome}
use Rattle.traces.proofs.Addition.{add-state, add-claim, add-keeps}
use Rattle.traces.proofs.Removal.{remove-state, remove-claim}
use Rattle.traces.proofs.Turn.{none_both, turn-state, turn-claim}
use Rattle.traces.proofs.Undone.{good-now, undone-claim}

-- ---- outcomes, whatever the refusal number n

-- the reply's number is n
pub number-of : (n : ℕ) (call : Call) (b : Word) (l : Lent) → (unless_refused n call b l).reply.number ≡ n
unfolding unless_refused refused_outcome refused_with accepted_outcome changed accepted
number-of (suc n) call b l = refl
number-of zero (opening way k) b l = refl
number-of zero (add e c) b l = ap (λ (r : Reply). r.number) (reply-of-added (brings_in e c b) (row_after_addition e c b) (reported_steps (reading_in b) e c (letters_in b)))
number-of zero (remove e) b l = ap (λ (r : Reply). r.number) (reply-of-removed (takes_out e b) (letter_at e (letters_in b)) (row_of b (spelt (longest_before e b))))
number-of zero (turn way) b l = refl
number-of zero (ask q) b l = refl

-- a refused call
pub refused-is : (n : ℕ) (call : Call) (b : Word) (l : Lent) → (n ≡ 0 → ⊥) → unless_refused n call b l ≡ refused_outcome n b l
unfolding unless_refused
refused-is zero call b l h = absurd (h refl)
refused-is (suc n) call b l h = refl

-- a question leaves the store
question-store : (n : ℕ) (q : Question) (b : Word) (l : Lent) → (unless_refused n (ask q) b l).store ≡ b
unfolding unless_refused refused_outcome accepted_outcome
question-store zero q b l = refl
question-store (suc n) q b l = refl

-- ---- the same question on two good stores

-- a question whose outcomes have the same reply and leave the same buffers
pub same_answer : (q : Question) {b c : Word} → Good b → Good c → ((l : Lent) → (outcome (ask q) b l).reply ≡ (outcome (ask q) c l).reply) → ((l : Lent) → (outcome (ask q) b l).lent ≡ (outcome (ask q) c l).lent)
    → SameAnswer q b c
same_answer q g h f e l a a' b' c' l' l'' p p' =
    let t = told g p in
    let u = told h p' in
    (t.number ∙ ap packed (f l) ∙ sym u.number, t.lent ∙ e l ∙ sym u.lent)

-- ---- one more call

module _ (m k : ℕ) (s : Word) (row : Word → ℕ) (b : Word) (st : State m k s row b) where
  -- what a call that keeps its contract comes to
  came : (x : Step) → Keeps b x → Told (outcome x.call b x.lent) x.answer x.store x.after
  unfolding Stated
  came x p = go x.call refl p
    where
      go : (call : Call) → x.call ≡ call → Stated call b x.lent x.answer x.store x.after → Told (outcome call b x.lent) x.answer x.store x.after
      go (opening way n) e p = opening-told p.0 p.1
      go (add e c) f p = told st.good p
      go (remove e) f p = told st.good p
      go (turn way) f p = told st.good p
      go (ask q) f p = told st.good p

  -- the same, where the call is known
  told_of : (x : Step) → Keeps b x → (call : Call) → x.call ≡ call → Told (outcome call b x.lent) x.answer x.store x.after
  told_of x p call e = subst (λ (y : Call). Told (outcome y b x.lent) x.answer x.store x.after) e (came x p)

  abbrev number_of_call : Step → ℕ
  number_of_call x = refusal (rule_of b) (view_in b x.lent) x.call

  answered-number : (x : Step) → Keeps b x → refusal_in x.answer ≡ number_of_call x
  unfolding unpacked outcome
  answered-number x p = ap (λ (r : Reply). r.number) (came x p).reply ∙ number-of (number_of_call x) x.call b x.lent

  -- an opening of a list is refused
  opening-refused : (x : Step) (way : Reading) (n : ℕ) → x.call ≡ opening way n → Keeps b x → refusal_in x.answer ≡ 0 → ⊥
  unfolding Stated
  opening-refused x way n e p = (subst (λ (call : Call). Stated call b x.lent x.answer x.store x.after) e p).2

  refused-outcome : (x : Step) → Keeps b x → (refusal_in x.answer ≡ 0 → ⊥) → outcome x.call b x.lent ≡ refused_outcome (refusal_in x.answer) b x.lent
  unfolding outcome
  refused-outcome x p h =
      refused-is (number_of_call x) x.call b x.lent (λ z. h (answered-number x p ∙ z)) ∙ ap (λ (n : ℕ). refused_outcome n b x.lent) (sym (answered-number x p))

  refused-store : (x : Step) → Keeps b x → (refusal_in x.answer ≡ 0 → ⊥) → x.store ≡ b
  unfolding refused_outcome
  refused-store x p h = (came x p).store ∙ ap (λ (o : Outcome). o.store) (refused-outcome x p h)

  asked-store : (x : Step) (q : Question) → x.call ≡ ask q → Keeps b x → x.store ≡ b
  unfolding outcome
  asked-store x q e p =
      (came x p).store
      ∙ ap (λ (call : Call). (outcome call b x.lent).store) e
      ∙ question-store (refusal (rule_of b) (view_in b x.lent) (ask q)) q b x.lent

  -- the state after the call
  next-state : (x : Step) → Keeps b x → State (reading_step m x.call) k (letters_step k s x.call) (row_step m s x.call (unpacked x.answer) x.store row) x.store
  unfolding letters_step reading_step row_step
  next-state x p = go x.call refl
    where
      go : (call : Call) → x.call ≡ call → State (reading_step m call) k (letters_step k s call) (row_step m s call (unpacked x.answer) x.store row) x.store
      go (opening way n) e = subst (State m k s row) (sym (refused-store x p (opening-refused x way n e p))) st
      go (add e c) f =
          let t = told_of x p (add e c) f in
          subst₂ (λ (r : Reply) (y : Word). State m k (letters_step k s (add e c)) (row_step m s (add e c) r y row) y) (sym t.reply) (sym t.store) (add-state m k s row b st e c x.lent)
      go (remove e) f = let t = told_of x p (remove e) f in subst (State m k (removed e s) row) (sym t.store) (remove-state m k s row b st e x.lent)
      go (turn way) f =
          let t = told_of x p (turn way) f in
          subst₂ (λ (r : Reply) (y : Word). State (reading_number way) k s (row_step m s (turn way) r y row) y) (sym t.reply) (sym t.store) (turn-state m k s row b st way x.lent)
      go (ask q) e = subst (State m k s row) (sym (asked-store x q e p)) st

  -- ---- what is claimed of the call

  -- where a repeat stands before and after a call, as a repeat of the reading then in force, the reading stays: none is a repeat in both
  same-reading : (call : Call) (w : Word) → Palindrome (rule_in m) w → Stands w s → Palindrome (rule_in (reading_step m call)) w → reading_step m call ≡ m
  unfolding reading_step
  same-reading (opening way n) w p h q = refl
  same-reading (add e c) w p h q = refl
  same-reading (remove e) w p h q = refl
  same-reading (turn way) w p h q = go (eqb m (reading_number way)) refl
    where
      go : (t : Bool) → eqb m (reading_number way) ≡ t → reading_number way ≡ m
      go true e = sym (eqb-true m (reading_number way) e)
      go false e = absurd (none_both m k s row b st way (eqb-false m (reading_number way) e) w p h q)
  same-reading (ask a) w p h q = refl

  -- what stands then keeps its row
  keeps : (x : Step) → Keeps b x → reading_step m x.call ≡ m → (w : Word) → Stands w s → row_step m s x.call (unpacked x.answer) x.store row w ≡ row w
  unfolding reading_step row_step
  keeps x p same w q = go x.call refl same
    where
      go : (call : Call) → x.call ≡ call → reading_step m call ≡ m → row_step m s call (unpacked x.answer) x.store row w ≡ row w
      go (opening way n) e r = refl
      go (add e c) f r =
          ap (λ (r : Reply). row_step m s (add e c) r x.store row w) ((came x p).reply ∙ ap (λ (call : Call). (outcome call b x.lent).reply) f) ∙ add-keeps m k s row b st e c x.lent w q
      go (remove e) f r = refl
      go (turn way) f r = ap (λ (t : Bool). cond t (row w) (row_found x.store w)) (eq-eqb m (reading_number way) (sym r))
      go (ask q) f r = refl

  -- and so does every node of the letters
  node-keeps : (x : Step) → Keeps b x → reading_step m x.call ≡ m → (v : Node) → NodeOf (rule_in m) s v → number_of (row_step m s x.call (unpacked x.answer) x.store row) v ≡ number_of row v
  unfolding number_of
  node-keeps x p same imaginary n = refl
  node-keeps x p same (spelt []) n = refl
  node-keeps x p same (spelt (y ∷ w)) n = keeps x p same (y ∷ w) n.1

  kept-claim : (x : Step) → Keeps b x → (w : Word) → Palindrome (rule_in m) w → Stands w s → Palindrome (rule_in (reading_step m x.call)) w → Stands w (letters_step k s x.call)
      → Kept w row (row_step m s x.call (unpacked x.answer) x.store row) b x.store
  kept-claim x p w q h q' h' =
      let row' : Word → ℕ = row_step m s x.call (unpacked x.answer) x.store row in
      let same-rule = same-reading x.call w q h q' in
      let next = subst (λ (n : ℕ). State n k (letters_step k s x.call) row' x.store) same-rule (next-state x p) in
      let same : row' w ≡ row w = keeps x p same-rule w h in
      let found = find-outcome m k s row b st w q h in
      let found' = find-outcome m k (letters_step k s x.call) row' x.store next w q h' in
      let fields = row-outcome m k s row b st w q h in
      let fields' = row-outcome m k (letters_step k s x.call) row' x.store next w q h' in
      let link = node-keeps x p same-rule (link_of (rule_in m) (spelt w)) (link-node m w q h) in
      let inner = node-keeps x p same-rule (inner_of (spelt w)) (inner-node m w q h) in
      record {
        same_row = same;
        same-found = same_answer (find w) st.good next.good
            (λ l. ap (λ (o : Outcome). o.reply) (found l) ∙ ap (λ (r : ℕ). accepted true r 0 0) (sym same) ∙ ap (λ (o : Outcome). o.reply) (sym (found' l)))
            (λ l. ap (λ (o : Outcome). o.lent) (found l) ∙ ap (λ (o : Outcome). o.lent) (sym (found' l)));
        same-fields = same_answer (the_row (row w)) st.good next.good
            (λ l. ap (λ (o : Outcome). o.reply) (fields l)
            ∙ ap₂ (λ (i j : ℕ). accepted false i (length w) j) (sym link) (sym inner)
            ∙ ap (λ (o : Outcome). o.reply) (sym (fields' l))
            ∙ ap (λ (r : ℕ). (outcome (ask (the_row r)) x.store l).reply) same)
            (λ l. ap (λ (o : Outcome). o.lent) (fields l) ∙ ap (λ (o : Outcome). o.lent) (sym (fields' l)) ∙ ap (λ (r : ℕ). (outcome (ask (the_row r)) x.store l).lent) same);
      }

  addition-claim : (x : Step) → Keeps b x → (e : End) (c : ℕ) → x.call ≡ add e c → Added m k s (row_step m s x.call (unpacked x.answer) x.store row) e c (unpacked x.answer)
  addition-claim x p e c f =
      let t = told_of x p (add e c) f in
      subst (λ (call : Call). Added m k s (row_step m s call (unpacked x.answer) x.store row) e c (unpacked x.answer)) (sym f)
      (subst₂ (λ (r : Reply) (y : Word). Added m k s (row_step m s (add e c) r y row) e c r) (sym t.reply) (sym t.store) (add-claim m k s row b st e c x.lent))

  removal-claim : (x : Step) → Keeps b x → (e : End) → x.call ≡ remove e → Removed m s row e (unpacked x.answer)
  removal-claim x p e f =
      subst (λ (r : Reply). Removed m s row e r) (sym (told_of x p (remove e) f).reply) (remove-claim m k s row b st e x.lent)

  turning-claim : (x : Step) → Keeps b x → (way : Reading) → x.call ≡ turn way
      → Turned m (reading_number way) k s row (row_step m s x.call (unpacked x.answer) x.store row) b x.store (unpacked x.answer)
  turning-claim x p way f =
      let t = told_of x p (turn way) f in
      subst (λ (call : Call). Turned m (reading_number way) k s row (row_step m s call (unpacked x.answer) x.store row) b x.store (unpacked x.answer)) (sym f)
      (subst₂ (λ (r : Reply) (y : Word). Turned m (reading_number way) k s row (row_step m s (turn way) r y row) b y r) (sym t.reply) (sym t.store) (turn-claim m k s row b st way x.lent))

  refused-claim : (x : Step) → Keeps b x → (refusal_in x.answer ≡ 0 → ⊥) → (unpacked x.answer ≡ refused_with (refusal_in x.answer)) × (x.store ≡ b) × (x.after ≡ x.lent)
  unfolding refused_outcome
  refused-claim x p h =
      let e = refused-outcome x p h in
      ((came x p).reply ∙ ap (λ (o : Outcome). o.reply) e, refused-store x p h, (came x p).lent ∙ ap (λ (o : Outcome). o.lent) e)

  call-claim : (x : Step) → Keeps b x → Called m k s row (row_step m s x.call (unpacked x.answer) x.store row) b x
  call-claim x p =
      record {
        number_is = answered-number x p ∙ ap (λ (n : ℕ). refusal (rule_in n) (view_in b x.lent) x.call) st.reading;
        never-three = λ z. (number-other b x.lent x.call).1 (sym (answered-number x p) ∙ z);
        refused-leaves = refused-claim x p;
        question-leaves = λ q e. asked-store x q e p;
        addition = addition-claim x p;
        removal = removal-claim x p;
        turning = turning-claim x p;
        kept = kept-claim x p;
      }

  -- ---- an addition undone at once

  undone-steps : (e : End) (c : ℕ) (x y : Step) → x.call ≡ add e c → Keeps b x → refusal_in x.answer ≡ 0 → y.call ≡ remove e → Keeps x.store y → Undone b c x y
  unfolding Stated unpacked
  undone-steps e c x y f p z g q =
      let t = told_of x p (add e c) f in
      let n : (outcome (add e c) b x.lent).reply.number ≡ 0 = ap (λ (r : Reply). r.number) (sym t.reply) ∙ z in
      let good = good-now m k s row b st e c x.lent y.lent n in
      let back = undone-claim m k s row b st e c x.lent y.lent n in
      let u = told good (subst₂ (λ (call : Call) (d : Word). Stated call d y.lent y.answer y.store y.after) g t.store q) in
      let store : y.store ≡ b = u.store ∙ back.same_bytes in
      record {
        accepted-too = ap (λ (r : Reply). r.number) u.reply ∙ back.accepted-too;
        same-letter = ap (λ (r : Reply). r.first) u.reply ∙ back.same-letter;
        same_flag = ap (λ (r : Reply). r.flag) u.reply ∙ back.same_flag ∙ ap (λ (r : Reply). r.flag) (sym t.reply);
        same_row = ap (λ (r : Reply). r.row) u.reply ∙ back.same_row ∙ ap (λ (r : Reply). r.row) (sym t.reply);
        same_store = store;
        same-answers = λ q. subst (SameAnswer q b) (sym store) (same_answer q st.good st.good (λ l. refl) (λ l. refl));
      }

-- ---- the list

module _ (m k : ℕ) (b : Word) (start : State m k [] (λ w. zero) b) where
  state : {xs : List Step} → Run b xs → State (reading_after m xs) k (letters_after k xs) (λ w. row_after m k xs w) (store_after b xs)
  unfolding letters_after reading_after row_after store_after
  state begun = start
  state (called {xs = xs} r x p) = next-state (reading_after m xs) k (letters_after k xs) (λ w. row_after m k xs w) (store_after b xs) (state r) x p

  each-call : {xs : List Step} → Run b xs → EachCall m k b xs
  unfolding EachCall row_after
  each-call begun = tt
  each-call (called {xs = xs} r x p) = (call-claim (reading_after m xs) k (letters_after k xs) (λ w. row_after m k xs w) (store_after b xs) (state r) x p, each-call r)

  claims : {xs : List Step} → Run b xs → Claims m k b xs
  claims {xs} r =
      let st = state r in
      record {
        shown = shown (reading_after m xs) k (letters_after k xs) (λ w. row_after m k xs w) (store_after b xs) st;
        table = table (reading_after m xs) k (letters_after k xs) (λ w. row_after m k xs w) (store_after b xs) st;
        each = each-call r;
        undone = undone-steps (reading_after m xs) k (letters_after k xs) (λ w. row_after m k xs w) (store_after b xs) st;
      }

-- ---- from the opening

-- the state right after an accepted opening, in either reading
opened-state : (way : Reading) (k : ℕ) (b₀ : Word) → Bytes b₀ → (1 ≤ k) × (k ≤ 1024) × (store_size k ≤ length b₀) → State (reading_number way) k [] (λ w. zero) (opened (reading_number way) k b₀)
opened-state way k b₀ h r =
    let m = number-below way in
    record {
      good = opened-good (reading_number way) k b₀ m r.1 r.2 r.0;
      capacity = opened-capacity (reading_number way) k b₀ m r.1 r.2;
      reading = opened-reading (reading_number way) k b₀ m r.1 r.2;
      letters = opened-letters (reading_number way) k b₀ m r.1 r.2;
      rows = λ w p q. absurd (p.non-empty (stands-of-empty q));
      bytes = opened-bytes (reading_number way) k b₀ h;
    }

-- an opening that answers 0 was accepted, and leaves what `opened` says
opened-store : (way : Reading) (k : ℕ) (b₀ : Word) (a : ℕ) (b : Word) → OpeningPromise way k b₀ a b → refusal_in a ≡ 0
    → (refusal (rule_of b₀) (view_in b₀ nothing) (opening way k) ≡ 0) × (b ≡ opened (reading_number way) k b₀)
unfolding unpacked outcome unless_refused accepted_outcome changed
opened-store way k b₀ a b p z =
    let t = opening-told {l = nothing} p refl in
    let n : refusal (rule_of b₀) (view_in b₀ nothing) (opening way k) ≡ 0 =
    sym (number-of (refusal (rule_of b₀) (view_in b₀ nothing) (opening way k)) (opening way k) b₀ nothing) ∙ ap (λ (r : Reply). r.number) (sym t.reply) ∙ z in
    (n, t.store ∙ ap (λ (i : ℕ). (unless_refused i (opening way k) b₀ nothing).store) n)

module _ (way : Reading) (k : ℕ) (b₀ : Word) (h : Bytes b₀) (a : ℕ) (b : Word) (p : OpeningPromise way k b₀ a b) (z : refusal_in a ≡ 0) where
  first-state : State (reading_number way) k [] (λ w. zero) b
  first-state =
      let e = opened-store way k b₀ a b p z in
      subst (State (reading_number way) k [] (λ w. zero)) (sym e.1) (opened-state way k b₀ h (opening-room way k b₀ nothing e.0))

  -- THE THEOREM. For either reading, every capacity and every lent store on which an opening answers 0, and every list of calls that follows, whatever their arguments and buffers, if each
  -- keeps the contract of its exported function: all that document 01 claims of lists of calls holds
  pub every-list : {xs : List Step} → Run b xs → Claims (reading_number way) k b xs
  every-list = claims (reading_number way) k b first-state

  -- what is known of the store after a list, for claims about single questions
  pub state-after : {xs : List Step} → Run b xs → State (reading_after (reading_number way) xs) k (letters_after k xs) (λ w. row_after (reading_number way) k xs w) (store_after b xs)
  state-after = state (reading_number way) k b first-state

  -- 01 "a store made by opening and accepted calls is always good"
  pub always-good : {xs : List Step} → Run b xs → Good (store_after b xs)
  always-good r = (every-list r).shown.good
