-- One more addition: what it does to the state, and the first point of the claim for it. Rests on what is proved of the bytes after an addition (`Added` of transitions).
use Prim.Native.Nat.{ℕ, suc}
use mathlib.Core.Path.{◌≡◌, refl, sym, ap, ap₂, ◌∙◌, subst, subst₂}
use mathlib.Core.Bool.{Bool, true, false, cond, not, ◌&&◌}
use mathlib.Core.Logic.{⊎_elim}
use native.Mathlib.Omega.{arith}
use lib.Dec.{ltb}
use lib.ListN.{length}
use borrow.Author.Tests.{ltb-true, ltb-false, not-true}
use Rattle.palindromes.specs.Word.{Word, is_letter, same_word}
use Rattle.palindromes.specs.Palindrome.{Palindrome}
use Rattle.palindromes.specs.Reading.{rule_in}
use Rattle.palindromes.specs.Place.{Stands, stands}
use Rattle.palindromes.specs.End.{End, added, longest_at}
use Rattle.palindromes.specs.Node.{spelt}
use Rattle.palindromes.specs.SearchSteps.{reported_steps}
use Rattle.palindromes.specs.Refusal.{add}
use Rattle.palindromes.proofs.Tests.{both_true, decided, same_true, same-is, same_refl, false-not-true, not-true-false}
use Rattle.palindromes.proofs.Words.{stands-or-not}
use Rattle.palindromes.proofs.Change.{new-is-longest}
use Rattle.palindromes.proofs.Places.{stands-true, stands-is}
use Rattle.palindromes.proofs.NewIn.{new-in-added, gone-in-added}
use Rattle.palindromes.proofs.Readings.{rule-inverse}
use Rattle.store.specs.Layout.{reading_in, letters_in}
use Rattle.store.specs.Good.{Good}
use Rattle.transitions.specs.Rows.{row_of, free_row}
use Rattle.transitions.specs.Addition.{longest_after, brings_in, row_after as row_after_addition, after_addition}
use Rattle.transitions.proofs.Rows.{row-of, row-of-node}
use Rattle.transitions.proofs.Added as Transitions-as-Added
use Rattle.transitions.proofs.Added.{addition}
use Rattle.outcome.specs.Reply.{Reply, refused_with, accepted}
use Rattle.outcome.specs.Outcome.{Lent, Outcome, outcome, accepted_outcome, refused_outcome, changed}
use Rattle.traces.specs.Run.{letters_step, row_step}
use Rattle.traces.specs.Claims.{Added}
use Rattle.outcome.proofs.Replies.{reply-of-added}
use Rattle.outcome.proofs.Refusals.{add-letter, add-full, add-accepted, carried-out, refused-out}
use Rattle.traces.proofs.State.{State, rule-is, size_is}
use Rattle.traces.proofs.Shared.{moved, number-zero, zero-first}

-- the state with the rows said in another way
renamed_rows : (m k : ℕ) (s b : Word) (row row' : Word → ℕ) → ((w : Word) → row w ≡ row' w) → State m k s row b → State m k s row' b
renamed_rows m k s b row row' e st =
    record { good = st.good; capacity = st.capacity; reading = st.reading; letters = st.letters; rows = λ w p h. sym (e w) ∙ st.rows w p h; bytes = st.bytes }

-- a reply that says 1 gives the longest repeat at its end the row that it answers
answered-row : (m : ℕ) (s : Word) (e : End) (c : ℕ) (r : Reply) (b : Word) (row : Word → ℕ) → r.flag ≡ true → r.row ≡ row_step m s (add e c) r b row (longest_at (rule_in m) e (added e c s))
unfolding row_step
answered-row m s e c r b row f =
    sym (ap₂ (λ (t x : Bool). cond (t && x) r.row (row (longest_at (rule_in m) e (added e c s)))) f (same_refl (longest_at (rule_in m) e (added e c s))))

module _ (m k : ℕ) (s : Word) (row : Word → ℕ) (b : Word) (st : State m k s row b) where
  good : Good b
  good = st.good

  -- ---- an addition

  module _ (e : End) (c : ℕ) (l : Lent) where
    abbrev o : Outcome
    o = outcome (add e c) b l

    abbrev pub room : Bool
    room = is_letter c && ltb (length s) k

    -- accepted: the outcome is the addition's
    add-carried : room ≡ true → o ≡ accepted_outcome (add e c) b l
    add-carried h =
        let g = both_true (is_letter c) (ltb (length s) k) h in
        carried-out (add e c) b l (add-accepted b l e c g.0 (omega (arith, ltb-true (length s) k g.1, st.capacity, ap length st.letters)))

    -- refused: 4 or 5, and the store as it was
    add-refused : room ≡ false → (n : ℕ) × (o ≡ refused_outcome (suc n) b l)
    add-refused h = ⊎_elim letter none (decided (is_letter c))
      where
        letter : is_letter c ≡ true → (n : ℕ) × (o ≡ refused_outcome (suc n) b l)
        letter p =
            let full : ltb (length s) k ≡ false = sym (ap (λ (t : Bool). t && ltb (length s) k) p) ∙ h in
            (4, refused-out (add e c) b l 4 (add-full b l e c p (omega (arith, ltb-false (length s) k full, st.capacity, ap length st.letters))))

        none : is_letter c ≡ false → (n : ℕ) × (o ≡ refused_outcome (suc n) b l)
        none p = (3, refused-out (add e c) b l 3 (add-letter b l e c p))

    abbrev v : Word
    v = longest_at (rule_in m) e (added e c s)

    -- the longest repeat at the call's end, read after the addition, and whether it is new
    longest-is : longest_after e c b ≡ v
    unfolding longest_after
    longest-is = ap₂ (λ (σ : ℕ → ℕ) (t : Word). longest_at σ e (added e c t)) (rule-is st) st.letters

    brings-is : brings_in e c b ≡ not (stands v s)
    unfolding brings_in
    brings-is = ap₂ (λ (u t : Word). not (stands u t)) longest-is st.letters

    -- what is reported of the search
    abbrev pub reported : ℕ
    reported = reported_steps m e c s

    steps-is : reported_steps (reading_in b) e c (letters_in b) ≡ reported
    steps-is = ap₂ (λ (i : ℕ) (t : Word). reported_steps i e c t) st.reading st.letters

    pub reply-is : room ≡ true → o.reply ≡ accepted (brings_in e c b) (cond (brings_in e c b) (free_row b) 0) reported 0
    unfolding accepted_outcome changed row_after_addition
    reply-is h =
        ap (λ (x : Outcome). x.reply) (add-carried h)
        ∙ reply-of-added (brings_in e c b) (row_after_addition e c b) (reported_steps (reading_in b) e c (letters_in b))
        ∙ ap₂ (λ (q n : ℕ). accepted (brings_in e c b) q n 0) (go (brings_in e c b)) steps-is
      where
        go : (t : Bool) → cond t (cond t (free_row b) (row_of b (spelt (longest_after e c b)))) 0 ≡ cond t (free_row b) 0
        go true = refl
        go false = refl

    pub facts : room ≡ true → Transitions-as-Added.Added e c b
    facts h =
        let g = both_true (is_letter c) (ltb (length s) k) h in
        addition e good g.0 (omega (arith, ltb-true (length s) k g.1, st.capacity, (size_is st)))

    pub store_is : room ≡ true → o.store ≡ after_addition e c b
    unfolding accepted_outcome changed
    store_is h = ap (λ (x : Outcome). x.store) (add-carried h)

    letters-is : room ≡ true → letters_step k s (add e c) ≡ added e c s
    unfolding letters_step
    letters-is h = ap (λ (t : Bool). cond t (added e c s) s) h

    -- the rows after an accepted addition: an old repeat keeps its own, and the new one has the row that was answered
    rows-after : room ≡ true → (w : Word) → Palindrome (rule_in m) w → Stands w (added e c s) → row_step m s (add e c) o.reply o.store row w ≡ row_of (after_addition e c b) (spelt w)
    unfolding row_step accepted
    rows-after h w p there = ⊎_elim old new (stands-or-not w s)
      where
        f : Transitions-as-Added.Added e c b
        f = facts h

        old : Stands w s → row_step m s (add e c) o.reply o.store row w ≡ row_of (after_addition e c b) (spelt w)
        old q =
            let held = row-of-node good (spelt w) (rw (rule-is st) p.symmetric, subst (Stands w) (sym st.letters) q) in
            let keeps = f.old_row (row_of b (spelt w)) held.0 in
            ap (λ (r : Reply). cond (r.flag && same_word w v) r.row (row w)) (reply-is h)
            ∙ go (brings_in e c b) (same_word w v) refl refl
            ∙ st.rows w p q
            ∙ sym (row-of f.good (row_of b (spelt w)) (spelt w) keeps.0 (keeps.1 ∙ held.1))
          where
            go : (t u : Bool) → brings_in e c b ≡ t → same_word w v ≡ u → cond (t && u) (cond t (free_row b) 0) (row w) ≡ row w
            go true true g m =
                absurd (false-not-true (not-true (stands v s) (sym brings-is ∙ g)) (stands-is v s (subst (λ (x : Word). Stands x s) (same_true w v m) q)))
            go true false g m = refl
            go false u g m = refl

        new : (Stands w s → ⊥) → row_step m s (add e c) o.reply o.store row w ≡ row_of (after_addition e c b) (spelt w)
        new n = ⊎_elim fresh-one (λ q. absurd (n q)) (new-is-longest (rule_in m) (rule-inverse m) e s w c p.symmetric there)
          where
            fresh-one : w ≡ v → row_step m s (add e c) o.reply o.store row w ≡ row_of (after_addition e c b) (spelt w)
            fresh-one g =
                let not_there : stands v s ≡ false = not-true-false (stands v s) (λ m. n (subst (λ (x : Word). Stands x s) (sym g) (stands-true v s m))) in
                let brings : brings_in e c b ≡ true = brings-is ∙ ap not not_there in
                let held = f.new_row brings in
                ap (λ (r : Reply). cond (r.flag && same_word w v) r.row (row w)) (reply-is h)
                ∙ ap₂ (λ (t u : Bool). cond (t && u) (cond t (free_row b) 0) (row w)) brings (same-is g)
                ∙ sym (row-of f.good (free_row b) (spelt w) held.0 (held.1 ∙ ap spelt (longest-is ∙ sym g)))

    -- a refused addition leaves letters, rows and store
    refused-state : room ≡ false → State m k (letters_step k s (add e c)) (row_step m s (add e c) o.reply o.store row) o.store
    unfolding letters_step row_step refused_outcome refused_with
    refused-state h =
        let g = add-refused h in
        let made : State m k s row b = st in
        let same : (w : Word) → row w ≡ row_step m s (add e c) o.reply o.store row w =
        λ w. ap (λ (x : Outcome). cond (x.reply.flag && same_word w (longest_at (rule_in m) e (added e c s))) x.reply.row (row w)) (sym g.1) in
        subst₂ (λ (t x : Word). State m k t (row_step m s (add e c) o.reply o.store row) x)
        (ap (λ (t : Bool). cond t (added e c s) s) (sym h))
        (ap (λ (x : Outcome). x.store) (sym g.1))
        (renamed_rows m k s b row (row_step m s (add e c) o.reply o.store row) same made)

    pub add-state : State m k (letters_step k s (add e c)) (row_step m s (add e c) o.reply o.store row) o.store
    add-state = ⊎_elim yes-room no_room (decided room)
      where
        yes-room : room ≡ true → State m k (letters_step k s (add e c)) (row_step m s (add e c) o.reply o.store row) o.store
        yes-room h =
            let f = facts h in
            let made : State m k (added e c s) (row_step m s (add e c) o.reply o.store row) (after_addition e c b) =
            record {
              good = f.good;
              capacity = f.capacity ∙ st.capacity;
              reading = f.reading ∙ st.reading;
              letters = f.letters ∙ ap (added e c) st.letters;
              rows = rows-after h;
              bytes = f.bytes st.bytes;
            } in
            subst₂ (λ (t x : Word). State m k t (row_step m s (add e c) o.reply o.store row) x) (sym (letters-is h)) (sym (store_is h)) made

        no_room : room ≡ false → State m k (letters_step k s (add e c)) (row_step m s (add e c) o.reply o.store row) o.store
        no_room h = refused-state h

    -- the first point for an addition
    refused-number : room ≡ false → o.reply.number ≡ 0 → ⊥
    unfolding refused_outcome refused_with
    refused-number h z = let g = add-refused h in omega (arith, ap (λ (x : Outcome). x.reply.number) g.1)

    no_flag : room ≡ false → (o.reply.flag ≡ false) × (o.reply.row ≡ 0)
    unfolding refused_outcome refused_with
    no_flag h = let g = add-refused h in (ap (λ (x : Outcome). x.reply.flag) g.1, ap (λ (x : Outcome). x.reply.row) g.1)

    flag_is : room ≡ true → o.reply.flag ≡ brings_in e c b
    unfolding accepted
    flag_is h = ap (λ (r : Reply). r.flag) (reply-is h)

    first-is : room ≡ true → o.reply.first ≡ reported
    unfolding accepted
    first-is h = ap (λ (r : Reply). r.first) (reply-is h)

    pub add-claim : Added m k s (row_step m s (add e c) o.reply o.store row) e c o.reply
    add-claim =
        record {
          accepted-if = zero_number;
          only_if = only;
          comes-in = λ z. flag_is (only z) ∙ brings-is;
          moves = λ z. let h = only z in moved m s (added e c s) v o.reply.flag (flag_is h ∙ brings-is) (new-in-added (rule_in m) (rule-inverse m) e s c) (gone-in-added (rule_in m) e s c);
          new_row = new_row;
          no_row = no_row;
          steps = λ z. first-is (only z);
        }
      where
        zero_number : room ≡ true → o.reply.number ≡ 0
        zero_number h = number-zero (brings_in e c b) (cond (brings_in e c b) (free_row b) 0) reported (reply-is h)

        only : o.reply.number ≡ 0 → room ≡ true
        only z = ⊎_elim (λ h. h) (λ h. absurd (refused-number h z)) (decided room)

        new_row : o.reply.flag ≡ true → o.reply.row ≡ row_step m s (add e c) o.reply o.store row (longest_at (rule_in m) e (added e c s))
        new_row f = answered-row m s e c o.reply o.store row f

        no_row : o.reply.flag ≡ false → o.reply.row ≡ 0
        no_row f = ⊎_elim (λ h. zero-first (brings_in e c b) (free_row b) reported (reply-is h) f) (λ h. (no_flag h).1) (decided room)

    -- a repeat that stood keeps its row
    pub add-keeps : (w : Word) → Stands w s → row_step m s (add e c) o.reply o.store row w ≡ row w
    unfolding row_step
    add-keeps w q = go o.reply.flag (same_word w v) refl refl
      where
        new-flag : o.reply.flag ≡ true → Stands v s → ⊥
        new-flag f p =
            ⊎_elim
            (λ h. false-not-true (not-true (stands v s) (sym brings-is ∙ sym (flag_is h) ∙ f)) (stands-is v s p))
            (λ h. false-not-true (no_flag h).0 f)
            (decided room)

        go : (t x : Bool) → o.reply.flag ≡ t → same_word w v ≡ x → cond (t && x) o.reply.row (row w) ≡ row w
        go true true f m = absurd (new-flag f (subst (λ (y : Word). Stands y s) (same_true w v m) q))
        go true false f m = refl
        go false x f m = refl
