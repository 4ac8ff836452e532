-- One more change of the reading: what it does to the state, and what is claimed of it. Rests on what is proved of the bytes after it (`Turned` of transitions), on what find answers in a store whose state is
-- known (`Table`), and on `one-reading`: no word of letters is a repeat in both readings.
use Prim.Native.Nat.{ℕ, ◌<◌}
use native.Mathlib.Omega.{arith}
use mathlib.Core.Path.{◌≡◌, refl, sym, ap, ◌∙◌, subst}
use mathlib.Core.Bool.{Bool, true, false, cond, not}
use lib.Dec.{eqb}
use borrow.Author.Tests.{eqb-true, eq-eqb}
use Rattle.palindromes.specs.Word.{Word, all_letters, member}
use Rattle.palindromes.specs.Palindrome.{Palindrome}
use Rattle.palindromes.specs.Reading.{Reading, reading_number, rule_in}
use Rattle.palindromes.specs.Place.{Stands}
use Rattle.palindromes.specs.Record.{palindromes}
use Rattle.palindromes.specs.End.{not_among}
use Rattle.palindromes.specs.Node.{spelt}
use Rattle.palindromes.specs.Refusal.{find, turn, ask}
use Rattle.palindromes.proofs.Tests.{not-true-false}
use Rattle.palindromes.proofs.Lists.{keep_all}
use Rattle.palindromes.proofs.Palindromes.{palindromes-true}
use Rattle.palindromes.proofs.Readings.{number-below, one-reading}
use Rattle.store.specs.Layout.{capacity_in, letters_in}
use Rattle.transitions.specs.Rows.{row_of}
use Rattle.transitions.specs.Turning.{turned}
use Rattle.transitions.proofs.Letters.{letters-piece}
use Rattle.transitions.proofs.Turned.{Made, turned_same, turning}
use Rattle.outcome.specs.Reply.{Reply, accepted, unpacked}
use Rattle.outcome.specs.Outcome.{Lent, Outcome, outcome, accepted_outcome, changed}
use Rattle.outcome.specs.Promise.{nothing}
use Rattle.outcome.proofs.Refusals.{turn-accepted, carried-out}
use Rattle.outcome.proofs.Packing.{unpack-packed}
use Rattle.outcome.proofs.Fits.{reply-fits}
use Rattle.traces.specs.Run.{row_found, row_step}
use Rattle.traces.specs.Claims.{Table, Turned}
use Rattle.traces.proofs.State.{State}
use Rattle.traces.proofs.Table.{find-outcome, table}

-- what find answers in a store whose state is known
pub found-row : (m k : ℕ) (s : Word) (row : Word → ℕ) (b : Word) → State m k s row b → (w : Word) → Palindrome (rule_in m) w → Stands w s → row_found b w ≡ row w
unfolding row_found unpacked accepted
found-row m k s row b st w p h =
    ap (λ (r : Reply). r.row) (unpack-packed (outcome (ask (find w)) b nothing).reply (reply-fits b nothing (ask (find w)) st.good))
    ∙ ap (λ (x : Outcome). x.reply.row) (find-outcome m k s row b st w p h nothing)

-- the repeats of one reading are none of the other's
others-all : (m n : ℕ) → m < 2 → n < 2 → (m ≡ n → ⊥) → (s : Word) → all_letters s ≡ true → not_among (palindromes (rule_in m) s) (palindromes (rule_in n) s) ≡ palindromes (rule_in n) s
others-all m n below below' differ s all =
    keep_all (λ p. not (member p (palindromes (rule_in m) s))) (palindromes (rule_in n) s) λ w here.
    let q = palindromes-true (rule_in n) w s here in
    let missing : member w (palindromes (rule_in m) s) ≡ false =
    not-true-false (member w (palindromes (rule_in m) s)) (λ e.
    let p = palindromes-true (rule_in m) w s e in
    one-reading m n below below' differ w p.0.non-empty (letters-piece q.1 all) p.0.symmetric q.0.symmetric) in
    ap not missing

module _ (m k : ℕ) (s : Word) (row : Word → ℕ) (b : Word) (st : State m k s row b) (way : Reading) where
  abbrev n : ℕ
  n = reading_number way

  below : m < 2
  below = omega (arith, st.good.reading, st.reading)

  letters : all_letters s ≡ true
  letters = subst (λ (t : Word). all_letters t ≡ true) st.letters st.good.letters

  -- no repeat of the letters is one in both readings
  pub none_both : (m ≡ n → ⊥) → (w : Word) → Palindrome (rule_in m) w → Stands w s → Palindrome (rule_in n) w → ⊥
  none_both differ w p h q = one-reading m n below (number-below way) differ w p.non-empty (letters-piece h letters) p.symmetric q.symmetric

  facts : Made n (capacity_in b) (letters_in b) b (turned n b)
  facts = turning n (number-below way) st.good

  -- the state by the rows that the store itself has
  anew : State n k s (λ w. row_of (turned n b) (spelt w)) (turned n b)
  anew =
      record {
        good = facts.good;
        capacity = facts.capacity ∙ st.capacity;
        reading = facts.reading;
        letters = facts.letters ∙ st.letters;
        rows = λ w p h. refl;
        bytes = facts.bytes st.bytes;
      }

  module _ (l : Lent) where
    abbrev o : Outcome
    o = outcome (turn way) b l

    abbrev row' : Word → ℕ
    row' = row_step m s (turn way) o.reply o.store row

    turn-carried : o ≡ accepted_outcome (turn way) b l
    turn-carried = carried-out (turn way) b l (turn-accepted b l way)

    store_is : o.store ≡ turned n b
    unfolding accepted_outcome changed
    store_is = ap (λ (x : Outcome). x.store) turn-carried

    reply-is : o.reply ≡ accepted false 0 0 0
    unfolding accepted_outcome changed
    reply-is = ap (λ (x : Outcome). x.reply) turn-carried

    -- to the reading in force nothing is new
    store_same : m ≡ n → o.store ≡ b
    store_same e = store_is ∙ turned_same n b (st.reading ∙ e)

    pub rows_same : m ≡ n → (w : Word) → row' w ≡ row w
    unfolding row_step
    rows_same e w = ap (λ (t : Bool). cond t (row w) (row_found o.store w)) (eq-eqb m n e)

    -- the rows after it, in either case
    rows-after : (w : Word) → Palindrome (rule_in n) w → Stands w s → row' w ≡ row_of (turned n b) (spelt w)
    unfolding row_step
    rows-after w p h = go (eqb m n) refl
      where
        go : (t : Bool) → eqb m n ≡ t → cond t (row w) (row_found o.store w) ≡ row_of (turned n b) (spelt w)
        go true e =
            let same = eqb-true m n e in
            st.rows w (subst (λ (i : ℕ). Palindrome (rule_in i) w) (sym same) p) h ∙ ap (λ (x : Word). row_of x (spelt w)) (sym (turned_same n b (st.reading ∙ same)))
        go false e = ap (λ (x : Word). row_found x w) store_is ∙ found-row n k s (λ w. row_of (turned n b) (spelt w)) (turned n b) anew w p h

    pub turn-state : State n k s row' o.store
    turn-state =
        subst (State n k s row') (sym store_is)
        (record { good = anew.good; capacity = anew.capacity; reading = anew.reading; letters = anew.letters; rows = rows-after; bytes = anew.bytes })

    pub turn-claim : Turned m n k s row row' b o.store o.reply
    turn-claim =
        let new-table : Table n k s row' o.store = table n k s row' o.store turn-state in
        record {
          accepted-zero = reply-is;
          in-force = λ e. (store_same e, rows_same e);
          comes-in = λ differ. others-all m n below (number-below way) differ s letters;
          goes-out = λ differ. others-all n m (number-below way) below (λ e. differ (sym e)) s letters;
          new-rows = new-table;
          none_kept = none_both;
          old-absent = λ differ w p h. new-table.absent w p.non-empty (letters-piece h letters) (λ q g. none_both differ w p h q);
        }
