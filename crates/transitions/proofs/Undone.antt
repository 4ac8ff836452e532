-- A removal right after an addition at the same end gives back every byte, takes out what the addition brought in, from the row that it had taken, and answers the letter.
-- For the two stores show the same: the letters by `removed-added`, the rows and what they hold by `Added` and `Removed`, and the order of the rows since the row that came is the last in use,
-- so that it changes places with itself. `Determined` says that they are then equal.
use Prim.Native.Nat.{ℕ, ◌-◌, ◌<◌}
use native.Mathlib.Decide.{ℕ_discrete}
use native.Mathlib.Omega.{arith}
use mathlib.Core.Path.{◌≡◌, refl, sym, ap, ◌∙◌}
use mathlib.Core.Bool.{Bool, true, false}
use mathlib.Core.Logic.{◌≢◌}
use borrow.Author.Tests.{ne_eqb}
use Rattle.palindromes.specs.Word.{Word, is_letter}
use Rattle.palindromes.specs.Reading.{rule_in}
use Rattle.palindromes.specs.End.{End, removed}
use Rattle.palindromes.proofs.Tests.{false-not-true}
use Rattle.palindromes.proofs.Words.{removed-added}
use Rattle.store.specs.Layout.{capacity_in, size_in, count_in, end_row, order_in, used_in, letters_in}
use Rattle.store.specs.Good.{Good}
use Rattle.transitions.specs.Rows.{free_row}
use Rattle.transitions.specs.Opening.{used_bytes}
use Rattle.transitions.specs.Addition.{longest_after, brings_in, after_addition}
use Rattle.transitions.specs.Removal.{longest_before, takes_out, after_removal}
use Rattle.transitions.proofs.Rows.{count_most, free-row}
use Rattle.transitions.specs.Bytes.{Bytes}
use Rattle.transitions.proofs.Determined.{Alike, determined}
use Rattle.transitions.proofs.AddedBytes.{count-new}
use Rattle.transitions.proofs.Added.{Added, addition}
use Rattle.transitions.proofs.RemovedBytes.{behind}
use Rattle.transitions.proofs.Removed.{Removed, removal}

module _ (e : End) (c : ℕ) {b : Word} (g : Good b) (letter : is_letter c ≡ true) (room : size_in b < capacity_in b) where
  came : Added e c b
  came = addition e g letter room

  went : Removed e (after_addition e c b)
  went = removal e came.good (omega (arith, came.size))

  -- ---- what the removal answers

  left_is : removed e (letters_in (after_addition e c b)) ≡ letters_in b
  left_is = ap (removed e) came.letters ∙ removed-added e c (letters_in b)

  -- it takes out exactly what the addition brought in
  pub takes_back : takes_out e (after_addition e c b) ≡ brings_in e c b
  unfolding takes_out brings_in longest_before longest_after
  takes_back = cc (ap rule_in came.reading, came.letters, left_is)

  -- and the row that the addition took is free again
  pub row_back : brings_in e c b ≡ true → end_row (after_addition e c b) e ≡ free_row b
  unfolding longest_after
  row_back k =
      let h = came.good.ends e in
      let q = came.new_row k in
      came.good.table.one-row (end_row (after_addition e c b) e) (free_row b) h.used q.0 (cc (h.holds, q.1, came.letters, ap rule_in came.reading))

  -- ---- what the two stores show

  used-back : (r : ℕ) → used_in b r ≡ used_in (after_removal e (after_addition e c b)) r
  used-back r = go (brings_in e c b) refl (ℕ_discrete r (free_row b))
    where
      still : (brings_in e c b ≡ true → r ≢ free_row b) → used_in (after_removal e (after_addition e c b)) r ≡ used_in (after_addition e c b) r
      still n = went.other_row r λ t p. let k = sym takes_back ∙ t in n k (p ∙ row_back k)

      go : (t : Bool) → brings_in e c b ≡ t → Dec (r ≡ free_row b) → used_in b r ≡ used_in (after_removal e (after_addition e c b)) r
      go true k (yes p) = cc ((free-row g room).unused, went.gone-row (takes_back ∙ k), row_back k)
      go true k (no p) = cc (still (λ t. p), came.used-is r, ne_eqb r (free_row b) p)
      go false k d = cc (still (λ t. absurd (false-not-true k t)), came.used-is r)

  -- that row is the last in use
  last-back : takes_out e (after_addition e c b) ≡ true → order_in (after_addition e c b) (count_in (after_addition e c b) - 1) ≡ end_row (after_addition e c b) e
  unfolding free_row
  last-back t =
      let k = sym takes_back ∙ t in
      let i : count_in (after_addition e c b) - 1 ≡ count_in b = omega (arith, count-new (record { good = g; letter = letter; room = room }) k) in
      ap (order_in (after_addition e c b)) i ∙ came.order (count_in b) (omega (arith, count_most g)) ∙ sym (row_back k)

  alike : Alike b (after_removal e (after_addition e c b))
  alike =
      record {
        lengths = sym (went.length-same ∙ came.length-same);
        capacity = sym (went.capacity ∙ came.capacity);
        reading = sym (went.reading ∙ came.reading);
        letters = sym (went.letters ∙ left_is);
        used = used-back;
        nodes = λ r u. sym (went.nodes r (sym (used-back r) ∙ u) ∙ (came.old_row r u).1);
        order = λ i l. sym (went.order_same last-back i (rw came.capacity l) ∙ came.order i l);
        spare = λ r l. sym (went.spare r (rw came.capacity l) ∙ came.spare r l);
        rest = behind b (after_removal e (after_addition e c b)) (used_bytes (capacity_in b)) (sym ((rw came.capacity at went.rest-same) ∙ came.rest-same));
      }

  -- an addition and a removal at the same end give back every byte
  pub undone : Bytes b → after_removal e (after_addition e c b) ≡ b
  undone h = sym (determined g went.good alike h (went.bytes (came.bytes h)))
