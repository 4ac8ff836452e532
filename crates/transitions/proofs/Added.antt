-- An accepted addition leaves a good store: with one letter more at the call's end, with the palindrome that the letter brings in, if it brings one in, in the first free row, and with
-- everything else as it was. `Added` says all that a caller reads off the new bytes, and `addition` proves it.
-- Rests on `AddedBytes` for the cells and the letters, on `AddedTable` for the rows, on `count-added` for the count and on `across-added` for the end across.
use Prim.Native.Nat.{ℕ, ◌+◌, ◌≤◌, ◌<◌}
use native.Mathlib.Decide.{ℕ_discrete}
use native.Mathlib.Omega.{arith}
use mathlib.Core.Path.{◌≡◌, refl, sym, ap, ◌∙◌}
use mathlib.Core.Bool.{Bool, true, false, cond, not, ◌&&◌, ◌||◌}
use mathlib.Core.Logic.{◌⊎◌, ⊎_elim}
use lib.Dec.{eqb}
use lib.ListN.{length, get_or, drop}
use Rattle.palindromes.specs.Word.{Word, is_letter}
use Rattle.palindromes.specs.Palindrome.{SelfInverse, is_symmetric}
use Rattle.palindromes.specs.Place.{stands}
use Rattle.palindromes.specs.Record.{count, count_of_length, longest_length}
use Rattle.palindromes.specs.End.{End, at_left, at_right, other, added, longest_at}
use Rattle.palindromes.specs.Node.{spelt}
use Rattle.palindromes.proofs.Tests.{not-true-false, false-not-true, decided}
use Rattle.palindromes.proofs.NewIn.{count-added}
use Rattle.palindromes.proofs.Across.{whole-at, whole-test, across-added}
use Rattle.palindromes.proofs.Readings.{rule-inverse}
use Rattle.eertree.proofs.Lengths.{same-length-count, same-longest, other-length-count}
use Rattle.store.specs.Layout.{cell, capacity_in, size_in, count_in, reading_in, end_row, outer_in, order_in, rank_in, used_in, length_count_in, longest_length_in, letters_at, letters_in}
use Rattle.store.specs.Good.{rule_of, node_in, Sized, OrderIs, RankIs, EndIs, Good}
use Rattle.transitions.specs.Rows.{row_of, free_row}
use Rattle.transitions.specs.Opening.{used_bytes}
use Rattle.transitions.specs.Addition.{longest_after, brings_in, row_after, after_addition}
use Rattle.transitions.proofs.Rows.{used-root}
use Rattle.transitions.specs.Bytes.{Bytes}
use Rattle.transitions.proofs.AddedWord.{Accepted, letters-after, length-after, longest-found, one_more, inner-found}
use Rattle.transitions.proofs.AddedBytes.{capacity-after, reading-after, size-after, order-after, rank-after, spare-after, end_after, other-end-after, count-new, length-count-new, longest-new, count-old, longest-old, length-count-kept, row_kept, letters-are, place_after, length-kept, rest-kept, bytes-kept}
use Rattle.transitions.proofs.AddedTable.{used-kept, used-new, used-rows, used-after, outers-kept, same, rule-after, node_kept, node-new, table-after}

-- what holds of an end and of the end across holds of both ends
pub each-end : (P : End → Type 0) (e : End) → P e → P (other e) → (i : End) → P i
each-end P at_left here across at_left = here
each-end P at_left here across at_right = across
each-end P at_right here across at_left = across
each-end P at_right here across at_right = here

module _ {e : End} {c : ℕ} {b : Word} (a : Accepted e c b) where
  -- ---- the count

  -- the store counts the palindromes of the new letters
  count-after : count_in (after_addition e c b) ≡ count (rule_of b) (added e c (letters_in b))
  unfolding brings_in longest_after
  count-after = go (stands (longest_after e c b) (letters_in b)) refl
    where
      counted : count (rule_of b) (added e c (letters_in b)) ≡ count_in b + cond (stands (longest_after e c b) (letters_in b)) 0 1
      counted = rw a.good.count-is (count-added (rule_of b) (rule-inverse (reading_in b)) e (letters_in b) c)

      go : (t : Bool) → stands (longest_after e c b) (letters_in b) ≡ t → count_in (after_addition e c b) ≡ count (rule_of b) (added e c (letters_in b))
      go true t = omega (arith, count-old a (ap not t), rw t at counted)
      go false t = count-new a (ap not t) ∙ sym (rw t at counted)

  -- and those of each length
  length-counts-after : (j : ℕ) → 1 ≤ j → j ≤ capacity_in b → length_count_in (after_addition e c b) j ≡ count_of_length (rule_of b) j (added e c (letters_in b))
  length-counts-after j l h = ⊎_elim (λ k. new k (ℕ_discrete (length (longest_after e c b)) j)) old (decided (brings_in e c b))
    where
      new : brings_in e c b ≡ true → Dec (length (longest_after e c b) ≡ j) → length_count_in (after_addition e c b) j ≡ count_of_length (rule_of b) j (added e c (letters_in b))
      new k (yes p) = rw (← p) (length-count-new a k)
      new k (no n) = length-count-kept a j l h (λ t. n) ∙ a.good.length-counts j l h ∙ sym (other-length-count (one_more a k) j n)

      old : brings_in e c b ≡ false → length_count_in (after_addition e c b) j ≡ count_of_length (rule_of b) j (added e c (letters_in b))
      old k = length-count-kept a j l h (λ t. absurd (false-not-true k t)) ∙ a.good.length-counts j l h ∙ sym (same-length-count (rule_of b) (same a k) j)

  -- and has the length of the longest
  longest-after-is : longest_length_in (after_addition e c b) ≡ longest_length (rule_of b) (added e c (letters_in b))
  longest-after-is = ⊎_elim (longest-new a) (λ k. longest-old a k ∙ a.good.longest-is ∙ sym (same-longest (rule_of b) (same a k))) (decided (brings_in e c b))

  -- ---- the ends

  -- the row that the call's end gets holds the longest palindrome there
  row-after-holds : (used_in (after_addition e c b) (row_after e c b) ≡ true) × (node_in (after_addition e c b) (row_after e c b) ≡ spelt (longest_after e c b))
  unfolding row_after
  row-after-holds = go (brings_in e c b) refl
    where
      go : (k : Bool) → brings_in e c b ≡ k → (used_in (after_addition e c b) (cond k (free_row b) (row_of b (spelt (longest_after e c b)))) ≡ true) × (node_in (after_addition e c b) (cond k (free_row b) (row_of b (spelt (longest_after e c b)))) ≡ spelt (longest_after e c b))
      go true k = (used-new a k, node-new a k)
      go false k =
          let r = row_of b (spelt (longest_after e c b)) in
          let h = longest-found a k in
          (used-kept a r h.0, node_kept a r h.0 ∙ h.1)

  -- an end is right if its row holds the longest palindrome of the new letters there
  end-from : (i : End) (r : ℕ) (w : Word) → end_row (after_addition e c b) i ≡ r → (used_in (after_addition e c b) r ≡ true) × (node_in (after_addition e c b) r ≡ spelt w)
      → longest_at (rule_of b) i (added e c (letters_in b)) ≡ w → EndIs (after_addition e c b) i
  end-from i r w p h l = record { used = rw p h.0; holds = rw (p, rule-after a, letters-are a, l) h.1 }

  -- the call's end gets that row
  end-here : EndIs (after_addition e c b) e
  unfolding longest_after
  end-here = end-from e (row_after e c b) (longest_after e c b) (end_after a) row-after-holds refl

  -- and so does the end across, where the record is one palindrome; else it keeps its row
  end-across : EndIs (after_addition e c b) (other e)
  unfolding longest_after
  end-across = go (eqb (length (longest_after e c b)) (size_in b + 1)) refl
    where
      inv : SelfInverse (rule_of b)
      inv = rule-inverse (reading_in b)

      -- the longest at the call's end is as long as the record exactly if the record is a palindrome
      whole : (t : Bool) → eqb (length (longest_after e c b)) (size_in b + 1) ≡ t → is_symmetric (rule_of b) (added e c (letters_in b)) ≡ t
      whole t p = whole-test (rule_of b) inv e (added e c (letters_in b)) ∙ rw (length-after a) p

      go : (t : Bool) → eqb (length (longest_after e c b)) (size_in b + 1) ≡ t → EndIs (after_addition e c b) (other e)
      go true p =
          let w = whole-at (rule_of b) inv in
          end-from (other e) (row_after e c b) (longest_after e c b) (rw p at (other-end-after a)) row-after-holds
          (w (other e) (added e c (letters_in b)) (whole true p) ∙ sym (w e (added e c (letters_in b)) (whole true p)))
      go false p =
          let h = a.good.ends (other e) in
          let r = end_row b (other e) in
          end-from (other e) r (longest_at (rule_of b) (other e) (letters_in b)) (rw p at (other-end-after a)) (used-kept a r h.used, node_kept a r h.used ∙ h.holds)
          (rw (whole false p) at (across-added (rule_of b) inv e c (letters_in b)))

  -- ---- the sizes, the order and what is free

  sized-after : Sized (after_addition e c b)
  sized-after =
      let z = a.good.sized in
      record {
        at_least_one = rw (capacity-after a) z.at_least_one;
        at_most = rw (capacity-after a) z.at_most;
        long-enough = rw (capacity-after a, length-kept a) z.long-enough;
        letters-fit = omega (arith, capacity-after a, size-after a, a.room);
      }

  -- the order and the ranks undo one another as before
  order-right : (i : ℕ) → i < capacity_in b → OrderIs (after_addition e c b) i
  order-right i l =
      let o = a.good.order i l in
      record {
        low = rw (order-after a i l) o.low;
        high = rw (order-after a i l, capacity-after a) o.high;
        back = rw (order-after a i l, rank-after a (order_in b i) o.low o.high) o.back;
      }

  rank_right : (r : ℕ) → 2 ≤ r → r < capacity_in b + 2 → RankIs (after_addition e c b) r
  rank_right r l h =
      let k = a.good.rank r l h in
      record {
        high = rw (rank-after a r l h, capacity-after a) k.high;
        back = rw (rank-after a r l h, order-after a (rank_in b r) k.high) k.back;
      }

  -- a row that is free after was free before, and is neither the new one nor its inner row
  free-after : (r f : ℕ) → r < capacity_in b + 2 → used_in (after_addition e c b) r ≡ false → f < 8 → cell (after_addition e c b) r f ≡ 0
  free-after r f l u m =
      row_kept a r f l m (λ k. (λ p i. away (rw p at (used-new a k)), λ p i. away (used-kept a r (rw p at (inner-found a k).0))))
      ∙ a.good.free-rows r f l (not-true-false (used_in b r) λ h. away (used-kept a r h)) m
    where
      away : used_in (after_addition e c b) r ≡ true → ⊥
      away = false-not-true u

  -- the roots have no outer letter
  roots-after : (outer_in (after_addition e c b) 0 ≡ 0) × (outer_in (after_addition e c b) 1 ≡ 0)
  roots-after = let h = a.good.root-letters in (outers-kept a 0 (used-root b 0 (omega arith)) ∙ h.0, outers-kept a 1 (used-root b 1 (omega arith)) ∙ h.1)

  -- ---- the whole

  good-after : Good (after_addition e c b)
  good-after =
      record {
        sized = sized-after;
        reading = rw (reading-after a) a.good.reading;
        letters = rw (letters-are a) (letters-after a);
        table = table-after a;
        count-is = rw (rule-after a, letters-are a) count-after;
        length-counts = λ j l h. rw (rule-after a, letters-are a) (length-counts-after j l (rw (capacity-after a) at h));
        longest-is = rw (rule-after a, letters-are a) longest-after-is;
        ends = each-end (EndIs (after_addition e c b)) e end-here end-across;
        order = λ i l. order-right i (rw (capacity-after a) at l);
        rank = λ r l h. rank_right r l (rw (capacity-after a) at h);
        free-rows = λ r f l u m. free-after r f (rw (capacity-after a) at l) u m;
        root-letters = roots-after;
        free-places = λ i l h. places i (rw (size-after a) at l) (rw (capacity-after a) at h);
      }
    where
      places : (i : ℕ) → size_in b + 1 ≤ i → i < capacity_in b → get_or (after_addition e c b) (letters_at (capacity_in (after_addition e c b)) + i) 0 ≡ 0
      places i l h = rw (capacity-after a) (place_after a (letters_at (capacity_in b) + i) (omega arith) ∙ a.good.free-places i (omega arith) h)

-- what an accepted addition leaves: the letter at its end, a new palindrome in the first free row, and all else as it was
pub record Added (e : End) (c : ℕ) (b : Word) : Type 0 where
  pub good : Good (after_addition e c b)
  pub length-same : length (after_addition e c b) ≡ length b
  pub rest-same : drop (used_bytes (capacity_in b)) (after_addition e c b) ≡ drop (used_bytes (capacity_in b)) b
  pub bytes : Bytes b → Bytes (after_addition e c b)
  pub capacity : capacity_in (after_addition e c b) ≡ capacity_in b
  pub reading : reading_in (after_addition e c b) ≡ reading_in b
  pub size : size_in (after_addition e c b) ≡ size_in b + 1
  pub letters : letters_in (after_addition e c b) ≡ added e c (letters_in b)
  pub count-is : count_in (after_addition e c b) ≡ count (rule_of b) (added e c (letters_in b))
  pub order : (i : ℕ) → i < capacity_in b → order_in (after_addition e c b) i ≡ order_in b i
  pub rank : (r : ℕ) → 2 ≤ r → r < capacity_in b + 2 → rank_in (after_addition e c b) r ≡ rank_in b r
  pub spare : (r : ℕ) → r < capacity_in b + 2 → cell (after_addition e c b) r 11 ≡ cell b r 11
  pub used-is : (r : ℕ) → used_in (after_addition e c b) r ≡ ((brings_in e c b && eqb r (free_row b)) || used_in b r)
  pub old_row : (r : ℕ) → used_in b r ≡ true → (used_in (after_addition e c b) r ≡ true) × (node_in (after_addition e c b) r ≡ node_in b r)
  pub new_row : brings_in e c b ≡ true → (used_in (after_addition e c b) (free_row b) ≡ true) × (node_in (after_addition e c b) (free_row b) ≡ spelt (longest_after e c b))
  pub no_other : (r : ℕ) → used_in (after_addition e c b) r ≡ true → (used_in b r ≡ true) ⊎ ((brings_in e c b ≡ true) × (r ≡ free_row b))

-- a good store stays good under an accepted addition, and shows the letters with one more
pub addition : {c : ℕ} {b : Word} (e : End) → Good b → is_letter c ≡ true → size_in b < capacity_in b → Added e c b
addition {c} {b} e g l room = whole (record { good = g; letter = l; room = room })
  where
    whole : Accepted e c b → Added e c b
    whole a =
        record {
          good = good-after a;
          length-same = length-kept a;
          rest-same = rest-kept a;
          bytes = bytes-kept a;
          capacity = capacity-after a;
          reading = reading-after a;
          size = size-after a;
          letters = letters-are a;
          count-is = count-after a;
          order = order-after a;
          rank = rank-after a;
          spare = spare-after a;
          used-is = used-after a;
          old_row = λ r u. (used-kept a r u, node_kept a r u);
          new_row = λ k. (used-new a k, node-new a k);
          no_other = used-rows a;
        }
