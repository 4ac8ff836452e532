-- An accepted removal leaves a good store: with one letter less at the call's end, without the palindrome that the letter takes out, if it takes one out, and with everything else as it was.
-- `Removed` says all that a caller reads off the new bytes, and `removal` proves it.
-- Rests on `RemovedBytes` for the cells and the letters, on `RemovedOrder` and `RemovedTable` for the rows, and on `RemovedWord` for the count and the end across.
use Prim.Native.Nat.{ℕ, ◌+◌, ◌-◌, ◌≤◌, ◌<◌}
use native.Mathlib.Decide.{ℕ_discrete}
use native.Mathlib.Omega.{arith}
use mathlib.Core.Path.{◌≡◌, refl, sym, ◌∙◌}
use mathlib.Core.Bool.{Bool, true, false}
use mathlib.Core.Logic.{◌≢◌, ⊎_elim}
use lib.Dec.{eqb}
use lib.ListN.{length, drop}
use Rattle.palindromes.specs.Word.{Word}
use Rattle.palindromes.specs.Record.{count, count_of_length, longest_length}
use Rattle.palindromes.specs.End.{End, other, removed, longest_at}
use Rattle.palindromes.specs.Node.{spelt}
use Rattle.palindromes.proofs.Tests.{false-not-true, decided}
use Rattle.palindromes.proofs.Change.{stands-removed}
use Rattle.eertree.proofs.Lengths.{same-length-count, same-longest, other-length-count}
use Rattle.store.specs.Layout.{cell, capacity_in, size_in, count_in, reading_in, end_row, link_in, order_in, used_in, length_count_in, longest_length_in, letters_in}
use Rattle.store.specs.Good.{rule_of, node_in, Sized, EndIs, Good}
use Rattle.transitions.specs.Rows.{row_of}
use Rattle.transitions.specs.Opening.{used_bytes}
use Rattle.transitions.specs.Removal.{longest_before, takes_out, after_removal}
use Rattle.transitions.proofs.Rows.{covers, row-of-node}
use Rattle.transitions.specs.Bytes.{Bytes}
use Rattle.transitions.proofs.Added.{each-end}
use Rattle.transitions.proofs.RemovedWord.{letters-left, longest-left, other-left, same_left, count_same, one_less, count_less}
use Rattle.transitions.proofs.RemovedBytes.{end-holds, capacity-left, reading-left, size-left, end-left, other-end-left, spare-left, count_left, length-count-left, longest-length-left, count_kept, longest-length-kept, length-count-kept, length-kept, letters-are, rest-kept, places-free, bytes-kept}
use Rattle.transitions.proofs.RemovedOrder.{order-left, rank_left, order-stays, used-gone, used-kept}
use Rattle.transitions.proofs.RemovedTable.{used-left, rule-left, roots-left, free-left, node-left, table-left}

module _ (e : End) {b : Word} (g : Good b) (n : 0 < size_in b) where
  -- ---- the count

  -- the store counts the palindromes of the letters that are left
  count-right : count_in (after_removal e b) ≡ count (rule_of b) (removed e (letters_in b))
  count-right =
      ⊎_elim (λ k. omega (arith, count_left e g k, count_less e g k)) (λ k. count_kept e g k ∙ sym (count_same e g k)) (decided (takes_out e b))

  -- and those of each length
  length-counts-right : (j : ℕ) → 1 ≤ j → j ≤ capacity_in b → length_count_in (after_removal e b) j ≡ count_of_length (rule_of b) j (removed e (letters_in b))
  length-counts-right j l h = ⊎_elim (λ k. gone k (ℕ_discrete (length (longest_before e b)) j)) stays (decided (takes_out e b))
    where
      gone : takes_out e b ≡ true → Dec (length (longest_before e b) ≡ j) → length_count_in (after_removal e b) j ≡ count_of_length (rule_of b) j (removed e (letters_in b))
      gone k (yes p) = rw (← p) (length-count-left e g k)
      gone k (no d) = length-count-kept e g j l h (λ t. d) ∙ g.length-counts j l h ∙ other-length-count (one_less e g k) j d

      stays : takes_out e b ≡ false → length_count_in (after_removal e b) j ≡ count_of_length (rule_of b) j (removed e (letters_in b))
      stays k = length-count-kept e g j l h (λ t. absurd (false-not-true k t)) ∙ g.length-counts j l h ∙ sym (same-length-count (rule_of b) (same_left e g k) j)

  -- and has the length of the longest
  longest-right : longest_length_in (after_removal e b) ≡ longest_length (rule_of b) (removed e (letters_in b))
  longest-right =
      ⊎_elim (longest-length-left e g) (λ k. longest-length-kept e g k ∙ g.longest-is ∙ sym (same-longest (rule_of b) (same_left e g k))) (decided (takes_out e b))

  -- ---- the ends

  -- an end is right if its row held the longest palindrome there of the letters that are left
  end-from : (i : End) (r : ℕ) → end_row (after_removal e b) i ≡ r → used_in b r ≡ true → node_in b r ≡ spelt (longest_at (rule_of b) i (removed e (letters_in b))) → EndIs (after_removal e b) i
  end-from i r p u h =
      let now = used-left e g r u h (longest-left e g i).1 in
      record { used = rw p now; holds = rw (p, rule-left e g, letters-are e g n) (node-left e g n r now ∙ h) }

  end-here : EndIs (after_removal e b) e
  end-here =
      let v = spelt (longest_at (rule_of b) e (removed e (letters_in b))) in
      let l = longest-left e g e in
      let h = row-of-node g v (l.0, stands-removed e (letters_in b) l.1) in
      end-from e (row_of b v) (end-left e g) h.0 h.1

  end-across : EndIs (after_removal e b) (other e)
  end-across = go (eqb (length (longest_before e b)) (size_in b)) refl
    where
      go : (t : Bool) → eqb (length (longest_before e b)) (size_in b) ≡ t → EndIs (after_removal e b) (other e)
      go true p =
          let h = (covers g).link-is (end_row b e) (g.ends e).used in
          end-from (other e) (link_in b (end_row b e)) (rw p at (other-end-left e g)) h.0 (cc (h.1, end-holds e g, other-left e g n))
      go false p =
          let h = g.ends (other e) in
          end-from (other e) (end_row b (other e)) (rw p at (other-end-left e g)) h.used (cc (h.holds, other-left e g n))

  -- ---- the whole

  sized-left : Sized (after_removal e b)
  sized-left =
      let z = g.sized in
      record {
        at_least_one = rw (capacity-left e g) z.at_least_one;
        at_most = rw (capacity-left e g) z.at_most;
        long-enough = rw (capacity-left e g, length-kept e g) z.long-enough;
        letters-fit = omega (arith, capacity-left e g, size-left e g, z.letters-fit);
      }

  good_left : Good (after_removal e b)
  good_left =
      record {
        sized = sized-left;
        reading = rw (reading-left e g) g.reading;
        letters = rw (letters-are e g n) (letters-left e g n);
        table = table-left e g n;
        count-is = rw (rule-left e g, letters-are e g n) count-right;
        length-counts = λ j l h. rw (rule-left e g, letters-are e g n) (length-counts-right j l (rw (capacity-left e g) at h));
        longest-is = rw (rule-left e g, letters-are e g n) longest-right;
        ends = each-end (EndIs (after_removal e b)) e end-here end-across;
        order = order-left e g;
        rank = rank_left e g;
        free-rows = λ r f l u m. free-left e g r f (rw (capacity-left e g) at l) u m;
        root-letters = roots-left e g;
        free-places = λ i l h. rw (capacity-left e g) (places-free e g n i (rw (size-left e g) at l) (rw (capacity-left e g) at h));
      }

-- what an accepted removal leaves: the letters without the one at its end, the rows without that of the palindrome that goes, if one goes, and all else as it was
pub record Removed (e : End) (b : Word) : Type 0 where
  pub good : Good (after_removal e b)
  pub length-same : length (after_removal e b) ≡ length b
  pub rest-same : drop (used_bytes (capacity_in b)) (after_removal e b) ≡ drop (used_bytes (capacity_in b)) b
  pub bytes : Bytes b → Bytes (after_removal e b)
  pub capacity : capacity_in (after_removal e b) ≡ capacity_in b
  pub reading : reading_in (after_removal e b) ≡ reading_in b
  pub size : size_in (after_removal e b) ≡ size_in b - 1
  pub letters : letters_in (after_removal e b) ≡ removed e (letters_in b)
  pub count-is : count_in (after_removal e b) ≡ count (rule_of b) (removed e (letters_in b))
  pub spare : (r : ℕ) → r < capacity_in b + 2 → cell (after_removal e b) r 11 ≡ cell b r 11
  pub gone-row : takes_out e b ≡ true → used_in (after_removal e b) (end_row b e) ≡ false
  pub other_row : (r : ℕ) → (takes_out e b ≡ true → r ≢ end_row b e) → used_in (after_removal e b) r ≡ used_in b r
  pub nodes : (r : ℕ) → used_in (after_removal e b) r ≡ true → node_in (after_removal e b) r ≡ node_in b r
  pub order_same : (takes_out e b ≡ true → order_in b (count_in b - 1) ≡ end_row b e) → (i : ℕ) → i < capacity_in b → order_in (after_removal e b) i ≡ order_in b i

-- a good store that is not empty stays good under a removal
pub removal : {b : Word} (e : End) → Good b → 0 < size_in b → Removed e b
removal {b} e g n =
    record {
      good = good_left e g n;
      length-same = length-kept e g;
      rest-same = rest-kept e g n;
      bytes = bytes-kept e g n;
      capacity = capacity-left e g;
      reading = reading-left e g;
      size = size-left e g;
      letters = letters-are e g n;
      count-is = count-right e g n;
      spare = spare-left e g;
      gone-row = used-gone e g;
      other_row = used-kept e g;
      nodes = node-left e g n;
      order_same = order-stays e g;
    }
