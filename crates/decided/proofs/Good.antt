-- Every store is good or not: each part of `Good` is decided, and the rows and places that it speaks of lie below the capacity and two.
-- Rests on the decisions of `Decide`, and on `Shows` for the table.
use Prim.Native.Nat.{ℕ, suc, ◌+◌, ◌<◌}
use native.Mathlib.Omega.{arith}
use native.Mathlib.Decide.{ℕ_discrete, dec_le, dec_lt}
use mathlib.Core.Path.{◌≡◌}
use mathlib.Core.Bool.{true, false, Bool-discrete}
use mathlib.Core.Logic.Dec
use mathlib.Core.Logic.{◌⊎◌, inl, inr, dite}
use lib.Dec.{ltb}
use lib.ListN.{length, get_or}
use borrow.Author.Tests.{ltb-true}
use Rattle.palindromes.specs.Word.{Word, all_letters}
use Rattle.palindromes.specs.Record.{count, count_of_length, longest_length}
use Rattle.palindromes.specs.End.{End, longest_at}
use Rattle.palindromes.specs.Node.{spelt}
use Rattle.palindromes.specs.Refusal.{store_size}
use Rattle.palindromes.proofs.Tests.{both_true}
use Rattle.store.specs.Layout.{cell, capacity_in, size_in, count_in, reading_in, end_row, outer_in, order_in, rank_in, used_in, length_count_in, longest_length_in, letters_at, letters_in}
use Rattle.store.specs.Good.{rule_of, table_in, node_in, Sized, OrderIs, RankIs, EndIs, Good}
use Rattle.decided.proofs.Decide.{from_either, need, implied, all-below, both_ends, Node-discrete}
use Rattle.decided.proofs.Shows.{shows-decided}

-- a used row is below the capacity and two
used-below : (b : Word) (r : ℕ) → used_in b r ≡ true → r < capacity_in b + 2
unfolding used_in
used-below b r =
    from_either
    {a = ltb r 2}
    (λ e. omega (arith, ltb-true r 2 e))
    (λ e. ltb-true r (capacity_in b + 2) (both_true (ltb r (capacity_in b + 2)) (ltb (rank_in b r) (count_in b)) e).0)

-- the parts of a good store, and then the whole
module _ (b : Word) where
  sized-decided : Dec (Sized b)
  sized-decided =
      need (dec_le 1 (capacity_in b)) (λ z. z.at_least_one) λ at_least_one.
      need (dec_le (capacity_in b) 1024) (λ z. z.at_most) λ at_most.
      need (dec_le (store_size (capacity_in b)) (length b)) (λ z. z.long-enough) λ long-enough.
      need (dec_le (size_in b) (capacity_in b)) (λ z. z.letters-fit) λ letters-fit.
      yes (record { at_least_one = at_least_one; at_most = at_most; long-enough = long-enough; letters-fit = letters-fit })

  order-decided : (i : ℕ) → Dec (OrderIs b i)
  order-decided i =
      need (dec_le 2 (order_in b i)) (λ o. o.low) λ low.
      need (dec_lt (order_in b i) (capacity_in b + 2)) (λ o. o.high) λ high.
      need (ℕ_discrete (rank_in b (order_in b i)) i) (λ o. o.back) λ back.
      yes (record { low = low; high = high; back = back })

  rank-decided : (r : ℕ) → Dec (RankIs b r)
  rank-decided r =
      need (dec_lt (rank_in b r) (capacity_in b)) (λ k. k.high) λ high.
      need (ℕ_discrete (order_in b (rank_in b r)) r) (λ k. k.back) λ back.
      yes (record { high = high; back = back })

  end-decided : (e : End) → Dec (EndIs b e)
  end-decided e =
      need (Bool-discrete (used_in b (end_row b e)) true) (λ x. x.used) λ used.
      need (Node-discrete (node_in b (end_row b e)) (spelt (longest_at (rule_of b) e (letters_in b)))) (λ x. x.holds) λ holds.
      yes (record { used = used; holds = holds })

  decision : Dec (Good b)
  decision =
      need sized-decided (λ g. g.sized) λ sized.
      need (dec_lt (reading_in b) 2) (λ g. g.reading) λ reading.
      need (Bool-discrete (all_letters (letters_in b)) true) (λ g. g.letters) λ letters.
      need (shows-decided (rule_of b) (letters_in b) (table_in b) (node_in b) (capacity_in b + 2) (used-below b)) (λ g. g.table) λ table.
      need (ℕ_discrete (count_in b) (count (rule_of b) (letters_in b))) (λ g. g.count-is) λ count-is.
      need
      (all-below (suc (capacity_in b)) (λ k. implied (dec_le 1 k) (ℕ_discrete (length_count_in b k) (count_of_length (rule_of b) k (letters_in b)))))
      (λ g k h l. g.length-counts k l (omega arith))
      λ length-counts.
      need (ℕ_discrete (longest_length_in b) (longest_length (rule_of b) (letters_in b))) (λ g. g.longest-is) λ longest-is.
      need (both_ends end-decided) (λ g. g.ends) λ ends.
      need (all-below (capacity_in b) order-decided) (λ g. g.order) λ order.
      need (all-below (capacity_in b + 2) (λ r. implied (dec_le 2 r) (rank-decided r))) (λ g r h l. g.rank r l h) λ rank.
      need
      (all-below (capacity_in b + 2) (λ r. implied (Bool-discrete (used_in b r) false) (all-below 8 (λ f. ℕ_discrete (cell b r f) 0))))
      (λ g r h u f k. g.free-rows r f h u k)
      λ free-rows.
      need (Dec.and (ℕ_discrete (outer_in b 0) 0) (ℕ_discrete (outer_in b 1) 0)) (λ g. g.root-letters) λ root-letters.
      need
      (all-below (capacity_in b) (λ i. implied (dec_le (size_in b) i) (ℕ_discrete (get_or b (letters_at (capacity_in b) + i) 0) 0)))
      (λ g i h l. g.free-places i l h)
      λ free-places.
      yes
      (record {
        sized = sized;
        reading = reading;
        letters = letters;
        table = table;
        count-is = count-is;
        length-counts = λ k l h. length-counts k (omega arith) l;
        longest-is = longest-is;
        ends = ends;
        order = order;
        rank = λ r l h. rank r h l;
        free-rows = λ r f h u k. free-rows r h u f k;
        root-letters = root-letters;
        free-places = λ i l h. free-places i h l;
      })

-- every store is good or it is not: so what a call must answer is defined for every store
pub good-decided : (b : Word) → Good b ⊎ (Good b → ⊥)
good-decided b = dite (decision b) inl inr
