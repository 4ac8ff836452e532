-- A store that passes every test is good. As many rows were met as are in use, so these are the same; as many edges lead somewhere as rows were met, so each leads to one of them and no other; and no other
-- row says anything. So the table covers the letters, no edge of it leads anywhere else, and free rows are zero.
-- Rests on `covers-shows` of eertree, on `order_is` of audit_rows and on the laws of counting; that a good store passes every test is in `Passes`, in `Parts` of audit_fixed and in `Letter` of audit_tour.
use Prim.Native.Nat.{ℕ, zero, suc, ◌+◌, ◌≤◌, ◌<◌}
use native.Mathlib.Decide.{dec_lt}
use native.Mathlib.Omega.{arith}
use mathlib.Core.Path.{◌≡◌, refl, ◌∙◌, subst, fun_ext}
use mathlib.Core.Bool.{Bool, true, false, ◌&&◌}
use mathlib.Core.Logic.{⊎_elim}
use lib.Dec.{leb, ltb}
use borrow.Author.Tests.{le-leb, leb-true, lt-ltb}
use Rattle.std.specs.Prelude.{Some}
use Rattle.palindromes.specs.Word.{Word, is_letter}
use Rattle.palindromes.specs.End.{End, at_left, at_right}
use Rattle.palindromes.specs.Node.{spelt, around}
use Rattle.palindromes.proofs.Tests.{both_true, both-are, not-true-false, false-not-true, decided}
use Rattle.palindromes.proofs.Lists.{same_test}
use Rattle.eertree.specs.Covers.{NodeOf, Covers, EdgesEnd, with_used}
use Rattle.eertree.proofs.Covers.{covers-shows}
use Rattle.store.specs.Layout.{cell, capacity_in, count_in, inner_in, edge_cell, edge_in, rank_in, used_in, letters_in}
use Rattle.store.specs.Good.{rule_of, table_in, node_in, EndIs}
use Rattle.store.proofs.Sizes.{used-below}
use Rattle.transitions.proofs.Rows.{used-root, used-rank}
use Rattle.audit_fixed.specs.Counting.{count_below}
use Rattle.audit_fixed.proofs.Counting.{count_same, count-into, count-first}
use Rattle.audit_left.proofs.Reaches.{reaches_more}
use Rattle.audit_lengths.proofs.Lengths.{right-counts}
use Rattle.audit_tour.specs.Tour.{met_in, marked_row, Toured}
use Rattle.audit_tour.specs.declared.Tour.{Tour}
use Rattle.audit_tour.proofs.Marks.{met-root, marked-met}
use Rattle.audit_rows.specs.Rows.{leads_from, filled, RowsRight}
use Rattle.audit_rows.proofs.Places.{order_is}
use Rattle.audit_rows.proofs.Edges.{leads-nowhere}
use Rattle.audit_rows.proofs.Filled.{unfilled-cells}
use Rattle.audit_rows.proofs.Letters.{four-most, four_same}
use Rattle.audit.specs.Examined.{Started, EndsRight, Examined}
use Rattle.audit.proofs.Marked.{marked_by, leads_back, back-says, back-leads, marked-used, marked-filled, met-letters, back-least, back-most}

-- a row that is no root is in use
abbrev used_row : Word → ℕ → Bool
used_row b r = leb 2 r && used_in b r

module _ {b marks carried : Word} {t : Tour} (s : Started b) (a : Toured b marks carried (letters_in b) t) (rows : RowsRight b carried t.met) (ends : EndsRight b carried t) where
  -- ---- the rows

  -- no more are in use than the header counts: each has a rank of its own below the count
  used-few : count_below (used_row b) (capacity_in b + 2) ≤ count_in b
  used-few = omega (arith, count-into (used_row b) (rank_in b) (capacity_in b + 2) (capacity_in b) (λ i. ltb i (count_in b)) into own, count-first (count_in b) (capacity_in b))
    where
      low : (r : ℕ) → used_row b r ≡ true → (2 ≤ r) × (used_in b r ≡ true)
      low r u = let p = both_true (leb 2 r) (used_in b r) u in (leb-true 2 r p.0, p.1)

      into : (r : ℕ) → r < capacity_in b + 2 → used_row b r ≡ true → (rank_in b r < capacity_in b) × (ltb (rank_in b r) (count_in b) ≡ true)
      into r l u = let p = low r u in ((rows.each r p.0 l).rank.high, lt-ltb (rank_in b r) (count_in b) (used-rank b r p.0 p.1))

      own : (i j : ℕ) → i < capacity_in b + 2 → j < capacity_in b + 2 → used_row b i ≡ true → used_row b j ≡ true → rank_in b i ≡ rank_in b j → i ≡ j
      own i j k l u v e = cc ((rows.each i (low i u).0 k).rank.back, (rows.each j (low j v).0 l).rank.back, e)

  -- so those in use were met
  used-met : (r : ℕ) → used_in b r ≡ true → met_in marks r ≡ true
  used-met r u = go (dec_lt r 2)
    where
      marked_row_lem : (q : ℕ) → q < capacity_in b + 2 → marked_row marks q ≡ true → used_row b q ≡ true
      marked_row_lem q l m = both-are (leb 2 q) (used_in b q) (le-leb 2 q (marked-met marks q m).0) (marked-used s.letters a q m)

      go : Dec (r < 2) → met_in marks r ≡ true
      go (yes l) = met-root marks r l
      go (no l) =
          let few : count_below (used_row b) (capacity_in b + 2) ≤ count_below (marked_row marks) (capacity_in b + 2) = omega (arith, used-few, ends.count, a.marked) in
          (marked-met marks r (count_same (marked_row marks) (used_row b) (capacity_in b + 2) marked_row_lem few r (used-below b r u) (both-are (leb 2 r) (used_in b r) (le-leb 2 r (omega arith)) u))).1

  table-covers : Covers (rule_of b) (letters_in b) (table_in b) (node_in b)
  table-covers =
      let same : (r : ℕ) → met_in marks r ≡ used_in b r = λ r. same_test (met_in marks r) (used_in b r) (a.used r) (used-met r) in
      subst (λ (used : ℕ → Bool). Covers (rule_of b) (letters_in b) (with_used used (table_in b)) (node_in b)) (fun_ext same) a.covers

  -- ---- the edges

  -- by each letter all that lead somewhere lead back
  lead-back : (c : ℕ) → is_letter c ≡ true → (r : ℕ) → r < capacity_in b + 2 → leads_from b c r ≡ true → leads_back b marks c r ≡ true
  lead-back c k = count_same (leads_back b marks c) (leads_from b c) (capacity_in b + 2) (λ r l. back-leads b marks c r) (few c k)
    where
      few : (x : ℕ) → is_letter x ≡ true → count_below (leads_from b x) (capacity_in b + 2) ≤ count_below (leads_back b marks x) (capacity_in b + 2)
      few =
          four_same (λ x. count_below (leads_back b marks x) (capacity_in b + 2)) (λ x. count_below (leads_from b x) (capacity_in b + 2)) (λ x l. back-most s.letters a x)
          (omega (arith, rows.edges, met-letters s.letters a, four-most (λ x. count_below (marked_by b marks x) (capacity_in b + 2)) (λ x. count_below (leads_back b marks x) (capacity_in b + 2)) (λ x l. back-least s.letters a x)))

  -- to a row that holds the word around their row
  table-ends : EdgesEnd (rule_of b) (letters_in b) (table_in b) (node_in b)
  table-ends r c u l n = ⊎_elim (λ e. absurd (there (lead-back c l r (used-below b r u) e))) (leads-nowhere b c r) (decided (leads_from b c r))
    where
      there : leads_back b marks c r ≡ true → ⊥
      there e =
          let p = back-says b marks c r e in
          let m = marked-met marks (edge_in b r c) p.0 in
          let w : node_in b (edge_in b r c) ≡ spelt (around (rule_of b) c (node_in b r)) = cc (a.covers.outer-is (edge_in b r c) m.1 m.0, p.1, p.2) in
          n (subst (NodeOf (rule_of b) (letters_in b)) w (a.covers.each_row (edge_in b r c) m.1))

  -- ---- free rows

  module _ (r : ℕ) (l : r < capacity_in b + 2) (f : used_in b r ≡ false) where
    free-low : 2 ≤ r
    free-low = go (dec_lt r 2)
      where
        go : Dec (r < 2) → 2 ≤ r
        go (yes h) = absurd (false-not-true f (used-root b r h))
        go (no h) = omega arith

    -- a row that says something was met
    free-cells : cell b r 0 + cell b r 1 + cell b r 2 + cell b r 3 ≡ 0
    free-cells =
        let few : count_below (filled b) (capacity_in b + 2) ≤ count_below (marked_row marks) (capacity_in b + 2) = omega (arith, rows.said, a.marked) in
        unfilled-cells b r free-low (not-true-false (filled b r) λ t. false-not-true f (marked-used s.letters a r (count_same (marked_row marks) (filled b) (capacity_in b + 2) (λ q h. marked-filled s.letters a q) few r l t)))

    -- and an edge that leads back is that of a row in use
    free-edge : (c : ℕ) → is_letter c ≡ true → edge_in b r c ≡ 0
    free-edge c k = ⊎_elim (λ e. absurd (there (lead-back c k r l e))) (leads-nowhere b c r) (decided (leads_from b c r))
      where
        there : leads_back b marks c r ≡ true → ⊥
        there e =
            let p = back-says b marks c r e in
            let m = marked-met marks (edge_in b r c) p.0 in
            false-not-true f (subst (λ (q : ℕ). used_in b q ≡ true) p.1 (a.used (inner_in b (edge_in b r c)) (a.covers.inner-is (edge_in b r c) m.1).0))

    free-zero : (i : ℕ) → i < 8 → cell b r i ≡ 0
    unfolding edge_in edge_cell is_letter
    free-zero zero h = omega (arith, free-cells)
    free-zero (suc zero) h = omega (arith, free-cells)
    free-zero (suc (suc zero)) h = omega (arith, free-cells)
    free-zero (suc (suc (suc zero))) h = omega (arith, free-cells)
    free-zero (suc (suc (suc (suc zero)))) h = free-edge 65 refl
    free-zero (suc (suc (suc (suc (suc zero))))) h = free-edge 67 refl
    free-zero (suc (suc (suc (suc (suc (suc zero)))))) h = free-edge 71 refl
    free-zero (suc (suc (suc (suc (suc (suc (suc zero))))))) h = free-edge 84 refl
    free-zero (suc (suc (suc (suc (suc (suc (suc (suc i)))))))) h = absurd (omega arith)

  -- ---- all of it

  table-end : (e : End) → EndIs b e
  table-end at_left = record { used = rw ends.left (a.used t.left (a.ends at_left).row-used); holds = rw ends.left (a.ends at_left).row-holds }
  table-end at_right = record { used = rw ends.right (a.used t.row (a.ends at_right).row-used); holds = rw ends.right (a.ends at_right).row-holds }

  pub passed-good : Examined b (Some t)
  passed-good = (
    record {
      sized = s.header.sized;
      reading = s.header.reading;
      letters = s.letters;
      table = covers-shows table-covers table-ends;
      count-is = ends.count ∙ a.met-is;
      length-counts = right-counts s.header.sized a.lengths (λ r l h. (rows.each r l h).carries);
      longest-is = ends.longest ∙ a.lengths.longest;
      ends = table-end;
      order = order_is (λ r l h. (rows.each r l h).rank);
      rank = λ r l h. (rows.each r l h).rank;
      free-rows = λ r f l u i. free-zero r l u f i;
      root-letters = (s.roots.imaginary.outer, s.roots.empty.outer);
      free-places = s.places;
    },
    λ e. reaches_more a.used (a.ends e),
  )
