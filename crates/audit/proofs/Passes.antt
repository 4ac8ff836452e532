-- A good store passes the tests after the tour: a row in use holds a palindrome of the letters, the tour met a row that holds it, and there is only one. So the rows met are those in use, the edges that
-- lead somewhere lead to them, each to one of its own, and no other row says anything. Rests on the laws of a good store and of the rows met (`Marked`).
use Prim.Native.Nat.{ℕ, ◌+◌, ◌≤◌, ◌<◌}
use native.Mathlib.Omega.{arith}
use mathlib.Core.Path.{◌≡◌, refl, sym, ◌∙◌, subst}
use mathlib.Core.Bool.{true, false}
use mathlib.Core.Logic.{⊎_elim}
use lib.Dec.{eqb}
use borrow.Author.Tests.{eq-eqb}
use Rattle.palindromes.specs.Word.{Word, is_letter, member}
use Rattle.palindromes.specs.Record.{palindromes}
use Rattle.palindromes.specs.End.{End, at_left, at_right}
use Rattle.palindromes.specs.Node.{Node, imaginary, spelt, around}
use Rattle.palindromes.proofs.Tests.{both-are, false-not-true, decided}
use Rattle.palindromes.proofs.Letters.{letter-cases}
use Rattle.eertree.specs.Covers.{NodeOf}
use Rattle.eertree.proofs.Rows.{imaginary-row}
use Rattle.store.specs.Layout.{capacity_in, end_row, edge_cell, edge_in, outer_in, used_in, letters_in}
use Rattle.store.specs.Good.{rule_of, node_in, Good}
use Rattle.transitions.proofs.Rows.{covers}
use Rattle.audit_edge.specs.Edge.{PointsBack}
use Rattle.audit_edge.proofs.Edge.{good-names}
use Rattle.audit_fixed.specs.Counting.{count_below}
use Rattle.audit_fixed.proofs.Counting.{count-weaker, count-into}
use Rattle.audit_lengths.proofs.Lengths.{good-counts}
use Rattle.audit_tour.specs.Tour.{met_in, marked_row, reach_at, Toured}
use Rattle.audit_tour.specs.declared.Tour.{Tour}
use Rattle.audit_tour.proofs.Marks.{met-root, met-row}
use Rattle.audit_rows.specs.Rows.{leads_from, edges_below, filled, RowsRight}
use Rattle.audit_rows.proofs.Edges.{leads-there}
use Rattle.audit_rows.proofs.Filled.{filled-low, unfilled-is}
use Rattle.audit_rows.proofs.Letters.{four-most}
use Rattle.audit.specs.Examined.{EndsRight}
use Rattle.audit.proofs.Marked.{marked_by, leads_back, marked-filled, met-letters, back-least, back-most}

-- an edge's cell is one of the first eight
edge-below : (c : ℕ) → is_letter c ≡ true → edge_cell c < 8
unfolding edge_cell
edge-below = letter-cases (λ c. edge_cell c < 8) (omega arith) (omega arith) (omega arith) (omega arith)

module _ {b marks carried : Word} {t : Tour} (g : Good b) (a : Toured b marks carried (letters_in b) t) where
  -- every row in use was met
  good-met : (r : ℕ) → used_in b r ≡ true → met_in marks r ≡ true
  good-met r u = by (node_in b r) refl
    where
      by : (v : Node) → node_in b r ≡ v → met_in marks r ≡ true
      by imaginary e = subst (λ (q : ℕ). met_in marks q ≡ true) (sym (imaginary-row (covers g) r u e)) (met-root marks 0 (omega arith))
      by (spelt w) e =
          let n : NodeOf (rule_of b) (letters_in b) (spelt w) = subst (NodeOf (rule_of b) (letters_in b)) e ((covers g).each_row r u) in
          let f = a.covers.each_word w n.0 n.1 in
          subst (λ (q : ℕ). met_in marks q ≡ true) (g.table.one-row f.0 r (a.used f.0 f.1) u (f.2 ∙ sym e)) f.1

  -- an edge that leads somewhere leads to such a row, which names it
  module _ (c : ℕ) (k : is_letter c ≡ true) where
    lead-names : (r : ℕ) → r < capacity_in b + 2 → leads_from b c r ≡ true → (used_in b (edge_in b r c) ≡ true) × PointsBack b r c (edge_in b r c)
    unfolding edge_in
    lead-names r l e = ⊎_elim used (λ u. absurd (leads-there b c r e (zero-edge u))) (decided (used_in b r))
      where
        zero-edge : used_in b r ≡ false → edge_in b r c ≡ 0
        zero-edge u = g.free-rows r (edge_cell c) l u (edge-below c k)

        used : used_in b r ≡ true → (used_in b (edge_in b r c) ≡ true) × PointsBack b r c (edge_in b r c)
        used u =
            ⊎_elim
            (λ m. let h = (g.table.edge-is r c u k).there m in (h.0, good-names g r c (edge_in b r c) u h.0 h.1))
            (λ m. absurd (leads-there b c r e ((g.table.edge-is r c u k).nowhere m)))
            (decided (member (around (rule_of b) c (node_in b r)) (palindromes (rule_of b) (letters_in b))))

    -- so no more lead somewhere by a letter than rows were met with it
    lead-most : count_below (leads_from b c) (capacity_in b + 2) ≤ count_below (marked_by b marks c) (capacity_in b + 2)
    lead-most = count-into (leads_from b c) (λ r. edge_in b r c) (capacity_in b + 2) (capacity_in b + 2) (marked_by b marks c) into own
      where
        into : (r : ℕ) → r < capacity_in b + 2 → leads_from b c r ≡ true → (edge_in b r c < capacity_in b + 2) × (marked_by b marks c (edge_in b r c) ≡ true)
        into r l e =
            let h = lead-names r l e in
            (h.1.high, both-are (marked_row marks (edge_in b r c)) (eqb (outer_in b (edge_in b r c)) c) (met-row marks (edge_in b r c) h.1.low (good-met (edge_in b r c) h.0)) (eq-eqb (outer_in b (edge_in b r c)) c h.1.outer))

        own : (i j : ℕ) → i < capacity_in b + 2 → j < capacity_in b + 2 → leads_from b c i ≡ true → leads_from b c j ≡ true → edge_in b i c ≡ edge_in b j c → i ≡ j
        own i j l m e f h = cc ((lead-names i l e).1.inner, (lead-names j m f).1.inner, h)

  -- as many lead somewhere as rows were met
  good-edges : edges_below b (capacity_in b + 2) ≡ t.met
  good-edges =
      omega (
        arith,
        met-letters g.letters a,
        four-most (λ c. count_below (leads_from b c) (capacity_in b + 2)) (λ c. count_below (marked_by b marks c) (capacity_in b + 2)) lead-most,
        four-most (λ c. count_below (marked_by b marks c) (capacity_in b + 2)) (λ c. count_below (leads_back b marks c) (capacity_in b + 2)) (λ c l. back-least g.letters a c),
        four-most (λ c. count_below (leads_back b marks c) (capacity_in b + 2)) (λ c. count_below (leads_from b c) (capacity_in b + 2)) (λ c l. back-most g.letters a c),
      )

  -- and as many rows say something
  good-said : count_below (filled b) (capacity_in b + 2) ≡ t.met
  good-said =
      omega (
        arith,
        a.marked,
        count-weaker (marked_row marks) (filled b) (capacity_in b + 2) (λ q l. marked-filled g.letters a q),
        count-weaker (filled b) (marked_row marks) (capacity_in b + 2) filled-marked,
      )
    where
      filled-marked : (r : ℕ) → r < capacity_in b + 2 → filled b r ≡ true → marked_row marks r ≡ true
      filled-marked r l e = ⊎_elim (λ u. met-row marks r (filled-low b r e) (good-met r u)) (λ u. absurd (false-not-true (empty u) e)) (decided (used_in b r))
        where
          empty : used_in b r ≡ false → filled b r ≡ false
          empty u =
              unfilled-is b r (filled-low b r e)
              (omega (arith, g.free-rows r 0 l u (omega arith), g.free-rows r 1 l u (omega arith), g.free-rows r 2 l u (omega arith), g.free-rows r 3 l u (omega arith)))

  pub good-rows : RowsRight b carried t.met
  good-rows = record { each = λ r l h. record { rank = g.rank r l h; carries = good-counts g.sized a.lengths g r l h }; edges = good-edges; said = good-said }

  -- the header has what the tour found
  good-end : (e : End) → end_row b e ≡ (reach_at e t).row
  good-end e = g.table.one-row (end_row b e) (reach_at e t).row (g.ends e).used (a.used (reach_at e t).row (a.ends e).row-used) ((g.ends e).holds ∙ sym (a.ends e).row-holds)

  pub good-ends : EndsRight b carried t
  good-ends = record { count = g.count-is ∙ sym a.met-is; left = good-end at_left; right = good-end at_right; longest = g.longest-is ∙ sym a.lengths.longest }
