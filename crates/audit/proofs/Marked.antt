-- The rows that the tour met, and the edges that lead to them. Each such row has one edge that leads to it, that of its inner row by its letter (`edge-back`); so by each letter no fewer edges lead back
-- from such a row than there are such rows with the letter (`back-least`), and no more than lead anywhere (`back-most`).
-- Rests on the rows met (`Toured`) and on the laws of counting of audit_fixed and audit_rows.
use Prim.Native.Nat.{ℕ, ◌+◌, ◌≤◌, ◌<◌}
use native.Mathlib.Omega.{arith}
use mathlib.Core.Path.{◌≡◌, sym, ap, ◌∙◌, subst}
use mathlib.Core.Bool.{Bool, true, ◌&&◌}
use lib.Dec.{eqb}
use borrow.Author.Tests.{eq-eqb, eqb-true}
use Rattle.palindromes.specs.Word.{Word, is_letter, all_letters}
use Rattle.palindromes.specs.End.{at_right, letter_at}
use Rattle.palindromes.specs.Node.{around}
use Rattle.palindromes.proofs.Tests.{both_true, both-are}
use Rattle.palindromes.proofs.Growth.{letter-around}
use Rattle.eertree.specs.Covers.{NodeOf}
use Rattle.eertree.proofs.Rows.{word_row, reach_of}
use Rattle.store.specs.Layout.{capacity_in, inner_in, outer_in, edge_in, used_in, letters_in}
use Rattle.store.specs.Good.{rule_of, node_in}
use Rattle.store.proofs.Sizes.{used-below}
use Rattle.walk.proofs.Found.{stored-reach}
use Rattle.transitions.proofs.Letters.{letters-piece, letter-at-end}
use Rattle.audit_fixed.specs.Counting.{count_below}
use Rattle.audit_fixed.proofs.Counting.{count-weaker, count-into}
use Rattle.audit_tour.specs.Tour.{marked_row, Toured}
use Rattle.audit_tour.specs.declared.Tour.{Tour}
use Rattle.audit_tour.proofs.Marks.{marked-met}
use Rattle.audit_rows.specs.Rows.{leads_from, four_letters, filled}
use Rattle.audit_rows.proofs.Edges.{leads-is}
use Rattle.audit_rows.proofs.Filled.{filled_is}
use Rattle.audit_rows.proofs.Letters.{count-letters}

-- a row that was met and has this letter
abbrev pub marked_by : (b marks : Word) → (c q : ℕ) → Bool
marked_by b marks c q = marked_row marks q && eqb (outer_in b q) c

-- the edge of row r by c leads to a row that was met and names r and c
unfoldable pub leads_back : (b marks : Word) → (c r : ℕ) → Bool
leads_back b marks c r = marked_row marks (edge_in b r c) && (eqb (inner_in b (edge_in b r c)) r && eqb (outer_in b (edge_in b r c)) c)

module _ (b marks : Word) (c r : ℕ) where
  -- what that says
  pub back-says : leads_back b marks c r ≡ true → (marked_row marks (edge_in b r c) ≡ true) × (inner_in b (edge_in b r c) ≡ r) × (outer_in b (edge_in b r c) ≡ c)
  unfolding leads_back
  back-says t =
      let p = both_true (marked_row marks (edge_in b r c)) (eqb (inner_in b (edge_in b r c)) r && eqb (outer_in b (edge_in b r c)) c) t in
      let q = both_true (eqb (inner_in b (edge_in b r c)) r) (eqb (outer_in b (edge_in b r c)) c) p.1 in
      (p.0, eqb-true (inner_in b (edge_in b r c)) r q.0, eqb-true (outer_in b (edge_in b r c)) c q.1)

  pub back_is : marked_row marks (edge_in b r c) ≡ true → inner_in b (edge_in b r c) ≡ r → outer_in b (edge_in b r c) ≡ c → leads_back b marks c r ≡ true
  unfolding leads_back
  back_is m i o =
      both-are (marked_row marks (edge_in b r c)) (eqb (inner_in b (edge_in b r c)) r && eqb (outer_in b (edge_in b r c)) c) m
      (both-are (eqb (inner_in b (edge_in b r c)) r) (eqb (outer_in b (edge_in b r c)) c) (eq-eqb (inner_in b (edge_in b r c)) r i) (eq-eqb (outer_in b (edge_in b r c)) c o))

  -- such an edge leads somewhere
  pub back-leads : leads_back b marks c r ≡ true → leads_from b c r ≡ true
  back-leads t = leads-is b c r λ e. omega (arith, (marked-met marks (edge_in b r c) (back-says t).0).0)

module _ {b marks carried : Word} {t : Tour} (letters : all_letters (letters_in b) ≡ true) (a : Toured b marks carried (letters_in b) t) where
  -- a row that was met is in use
  pub marked-used : (q : ℕ) → marked_row marks q ≡ true → used_in b q ≡ true
  marked-used q m = a.used q (marked-met marks q m).1

  -- and says something: its length
  pub marked-filled : (q : ℕ) → marked_row marks q ≡ true → filled b q ≡ true
  marked-filled q m =
      let p = marked-met marks q m in
      let h = word_row a.covers q p.1 p.0 in
      filled_is b q p.0 λ z. omega (arith, stored-reach b a.covers q p.1, ap reach_of h.1)

  -- its outer letter is one
  marked-letter : (q : ℕ) → marked_row marks q ≡ true → is_letter (outer_in b q) ≡ true
  marked-letter q m =
      let p = marked-met marks q m in
      let h = word_row a.covers q p.1 p.0 in
      let f : h.0 ≡ around (rule_of b) (outer_in b q) (node_in b (inner_in b q)) = cc (a.covers.outer-is q p.1 p.0, h.1) in
      let o : outer_in b q ≡ letter_at at_right h.0 = cc (letter-around (rule_of b) (outer_in b q) (node_in b (inner_in b q)), f) in
      rw o (letter-at-end at_right h.0 h.2.non-empty (letters-piece h.3 letters))

  -- so as many were met as were met with each letter
  pub met-letters : t.met ≡ four_letters (λ c. count_below (marked_by b marks c) (capacity_in b + 2))
  met-letters = a.marked ∙ count-letters (marked_row marks) (outer_in b) (capacity_in b + 2) (λ q l. marked-letter q)

  -- the edge of its inner row by its letter leads to it
  edge-back : (q : ℕ) → marked_row marks q ≡ true → edge_in b (inner_in b q) (outer_in b q) ≡ q
  edge-back q m =
      let p = marked-met marks q m in
      let word = a.covers.outer-is q p.1 p.0 in
      let e = a.covers.edge-there (inner_in b q) (outer_in b q) (a.covers.inner-is q p.1).0 (marked-letter q m) (subst (NodeOf (rule_of b) (letters_in b)) word (a.covers.each_row q p.1)) in
      a.covers.one-row (edge_in b (inner_in b q) (outer_in b q)) q e.0 p.1 (e.1 ∙ sym word)

  module _ (c : ℕ) where
    by-letter : (q : ℕ) → marked_by b marks c q ≡ true → (marked_row marks q ≡ true) × (edge_in b (inner_in b q) c ≡ q) × (outer_in b q ≡ c)
    by-letter q m =
        let p = both_true (marked_row marks q) (eqb (outer_in b q) c) m in
        let o = eqb-true (outer_in b q) c p.1 in
        (p.0, subst (λ (x : ℕ). edge_in b (inner_in b q) x ≡ q) o (edge-back q p.0), o)

    -- no fewer edges by a letter lead back than rows were met with it
    pub back-least : count_below (marked_by b marks c) (capacity_in b + 2) ≤ count_below (leads_back b marks c) (capacity_in b + 2)
    back-least = count-into (marked_by b marks c) (inner_in b) (capacity_in b + 2) (capacity_in b + 2) (leads_back b marks c) into own
      where
        into : (q : ℕ) → q < capacity_in b + 2 → marked_by b marks c q ≡ true → (inner_in b q < capacity_in b + 2) × (leads_back b marks c (inner_in b q) ≡ true)
        into q l m =
            let h = by-letter q m in
            let p = marked-met marks q h.0 in
            let inner = a.used (inner_in b q) (a.covers.inner-is q p.1).0 in
            (used-below b (inner_in b q) inner, back_is b marks c (inner_in b q) (rw h.1 h.0) (ap (inner_in b) h.1) (ap (outer_in b) h.1 ∙ h.2))

        own : (i j : ℕ) → i < capacity_in b + 2 → j < capacity_in b + 2 → marked_by b marks c i ≡ true → marked_by b marks c j ≡ true → inner_in b i ≡ inner_in b j → i ≡ j
        own i j k l m n e = sym (by-letter i m).1 ∙ ap (λ (x : ℕ). edge_in b x c) e ∙ (by-letter j n).1

    pub back-most : count_below (leads_back b marks c) (capacity_in b + 2) ≤ count_below (leads_from b c) (capacity_in b + 2)
    back-most = count-weaker (leads_back b marks c) (leads_from b c) (capacity_in b + 2) (λ r l. back-leads b marks c r)
