-- How a table follows a letter less: where the longest palindrome at that end stands elsewhere too, the table covers the rest as it is (`same-removed`); where it does not, its row is
-- a leaf, to which no link, no inner row and no edge but its inner row's leads and from which no edge leads, and without that row the table covers the rest.
-- Rests on `Covers`, `Rows` and the two records of `Grow`.
use Prim.Native.Nat.{ℕ, ◌≤◌, ◌<◌}
use native.Mathlib.Omega.{arith}
use mathlib.Core.Path.{◌≡◌, refl, sym, ap, ◌∙◌, subst}
use mathlib.Core.Bool.{true, false, not, ◌&&◌}
use mathlib.Core.Logic.{◌⊎◌, inl, inr, ⊎_elim}
use mathlib.Core.List.{[], ◌∷◌}
use lib.Dec.{eqb}
use borrow.Author.Tests.{eqb-true, eqb-false, eq-eqb, ne_eqb, not-true}
use Rattle.palindromes.specs.Word.{Word, is_letter}
use Rattle.palindromes.specs.Place.{Stands}
use Rattle.palindromes.specs.Node.{Node, imaginary, spelt, link_of, inner_of, around, spelling_of}
use Rattle.palindromes.specs.Eertree.{Table}
use Rattle.palindromes.proofs.Tests.{both_true, both-are, decided, false-not-true}
use Rattle.palindromes.proofs.Longest.{longest-suffix}
use Rattle.palindromes.proofs.Growth.{link-stands, inner-of, around-injective}
use Rattle.palindromes.proofs.Places.{stands-empty}
use Rattle.eertree.specs.Covers.{NodeOf, Covers, EdgesEnd}
use Rattle.eertree.proofs.Rows.{reach_of, row-high, link-falls, inner-falls}
use Rattle.eertree.proofs.Grow.{OneMore, node-old, none-around}

-- T' is T without row q: the edge of q's inner row by q's outer letter is 0, and nothing else of another used row changes
pub record Dropped (T T' : Table) (q : ℕ) : Type 0 where
  pub used-less : (r : ℕ) → T'.used r ≡ (not (eqb r q) && T.used r)
  pub length-kept : (r : ℕ) → T.used r ≡ true → (r ≡ q → ⊥) → T'.length r ≡ T.length r
  pub link-kept : (r : ℕ) → T.used r ≡ true → (r ≡ q → ⊥) → T'.link r ≡ T.link r
  pub inner-kept : (r : ℕ) → T.used r ≡ true → (r ≡ q → ⊥) → T'.inner r ≡ T.inner r
  pub outer-kept : (r : ℕ) → T.used r ≡ true → (r ≡ q → ⊥) → T'.outer r ≡ T.outer r
  pub edge-gone : T'.edge (T.inner q) (T.outer q) ≡ 0
  pub edge_kept :
      (r d : ℕ) → T.used r ≡ true → (r ≡ q → ⊥) → is_letter d ≡ true → ((r ≡ T.inner q) × (d ≡ T.outer q) → ⊥) → T'.edge r d ≡ T.edge r d

module _ {T T' : Table} {q : ℕ} (g : Dropped T T' q) where
  -- what is used was used, and is not the row that went; and nothing else went
  dropped-rows : (r : ℕ) → T'.used r ≡ true → (r ≡ q → ⊥) × (T.used r ≡ true)
  dropped-rows r m =
      let b = both_true (not (eqb r q)) (T.used r) (sym (g.used-less r) ∙ m) in
      (eqb-false r q (not-true (eqb r q) b.0), b.1)

  dropped-old : (r : ℕ) → T.used r ≡ true → (r ≡ q → ⊥) → T'.used r ≡ true
  dropped-old r m n = g.used-less r ∙ both-are (not (eqb r q)) (T.used r) (ap not (ne_eqb r q n)) m

-- ---- what a node leads to

-- the link of a node is a node, and so is its inner word
link-node : (σ : ℕ → ℕ) (s : Word) (v : Node) → NodeOf σ s v → NodeOf σ s (link_of σ v)
unfolding link_of
link-node σ s imaginary n = tt
link-node σ s (spelt []) n = tt
link-node σ s (spelt (x ∷ w)) n = ((longest-suffix σ w).symmetric, link-stands σ n.1)

inner-node : (σ : ℕ → ℕ) (s : Word) (v : Node) → NodeOf σ s v → NodeOf σ s (inner_of v)
unfolding inner_of spelling_of
inner-node σ s imaginary n = tt
inner-node σ s (spelt []) n = tt
inner-node σ s (spelt (x ∷ [])) n = tt
inner-node σ s (spelt (x ∷ y ∷ w)) n = inner-of σ (x ∷ y ∷ w) n.0 n.1

-- ---- the row of the one palindrome more

module _ {σ : ℕ → ℕ} {s t w : Word} {T : Table} {node : ℕ → Node} {q : ℕ} (h : Covers σ t T node) (o : OneMore σ s t w) (k : T.used q ≡ true) (e : node q ≡ spelt w) where
  -- it is no root
  pub leaf-high : 2 ≤ q
  leaf-high = row-high h q e λ n. o.not-before (rw n (stands-empty s))

  -- every other row holds a node of the record without it
  other-rows : (r : ℕ) → T.used r ≡ true → (r ≡ q → ⊥) → NodeOf σ s (node r)
  other-rows r m n = go (node r) refl
    where
      go : (v : Node) → node r ≡ v → NodeOf σ s v
      go imaginary i = tt
      go (spelt x) i =
          let a : NodeOf σ t (spelt x) = subst (NodeOf σ t) i (h.each_row r m) in
          (a.0, ⊎_elim (λ f. absurd (n (h.one-row r q m k (cc)))) (λ p. p) (o.only x a.0 a.1))

  -- no node of the record without it is that row's
  not-leaf : (v : Node) → NodeOf σ s v → v ≡ node q → ⊥
  not-leaf v n i =
      let a : NodeOf σ s (spelt w) = subst (NodeOf σ s) (i ∙ e) n in
      o.not-before a.1

  -- nor that of a shorter row to which another leads
  not-led : (r i : ℕ) → T.used r ≡ true → (NodeOf σ s (node r) → NodeOf σ s (node i)) → ((r ≡ 0 → ⊥) → reach_of (node i) < reach_of (node r)) → i ≡ q → ⊥
  not-led r i m n l f = go (decided (eqb r q))
    where
      go : (eqb r q ≡ true) ⊎ (eqb r q ≡ false) → ⊥
      go (inl j) =
          let g = eqb-true r q j in
          omega (arith, l λ z. omega (arith, leaf-high), ap (λ (x : ℕ). reach_of (node x)) (f ∙ sym g))
      go (inr j) = not-leaf (node i) (n (other-rows r m (eqb-false r q j))) (ap node f)

  -- so no row links to it, and it is the inner row of none
  pub leaf-links : (r : ℕ) → T.used r ≡ true → T.link r ≡ q → ⊥
  leaf-links r m = not-led r (T.link r) m (λ n. subst (NodeOf σ s) (sym (h.link-is r m).1) (link-node σ s (node r) n)) (link-falls h r m)

  pub leaf-inners : (r : ℕ) → T.used r ≡ true → T.inner r ≡ q → ⊥
  leaf-inners r m = not-led r (T.inner r) m (λ n. subst (NodeOf σ s) (sym (h.inner-is r m).1) (inner-node σ s (node r) n)) (inner-falls h r m)

  -- and no edge leads from it
  pub leaf_edges : EdgesEnd σ t T node → (d : ℕ) → is_letter d ≡ true → T.edge q d ≡ 0
  leaf_edges f d l = f q d k l λ n. none-around o d (subst (λ (v : Node). NodeOf σ t (spelt (around σ d v))) e n)

  -- it hangs at the edge of its inner row by its outer letter, and at no other
  leaf-word : w ≡ around σ (T.outer q) (node (T.inner q))
  leaf-word = cc (h.outer-is q k leaf-high)

  leaf-hangs : (r d : ℕ) → T.used r ≡ true → around σ d (node r) ≡ w → (r ≡ T.inner q) × (d ≡ T.outer q)
  leaf-hangs r d m f =
      let i = around-injective σ d (T.outer q) (node r) (node (T.inner q)) (f ∙ leaf-word) in
      (h.one-row r (T.inner q) m (h.inner-is q k).0 i.1, i.0)

  -- ---- without it

  module _ {T' : Table} (g : Dropped T T' q) where
    -- without that row the table covers the record without the palindrome
    pub shrink : Covers σ s T' node
    shrink =
        record {
          row_zero = (dropped-old g 0 h.row_zero.0 λ z. omega (arith, leaf-high), h.row_zero.1);
          row_one = (dropped-old g 1 h.row_one.0 λ z. omega (arith, leaf-high), h.row_one.1);
          each_row = λ r m. let u = dropped-rows g r m in other-rows r u.1 u.0;
          each_word = λ x m p.
              let f = h.each_word x m (o.old p) in
              (f.0, dropped-old g f.0 f.1 λ i. not-leaf (spelt x) (m, p) (cc f.2), f.2);
          one-row = λ r p m n. h.one-row r p (dropped-rows g r m).1 (dropped-rows g p n).1;
          length-is = λ r m. let u = dropped-rows g r m in g.length-kept r u.1 u.0 ∙ h.length-is r u.1;
          link-is = λ r m.
              let u = dropped-rows g r m in
              let f = h.link-is r u.1 in
              rw (g.link-kept r u.1 u.0) (dropped-old g (T.link r) f.0 (leaf-links r u.1), f.1);
          inner-is = λ r m.
              let u = dropped-rows g r m in
              let f = h.inner-is r u.1 in
              rw (g.inner-kept r u.1 u.0) (dropped-old g (T.inner r) f.0 (leaf-inners r u.1), f.1);
          outer-is = λ r m b.
              let u = dropped-rows g r m in
              cc (h.outer-is r u.1 b, g.outer-kept r u.1 u.0, g.inner-kept r u.1 u.0);
          edge-there = λ r d m l n.
              let u = dropped-rows g r m in
              let f = h.edge-there r d u.1 l (node-old o (spelt (around σ d (node r))) n) in
              rw (g.edge_kept r d u.1 u.0 l λ i. o.not-before (subst (λ (x : Word). Stands x s) (cc (leaf-word, i.0, i.1)) n.1))
              (dropped-old g (T.edge r d) f.0 λ i. not-leaf (spelt (around σ d (node r))) n (cc f.1), f.1);
        }

    -- and no edge leads to a word that does not stand
    pub shrink-edges : EdgesEnd σ t T node → EdgesEnd σ s T' node
    shrink-edges f r d m l n = go (decided (eqb r (T.inner q) && eqb d (T.outer q)))
      where
        go : ((eqb r (T.inner q) && eqb d (T.outer q)) ≡ true) ⊎ ((eqb r (T.inner q) && eqb d (T.outer q)) ≡ false) → T'.edge r d ≡ 0
        go (inl j) =
            let b = both_true (eqb r (T.inner q)) (eqb d (T.outer q)) j in
            cc (g.edge-gone, eqb-true r (T.inner q) b.0, eqb-true d (T.outer q) b.1)
        go (inr j) =
            let u = dropped-rows g r m in
            g.edge_kept r d u.1 u.0 l away ∙ f r d u.1 l λ a. ⊎_elim (λ i. away (leaf-hangs r d u.1 i)) (λ p. n (a.0, p)) (o.only (around σ d (node r)) a.0 a.1)
          where
            away : (r ≡ T.inner q) × (d ≡ T.outer q) → ⊥
            away i = false-not-true j (both-are (eqb r (T.inner q)) (eqb d (T.outer q)) (eq-eqb r (T.inner q) i.0) (eq-eqb d (T.outer q) i.1))
