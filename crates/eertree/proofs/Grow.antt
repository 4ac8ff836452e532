-- How a table follows a letter more. Where the longest palindrome at that end stood before, the palindromes stay and so does the table. Where it did not, the new record has one
-- palindrome more (`OneMore`), and with one row more, hung at the edge of its inner row (`Hung`), the table covers the new record. A removal is the same two records the
-- other way round. Here the empty word counts as a palindrome.
-- Rests on `Covers`, on `around-injective`, and on `at-most-one-new`; at either end on `new-is-longest` and `gone-is-longest`, and so on a partner rule that undoes itself.
use Prim.Native.Nat.{ℕ, ◌≤◌}
use native.Mathlib.Omega.{arith}
use mathlib.Core.Path.{◌≡◌, refl, sym, ap, ◌∙◌, subst}
use mathlib.Core.Bool.{true, ◌||◌}
use mathlib.Core.Logic.Iff
use mathlib.Core.Logic.{◌⊎◌, inl, inr, ⊎_elim}
use mathlib.Core.List.{[], ◌∷◌, ◌++◌}
use lib.Dec.{eqb}
use lib.ListN.{length, length-append}
use borrow.Author.Tests.{eqb-true, eq-eqb}
use Rattle.palindromes.specs.Word.{Word, is_letter}
use Rattle.palindromes.specs.Palindrome.{SelfInverse, Symmetric}
use Rattle.palindromes.specs.Place.{Stands}
use Rattle.palindromes.specs.Record.{longest_suffix}
use Rattle.palindromes.specs.End.{End, added, removed, longest_at}
use Rattle.palindromes.specs.Node.{Node, imaginary, spelt, length_of, link_of, inner_of, around}
use Rattle.palindromes.specs.Eertree.{Table}
use Rattle.palindromes.proofs.Lists.{either_true, left_is, right_is}
use Rattle.palindromes.proofs.Words.{stands-snoc, suffix-stands}
use Rattle.palindromes.proofs.Longest.{longest-suffix}
use Rattle.palindromes.proofs.Change.{stands-added, stands-removed, at-most-one-new, new-is-longest, gone-is-longest}
use Rattle.palindromes.proofs.NewIn.{longest-at}
use Rattle.palindromes.proofs.Growth.{inner-stands, inner-around, around-injective}
use Rattle.eertree.specs.Covers.{NodeOf, Covers, EdgesEnd}
use Rattle.eertree.proofs.Covers.{SamePalindromes}

-- t has one palindrome more than s: w
pub record OneMore (σ : ℕ → ℕ) (s t w : Word) : Type 0 where
  pub symmetric : Symmetric σ w
  pub there : Stands w t
  pub not-before : Stands w s → ⊥
  pub old : {x : Word} → Stands x s → Stands x t
  pub only : (x : Word) → Symmetric σ x → Stands x t → (x ≡ w) ⊎ Stands x s

-- T' is T with a row q more, for the word around row u by c, hung at u's edge; nothing else of a used row changes
pub record Hung (σ : ℕ → ℕ) (T T' : Table) (node node' : ℕ → Node) (u c q : ℕ) : Type 0 where
  pub used-also : (r : ℕ) → T'.used r ≡ (eqb r q || T.used r)
  pub nodes-kept : (r : ℕ) → T.used r ≡ true → node' r ≡ node r
  pub new-node : node' q ≡ spelt (around σ c (node u))
  pub length-new : T'.length q ≡ length_of (spelt (around σ c (node u)))
  pub link-new : (T.used (T'.link q) ≡ true) × (node (T'.link q) ≡ link_of σ (spelt (around σ c (node u))))
  pub inner-new : T'.inner q ≡ u
  pub outer-new : T'.outer q ≡ c
  pub edge-new : T'.edge u c ≡ q
  pub length-kept : (r : ℕ) → T.used r ≡ true → T'.length r ≡ T.length r
  pub link-kept : (r : ℕ) → T.used r ≡ true → T'.link r ≡ T.link r
  pub inner-kept : (r : ℕ) → T.used r ≡ true → T'.inner r ≡ T.inner r
  pub outer-kept : (r : ℕ) → T.used r ≡ true → T'.outer r ≡ T.outer r
  pub edge_kept : (r d : ℕ) → T.used r ≡ true → is_letter d ≡ true → ((r ≡ u) × (d ≡ c) → ⊥) → T'.edge r d ≡ T.edge r d

-- ---- records

module _ (σ : ℕ → ℕ) where
  -- where what a change can bring in stood before, the palindromes stay
  same-words : {s t w : Word} → ((x : Word) → Stands x s → Stands x t) → ((x : Word) → Symmetric σ x → Stands x t → (x ≡ w) ⊎ Stands x s) → Stands w s → SamePalindromes σ s t
  same-words {s} old only p x m = (old x, λ q. ⊎_elim (λ e. rw e p) (λ k. k) (only x m q))

  -- one letter more at the right end: the palindromes stay, or there is one more
  pub same-snoc : (s : Word) (c : ℕ) → Stands (longest_suffix σ (s ++ (c ∷ []))) s → SamePalindromes σ s (s ++ (c ∷ []))
  same-snoc s c p = same-words (λ x q. stands-snoc c q) (λ x m q. at-most-one-new σ s x c m q) p

  pub one-more-snoc : (s : Word) (c : ℕ) → (Stands (longest_suffix σ (s ++ (c ∷ []))) s → ⊥) → OneMore σ s (s ++ (c ∷ [])) (longest_suffix σ (s ++ (c ∷ [])))
  one-more-snoc s c n =
      let l = longest-suffix σ (s ++ (c ∷ [])) in
      record { symmetric = l.symmetric; there = suffix-stands l.suffix; not-before = n; old = stands-snoc c; only = λ x m q. at-most-one-new σ s x c m q }

module _ (σ : ℕ → ℕ) (inv : SelfInverse σ) where
  -- one letter more at either end
  pub same-added : (e : End) (s : Word) (c : ℕ) → Stands (longest_at σ e (added e c s)) s → SamePalindromes σ s (added e c s)
  same-added e s c p = same-words σ (λ x q. stands-added e c q) (λ x m q. new-is-longest σ inv e s x c m q) p

  pub one-more-added : (e : End) (s : Word) (c : ℕ) → (Stands (longest_at σ e (added e c s)) s → ⊥) → OneMore σ s (added e c s) (longest_at σ e (added e c s))
  one-more-added e s c n =
      let l = longest-at σ inv e (added e c s) in
      record { symmetric = l.0; there = l.1; not-before = n; old = stands-added e c; only = λ x m q. new-is-longest σ inv e s x c m q }

  -- one letter less
  pub same-removed : (e : End) (s : Word) → Stands (longest_at σ e s) (removed e s) → SamePalindromes σ s (removed e s)
  same-removed e s p x m = Iff.symm (same-words σ (λ x q. stands-removed e s q) (λ x m q. gone-is-longest σ inv e s x m q) p x m)

  pub one-more-removed : (e : End) (s : Word) → (Stands (longest_at σ e s) (removed e s) → ⊥) → OneMore σ (removed e s) s (longest_at σ e s)
  one-more-removed e s n =
      let l = longest-at σ inv e s in
      record { symmetric = l.0; there = l.1; not-before = n; old = stands-removed e s; only = λ x m q. gone-is-longest σ inv e s x m q }

module _ {σ : ℕ → ℕ} {s t w : Word} (o : OneMore σ s t w) where
  -- every node stays one
  pub node-old : (v : Node) → NodeOf σ s v → NodeOf σ t v
  node-old imaginary n = tt
  node-old (spelt x) n = (n.0, o.old n.1)

  -- the new palindrome is a leaf: no word around it stands
  pub none-around : (d : ℕ) → NodeOf σ t (spelt (around σ d (spelt w))) → ⊥
  unfolding around
  none-around d n = ⊎_elim same before (o.only (around σ d (spelt w)) n.0 n.1)
    where
      same : around σ d (spelt w) ≡ w → ⊥
      same e = omega (arith, simp length-append at (ap length e))

      before : Stands (around σ d (spelt w)) s → ⊥
      before p = o.not-before (inner-stands (σ d) w d p)

-- ---- tables

module _ {σ : ℕ → ℕ} {T T' : Table} {node node' : ℕ → Node} {u c q : ℕ} (g : Hung σ T T' node node' u c q) where
  -- what was used is used, and the new row is
  hung-old : (r : ℕ) → T.used r ≡ true → T'.used r ≡ true
  hung-old r k = g.used-also r ∙ right_is (eqb r q) (T.used r) k

  hung-new : T'.used q ≡ true
  hung-new = g.used-also q ∙ left_is (eqb q q) (T.used q) (eq-eqb q q refl)

  -- and nothing else
  hung-rows : (r : ℕ) → T'.used r ≡ true → (r ≡ q) ⊎ (T.used r ≡ true)
  hung-rows r k = ⊎_elim (λ e. inl (eqb-true r q e)) inr (either_true (eqb r q) (T.used r) (sym (g.used-also r) ∙ k))

module _ {σ : ℕ → ℕ} {s t : Word} {T T' : Table} {node node' : ℕ → Node} {u c q : ℕ} (h : Covers σ s T node) (o : OneMore σ s t (around σ c (node u))) (k : T.used u ≡ true)
    (g : Hung σ T T' node node' u c q) where
  -- 001 proposition 2.5: with the row of the one palindrome more, the table covers the record that has it
  pub grow-new : Covers σ t T' node'
  grow-new =
      record {
        row_zero = (hung-old g 0 h.row_zero.0, g.nodes-kept 0 h.row_zero.0 ∙ h.row_zero.1);
        row_one = (hung-old g 1 h.row_one.0, g.nodes-kept 1 h.row_one.0 ∙ h.row_one.1);
        each_row = λ r m. row r (hung-rows g r m);
        each_word = λ x m p. word x m (o.only x m p);
        one-row = λ r p m n e. rows r p (hung-rows g r m) (hung-rows g p n) e;
        length-is = λ r m. lengths r (hung-rows g r m);
        link-is = λ r m. links r (hung-rows g r m);
        inner-is = λ r m. inners r (hung-rows g r m);
        outer-is = λ r m b. outers r b (hung-rows g r m);
        edge-there = λ r d m l n. edges r d l n (hung-rows g r m);
      }
    where
      row : (r : ℕ) → (r ≡ q) ⊎ (T.used r ≡ true) → NodeOf σ t (node' r)
      row r (inl e) = subst (NodeOf σ t) (sym (ap node' e ∙ g.new-node)) (o.symmetric, o.there)
      row r (inr m) = subst (NodeOf σ t) (sym (g.nodes-kept r m)) (node-old o (node r) (h.each_row r m))

      word : (x : Word) → Symmetric σ x → (x ≡ around σ c (node u)) ⊎ Stands x s → (r : ℕ) × (T'.used r ≡ true) × (node' r ≡ spelt x)
      word x m (inl e) = (q, hung-new g, cc (e, g.new-node))
      word x m (inr p) = let e = h.each_word x m p in (e.0, hung-old g e.0 e.1, g.nodes-kept e.0 e.1 ∙ e.2)

      apart : (r : ℕ) → T.used r ≡ true → node' r ≡ node' q → ⊥
      apart r m e =
          let f : node r ≡ spelt (around σ c (node u)) = cc (g.nodes-kept r m, g.new-node) in
          let n : NodeOf σ s (spelt (around σ c (node u))) = subst (NodeOf σ s) f (h.each_row r m) in
          o.not-before n.1

      rows : (r p : ℕ) → (r ≡ q) ⊎ (T.used r ≡ true) → (p ≡ q) ⊎ (T.used p ≡ true) → node' r ≡ node' p → r ≡ p
      rows r p (inl a) (inl b) e = cc
      rows r p (inl a) (inr b) e = absurd (apart p b (cc))
      rows r p (inr a) (inl b) e = absurd (apart r a (cc))
      rows r p (inr a) (inr b) e = h.one-row r p a b (cc (g.nodes-kept r a, g.nodes-kept p b))

      lengths : (r : ℕ) → (r ≡ q) ⊎ (T.used r ≡ true) → T'.length r ≡ length_of (node' r)
      lengths r (inl e) = cc (g.length-new, g.new-node)
      lengths r (inr m) = cc (g.length-kept r m, g.nodes-kept r m, h.length-is r m)

      links : (r : ℕ) → (r ≡ q) ⊎ (T.used r ≡ true) → (T'.used (T'.link r) ≡ true) × (node' (T'.link r) ≡ link_of σ (node' r))
      links r (inl e) =
          let f = g.link-new in
          rw e (hung-old g (T'.link q) f.0, cc (g.nodes-kept (T'.link q) f.0, f.1, g.new-node))
      links r (inr m) =
          let f = h.link-is r m in
          rw (g.link-kept r m) (hung-old g (T.link r) f.0, cc (g.nodes-kept (T.link r) f.0, f.1, g.nodes-kept r m))

      inners : (r : ℕ) → (r ≡ q) ⊎ (T.used r ≡ true) → (T'.used (T'.inner r) ≡ true) × (node' (T'.inner r) ≡ inner_of (node' r))
      inners r (inl e) = rw (e, g.inner-new) (hung-old g u k, cc (g.nodes-kept u k, g.new-node, inner-around σ c (node u)))
      inners r (inr m) =
          let f = h.inner-is r m in
          rw (g.inner-kept r m) (hung-old g (T.inner r) f.0, cc (g.nodes-kept (T.inner r) f.0, f.1, g.nodes-kept r m))

      outers : (r : ℕ) → 2 ≤ r → (r ≡ q) ⊎ (T.used r ≡ true) → node' r ≡ spelt (around σ (T'.outer r) (node' (T'.inner r)))
      outers r b (inl e) = cc (g.new-node, g.outer-new, g.inner-new, g.nodes-kept u k)
      outers r b (inr m) =
          cc (h.outer-is r m b, g.nodes-kept r m, g.outer-kept r m, g.inner-kept r m, g.nodes-kept (T.inner r) (h.inner-is r m).0)

      edges : (r d : ℕ) → is_letter d ≡ true → NodeOf σ t (spelt (around σ d (node' r))) → (r ≡ q) ⊎ (T.used r ≡ true)
          → (T'.used (T'.edge r d) ≡ true) × (node' (T'.edge r d) ≡ spelt (around σ d (node' r)))
      edges r d l n (inl e) = absurd (none-around o d (subst (λ (v : Node). NodeOf σ t (spelt (around σ d v))) (ap node' e ∙ g.new-node) n))
      edges r d l n (inr m) = go (o.only (around σ d (node' r)) n.0 n.1)
        where
          go : (around σ d (node' r) ≡ around σ c (node u)) ⊎ Stands (around σ d (node' r)) s → (T'.used (T'.edge r d) ≡ true) × (node' (T'.edge r d) ≡ spelt (around σ d (node' r)))
          go (inl e) =
              let i = around-injective σ d c (node' r) (node u) e in
              let j : r ≡ u = h.one-row r u m k (cc (i.1, g.nodes-kept r m)) in
              (cc (hung-new g, g.edge-new, i.0), cc (g.new-node, g.edge-new, i.0, e))
          go (inr p) =
              let e = g.nodes-kept r m in
              let f = h.edge-there r d m l (subst (λ (v : Node). NodeOf σ s (spelt (around σ d v))) e (n.0, p)) in
              let b : T'.edge r d ≡ T.edge r d = g.edge_kept r d m l λ i. o.not-before (subst (λ (x : Word). Stands x s) (cc (i.0, i.1)) p) in
              rw b (hung-old g (T.edge r d) f.0, cc (g.nodes-kept (T.edge r d) f.0, f.1, e))

module _ {σ : ℕ → ℕ} {s t : Word} {T T' : Table} {node node' : ℕ → Node} {u c q : ℕ} (o : OneMore σ s t (around σ c (node u))) (g : Hung σ T T' node node' u c q) where
  -- and no edge leads to a word that does not stand, if none leads from the new row
  pub grow-new-edges : EdgesEnd σ s T node → ((d : ℕ) → is_letter d ≡ true → T'.edge q d ≡ 0) → EdgesEnd σ t T' node'
  grow-new-edges e z r d m l n = go (hung-rows g r m)
    where
      go : (r ≡ q) ⊎ (T.used r ≡ true) → T'.edge r d ≡ 0
      go (inl i) = rw i (z d l)
      go (inr i) =
          let f = g.nodes-kept r i in
          let b = g.edge_kept r d i l (λ j. n (subst (λ (x : Word). NodeOf σ t (spelt x)) (cc (j.0, j.1)) (o.symmetric, o.there))) in
          b ∙ e r d i l λ a. n (subst (λ (v : Node). NodeOf σ t (spelt (around σ d v))) (sym f) (node-old o (spelt (around σ d (node r))) a))
