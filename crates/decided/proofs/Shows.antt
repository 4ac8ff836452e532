-- Whether a table is the eertree of a record can be told, for a table whose used rows lie below a bound. A field of `Shows` speaks of the used rows, which
-- are below that bound; of the letters, which are below 85; or of the nodes, which are the two roots and the palindromes of the record.
-- Rests on the decisions of `Decide`.
use Prim.Native.Nat.{ℕ, ◌<◌}
use native.Mathlib.Omega.{arith}
use native.Mathlib.Decide.{ℕ_discrete, dec_le}
use mathlib.Core.Path.{◌≡◌, refl, sym, ◌∙◌}
use mathlib.Core.Bool.{true, false, Bool-discrete}
use mathlib.Core.Logic.Dec
use mathlib.Core.List.{[], ◌∷◌}
use lib.Dec.{eqb}
use lib.IntN.{ℤ_discrete}
use borrow.Author.Tests.{eqb-true}
use Rattle.palindromes.specs.Word.{Word, is_letter, same_word, member}
use Rattle.palindromes.specs.Record.{palindromes}
use Rattle.palindromes.specs.Node.{Node, imaginary, spelt, length_of, link_of, inner_of, around, is_node}
use Rattle.palindromes.specs.Eertree.{Table, EdgeIs, Shows}
use Rattle.decided.proofs.Decide.{from_either, need, implied, all-within, some-within, all_in, Node-discrete}

-- the letters are numbers below 85
letter-below : (c : ℕ) → is_letter c ≡ true → c < 85
unfolding is_letter
letter-below c =
    from_either (from_either (from_either (below 65 (omega arith)) (below 67 (omega arith))) (below 71 (omega arith))) (below 84 (omega arith))
  where
    below : (k : ℕ) → k < 85 → eqb c k ≡ true → c < 85
    below k l e = omega (arith, eqb-true c k e)

-- a word is a node where it is empty or a palindrome of the record
spelt-node : (σ : ℕ → ℕ) (s w : Word) → is_node σ s (spelt w) ≡ member w ([] ∷ palindromes σ s)
unfolding is_node member same_word
spelt-node σ s [] = refl
spelt-node σ s (x ∷ w) = refl

-- a statement on all nodes of the eertree
all-nodes : {P : Node → Type 0} (σ : ℕ → ℕ) (s : Word) → ((v : Node) → Dec (P v)) → Dec ((v : Node) → is_node σ s v ≡ true → P v)
unfolding is_node
all-nodes σ s p =
    need (p imaginary) (λ f. f imaginary refl) λ root.
    need (all_in ([] ∷ palindromes σ s) (λ w. p (spelt w))) (λ f w m. f (spelt w) (spelt-node σ s w ∙ m)) λ words.
    yes (elim [ imaginary ↦ λ h. root | spelt w ↦ λ h. words w (sym (spelt-node σ s w) ∙ h) ])

module _ (σ : ℕ → ℕ) (s : Word) (T : Table) (node : ℕ → Node) (n : ℕ) (bound : (r : ℕ) → T.used r ≡ true → r < n) where
  -- a row is used
  used-decided : (r : ℕ) → Dec (T.used r ≡ true)
  used-decided r = Bool-discrete (T.used r) true

  -- a row is used and holds the node named
  holds-decided : (r : ℕ) (v : Node) → Dec ((T.used r ≡ true) × (node r ≡ v))
  holds-decided r v = Dec.and (used-decided r) (Node-discrete (node r) v)

  -- a statement on all used rows
  all-rows : {P : ℕ → Type 0} → ((r : ℕ) → Dec (P r)) → Dec ((r : ℕ) → T.used r ≡ true → P r)
  all-rows = all-within n bound used-decided

  -- an edge leads where it must
  edge-decided : (r c : ℕ) → Dec (EdgeIs σ s T node r c)
  edge-decided r c =
      let found = member (around σ c (node r)) (palindromes σ s) in
      need (implied (Bool-discrete found true) (holds-decided (T.edge r c) (spelt (around σ c (node r))))) (λ e. e.there) λ there.
      need (implied (Bool-discrete found false) (ℕ_discrete (T.edge r c) 0)) (λ e. e.nowhere) λ nowhere.
      yes (record { there = there; nowhere = nowhere })

  -- whether the table is the eertree of the record
  pub shows-decided : Dec (Shows σ s T node)
  shows-decided =
      need (holds-decided 0 imaginary) (λ t. t.row_zero) λ row_zero.
      need (holds-decided 1 (spelt [])) (λ t. t.row_one) λ row_one.
      need (all-rows (λ r. Bool-discrete (is_node σ s (node r)) true)) (λ t. t.each_row) λ each_row.
      need (all-nodes σ s (λ v. some-within n bound used-decided (λ r. Node-discrete (node r) v))) (λ t. t.each-node) λ each-node.
      need (all-rows (λ r. all-rows (λ q. implied (Node-discrete (node r) (node q)) (ℕ_discrete r q)))) (λ t r u q w. t.one-row r q u w) λ one-row.
      need (all-rows (λ r. ℤ_discrete (T.length r) (length_of (node r)))) (λ t. t.length-is) λ length-is.
      need (all-rows (λ r. holds-decided (T.link r) (link_of σ (node r)))) (λ t. t.link-is) λ link-is.
      need (all-rows (λ r. holds-decided (T.inner r) (inner_of (node r)))) (λ t. t.inner-is) λ inner-is.
      need
      (all-rows (λ r. implied (dec_le 2 r) (Node-discrete (node r) (spelt (around σ (T.outer r) (node (T.inner r)))))))
      (λ t. t.outer-is)
      λ outer-is.
      need (all-rows (λ r. all-within 85 letter-below (λ c. Bool-discrete (is_letter c) true) (edge-decided r))) (λ t r u c l. t.edge-is r c u l) λ edge-is.
      yes
      (record {
        row_zero = row_zero;
        row_one = row_one;
        each_row = each_row;
        each-node = each-node;
        one-row = λ r q u w. one-row r u q w;
        length-is = length-is;
        link-is = link-is;
        inner-is = inner-is;
        outer-is = outer-is;
        edge-is = λ r c u l. edge-is r u c l;
      })
