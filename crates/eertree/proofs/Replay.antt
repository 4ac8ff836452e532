-- Reading a record letter by letter over a table. Over a table that covers the whole record each letter leads, from the row that the walk along the links finds, to the row
-- of the longest palindrome that then ends what is read (`step-there`). Over a table of which a row is used only once it is met, so that it covers what is read so far, a letter leads to a used
-- row, or to a row that is met for the first time, or to none (`read-old`, `read-new`, `read_none`), and the table covers what is then read.
-- Rests on `Covers` and `Grow`, on the walk of palindromes, and on `longest-suffix`. Here the empty word counts as a palindrome.
use Prim.Native.Nat.{ℕ, ◌≤◌}
use mathlib.Core.Path.{◌≡◌, refl, sym, subst}
use mathlib.Core.Bool.{Bool, true, false, ◌||◌}
use mathlib.Core.List.{[], ◌∷◌, ◌++◌}
use lib.Dec.{eqb}
use Rattle.palindromes.specs.Word.{Word, is_letter}
use Rattle.palindromes.specs.Place.{Stands}
use Rattle.palindromes.specs.Record.{longest_suffix}
use Rattle.palindromes.specs.Node.{Node, spelt, length_of, link_of, around}
use Rattle.palindromes.specs.Eertree.{Table}
use Rattle.palindromes.proofs.Tests.{false-not-true}
use Rattle.palindromes.proofs.Words.{suffix-stands, stands-trans}
use Rattle.palindromes.proofs.Longest.{longest-suffix}
use Rattle.palindromes.proofs.Growth.{Walk, Faces, candidate-start, walk-link}
use Rattle.palindromes.proofs.Places.{stands-empty}
use Rattle.eertree.specs.Covers.{with_used, NodeOf, Covers}
use Rattle.eertree.proofs.Covers.{covers-same}
use Rattle.eertree.proofs.Grow.{Hung, same-snoc, one-more-snoc, grow-new}

-- row q says what is right of the word around row u by c
pub record Fits (σ : ℕ → ℕ) (T : Table) (node : ℕ → Node) (u c q : ℕ) : Type 0 where
  pub word : node q ≡ spelt (around σ c (node u))
  pub length-right : T.length q ≡ length_of (node q)
  pub link-right : (T.used (T.link q) ≡ true) × (node (T.link q) ≡ link_of σ (node q))
  pub inner-right : T.inner q ≡ u
  pub outer-right : T.outer q ≡ c

-- ---- over a table that covers the record

-- the walk for the next letter starts at what holds the longest palindrome that ends what is read
pub walk_first : (σ : ℕ → ℕ) (c : ℕ) (p : Word) (v : Node) → v ≡ spelt (longest_suffix σ p) → Walk σ c p v
walk_first σ c p v e = subst (Walk σ c p) (sym e) (candidate-start σ c p)

module _ {σ : ℕ → ℕ} {s : Word} {T : Table} {node : ℕ → Node} (h : Covers σ s T node) where
  -- and goes on along the links of the rows
  pub walk-next : (c : ℕ) (p : Word) (r : ℕ) → T.used r ≡ true → Walk σ c p (node r) → (Faces σ c p (node r) → ⊥) → Walk σ c p (node (T.link r))
  walk-next c p r m a f = subst (Walk σ c p) (sym (h.link-is r m).1) (walk-link σ c p (node r) a f)

  -- where the longest palindrome with the next letter is the word around a row, the row's edge leads to it
  pub step-there : (p : Word) (c : ℕ) → Stands (p ++ (c ∷ [])) s → is_letter c ≡ true → (u : ℕ) → T.used u ≡ true → longest_suffix σ (p ++ (c ∷ [])) ≡ around σ c (node u)
      → (T.used (T.edge u c) ≡ true) × (node (T.edge u c) ≡ spelt (longest_suffix σ (p ++ (c ∷ []))))
  step-there p c q l u m e =
      let a = longest-suffix σ (p ++ (c ∷ [])) in
      rw e (h.edge-there u c m l (subst (λ (x : Word). NodeOf σ s (spelt x)) e (a.symmetric, stands-trans (suffix-stands a.suffix) q)))

-- ---- over a table whose used rows are those met so far

module _ {σ : ℕ → ℕ} {p : Word} {T : Table} {node : ℕ → Node} (h : Covers σ p T node) where
  -- no row serves: there is nothing new
  pub read_none : (c : ℕ) → longest_suffix σ (p ++ (c ∷ [])) ≡ [] → Covers σ (p ++ (c ∷ [])) T node
  read_none c e = covers-same (same-snoc σ p c (rw e (stands-empty p))) h

  module _ (u c : ℕ) (m : T.used u ≡ true) (e : longest_suffix σ (p ++ (c ∷ [])) ≡ around σ c (node u)) where
    -- the edge leads to a row met before that names the edge: it holds the longest palindrome, which stood before
    pub read-old : (q : ℕ) → T.used q ≡ true → 2 ≤ q → T.inner q ≡ u → T.outer q ≡ c
        → Covers σ (p ++ (c ∷ [])) T node × (node q ≡ spelt (longest_suffix σ (p ++ (c ∷ [])))) × Stands (longest_suffix σ (p ++ (c ∷ []))) p
    read-old q k b i j =
        let f : node q ≡ spelt (longest_suffix σ (p ++ (c ∷ []))) = cc (h.outer-is q k b) in
        let n : NodeOf σ p (spelt (longest_suffix σ (p ++ (c ∷ [])))) = subst (NodeOf σ p) f (h.each_row q k) in
        (covers-same (same-snoc σ p c n.1) h, f, n.1)

    -- it leads to a row not met before: the longest palindrome did not stand before
    pub read-fresh : is_letter c ≡ true → T.used (T.edge u c) ≡ false → Stands (longest_suffix σ (p ++ (c ∷ []))) p → ⊥
    read-fresh l k a =
        false-not-true k (h.edge-there u c m l (subst (λ (x : Word). NodeOf σ p (spelt x)) e ((longest-suffix σ (p ++ (c ∷ []))).symmetric, a))).0

    -- and if the row says of it what is right, the table with that row used as well covers what is now read
    pub read-new : is_letter c ≡ true → (q : ℕ) → T.edge u c ≡ q → T.used q ≡ false → Fits σ T node u c q
        → (used : ℕ → Bool) → ((r : ℕ) → used r ≡ (eqb r q || T.used r)) → Covers σ (p ++ (c ∷ [])) (with_used used T) node
    read-new l q f k g used also = grow-new h (rw e at (one-more-snoc σ p c (read-fresh l (rw f k)))) m hung
      where
        hung : Hung σ T (with_used used T) node node u c q
        hung =
            record {
              used-also = also;
              nodes-kept = λ r i. refl;
              new-node = g.word;
              length-new = cc;
              link-new = (g.link-right.0, cc);
              inner-new = g.inner-right;
              outer-new = g.outer-right;
              edge-new = f;
              length-kept = λ r i. refl;
              link-kept = λ r i. refl;
              inner-kept = λ r i. refl;
              outer-kept = λ r i. refl;
              edge_kept = λ r d i j n. refl;
            }
