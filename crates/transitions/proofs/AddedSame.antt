-- A table is read at its used rows only: one with the same used rows that says the same of them covers the same record. Rests on `Covers`.
use Prim.Native.Nat.{ℕ}
use mathlib.Core.Path.{◌≡◌, sym, ◌∙◌}
use mathlib.Core.Bool.{true}
use Rattle.palindromes.specs.Word.{Word, is_letter}
use Rattle.palindromes.specs.Node.{Node}
use Rattle.palindromes.specs.Eertree.{Table}
use Rattle.eertree.specs.Covers.{Covers, EdgesEnd}

-- T' has the same used rows as T and says the same of them
pub record SameRows (T T' : Table) : Type 0 where
  pub used-same : (r : ℕ) → T'.used r ≡ T.used r
  pub length-same : (r : ℕ) → T.used r ≡ true → T'.length r ≡ T.length r
  pub link-same : (r : ℕ) → T.used r ≡ true → T'.link r ≡ T.link r
  pub inner-same : (r : ℕ) → T.used r ≡ true → T'.inner r ≡ T.inner r
  pub outer_same : (r : ℕ) → T.used r ≡ true → T'.outer r ≡ T.outer r
  pub edge_same : (r d : ℕ) → T.used r ≡ true → is_letter d ≡ true → T'.edge r d ≡ T.edge r d

module _ {σ : ℕ → ℕ} {s : Word} {T T' : Table} {node : ℕ → Node} (g : SameRows T T') where
  -- so it covers what T covers
  pub covers-rows : Covers σ s T node → Covers σ s T' node
  covers-rows h =
      record {
        row_zero = (g.used-same 0 ∙ h.row_zero.0, h.row_zero.1);
        row_one = (g.used-same 1 ∙ h.row_one.0, h.row_one.1);
        each_row = λ r m. h.each_row r (old r m);
        each_word = λ w m p. let f = h.each_word w m p in (f.0, g.used-same f.0 ∙ f.1, f.2);
        one-row = λ r q m n. h.one-row r q (old r m) (old q n);
        length-is = λ r m. g.length-same r (old r m) ∙ h.length-is r (old r m);
        link-is = λ r m. let f = h.link-is r (old r m) in rw (g.link-same r (old r m)) (g.used-same (T.link r) ∙ f.0, f.1);
        inner-is = λ r m. let f = h.inner-is r (old r m) in rw (g.inner-same r (old r m)) (g.used-same (T.inner r) ∙ f.0, f.1);
        outer-is = λ r m b. cc (h.outer-is r (old r m) b, g.outer_same r (old r m), g.inner-same r (old r m));
        edge-there = λ r d m l n. let f = h.edge-there r d (old r m) l n in rw (g.edge_same r d (old r m) l) (g.used-same (T.edge r d) ∙ f.0, f.1);
      }
    where
      old : (r : ℕ) → T'.used r ≡ true → T.used r ≡ true
      old r m = sym (g.used-same r) ∙ m

-- and where no edge of T leads to a word that does not stand, none of T' does
pub edges-end-rows : (σ : ℕ → ℕ) (s : Word) {T T' : Table} (node : ℕ → Node) → SameRows T T' → EdgesEnd σ s T node → EdgesEnd σ s T' node
edges-end-rows σ s node g h r d m l n = let k = sym (g.used-same r) ∙ m in g.edge_same r d k l ∙ h r d k l n
