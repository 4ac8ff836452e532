-- A table covers a record: it shows the record's eertree, said with propositions in place of tests, and an edge may lead to a row that is not used. A table that is
-- read only in part, row by row, has edges to rows that are not read yet. `EdgesEnd` is the half that is missing, and the two together are `Shows`. Both depend on the
-- record through its palindromes only, so a table covers a record exactly if it covers the record's mirror. Here the empty word counts as a palindrome.
-- Rests on the palindromes of a record as a list (`palindromes-true`, `palindromes-is`) and on `stands-in-mirror`.
use Prim.Native.Nat.{ℕ}
use mathlib.Core.Path.{◌≡◌, refl, sym, ◌∙◌, subst}
use mathlib.Core.Bool.{true}
use mathlib.Core.Logic.{◌↔◌}
use mathlib.Core.List.{[], ◌∷◌, ◌++◌, cons-ne-nil}
use Rattle.palindromes.specs.Word.{Word, member}
use Rattle.palindromes.specs.Palindrome.{SelfInverse, mirror, Symmetric}
use Rattle.palindromes.specs.Place.{Stands}
use Rattle.palindromes.specs.Record.{palindromes}
use Rattle.palindromes.specs.Node.{Node, imaginary, spelt, around, is_node}
use Rattle.palindromes.specs.Eertree.{Table, Shows}
use Rattle.palindromes.proofs.Tests.{not-true-false, false-not-true}
use Rattle.palindromes.proofs.Mirror.{mirror-empty, stands-in-mirror}
use Rattle.palindromes.proofs.Places.{stands-empty}
use Rattle.palindromes.proofs.Palindromes.{palindromes-true, palindromes-is}
use Rattle.eertree.specs.Covers.{NodeOf, Covers, EdgesEnd}

-- the two records have the same palindromes
abbrev pub SamePalindromes : (ℕ → ℕ) → Word → Word → Type 0
SamePalindromes σ s t = (w : Word) → Symmetric σ w → Stands w s ↔ Stands w t

-- the word around a node is not empty
pub around-not-empty : (σ : ℕ → ℕ) (c : ℕ) (v : Node) → around σ c v ≡ [] → ⊥
unfolding around
around-not-empty σ c imaginary e = cons-ne-nil c [] e
around-not-empty σ c (spelt w) e = cons-ne-nil (σ c) (w ++ (c ∷ [])) e

module _ (σ : ℕ → ℕ) (s : Word) where
  -- ---- the test and the proposition

  -- the test of a node says what its name says
  pub node-true : (v : Node) → is_node σ s v ≡ true → NodeOf σ s v
  unfolding is_node
  node-true imaginary h = tt
  node-true (spelt []) h = (mirror-empty σ, stands-empty s)
  node-true (spelt (x ∷ w)) h = let p = palindromes-true σ (x ∷ w) s h in (p.0.symmetric, p.1)

  pub node-is : (v : Node) → NodeOf σ s v → is_node σ s v ≡ true
  unfolding is_node
  node-is imaginary h = refl
  node-is (spelt []) h = refl
  node-is (spelt (x ∷ w)) h = palindromes-is σ (x ∷ w) s (record { non-empty = cons-ne-nil x w; symmetric = h.0 }) h.1

  -- the word around a node is in the list of palindromes exactly if it is a node
  around-true : (c : ℕ) (v : Node) → member (around σ c v) (palindromes σ s) ≡ true → NodeOf σ s (spelt (around σ c v))
  around-true c v m = let p = palindromes-true σ (around σ c v) s m in (p.0.symmetric, p.1)

  around-is : (c : ℕ) (v : Node) → NodeOf σ s (spelt (around σ c v)) → member (around σ c v) (palindromes σ s) ≡ true
  around-is c v h = palindromes-is σ (around σ c v) s (record { non-empty = around-not-empty σ c v; symmetric = h.0 }) h.1

module _ {σ : ℕ → ℕ} {s : Word} {T : Table} {node : ℕ → Node} where
  -- ---- to cover and to show

  -- a table that shows the eertree of a record covers the record
  pub shows-covers : Shows σ s T node → Covers σ s T node
  shows-covers h =
      record {
        row_zero = h.row_zero;
        row_one = h.row_one;
        each_row = λ r u. node-true σ s (node r) (h.each_row r u);
        each_word = λ w m p. h.each-node (spelt w) (node-is σ s (spelt w) (m, p));
        one-row = h.one-row;
        length-is = h.length-is;
        link-is = h.link-is;
        inner-is = h.inner-is;
        outer-is = h.outer-is;
        edge-there = λ r c u l n. (h.edge-is r c u l).there (around-is σ s c (node r) n);
      }

  -- and has no edge to a word that does not stand
  pub shows-edges-end : Shows σ s T node → EdgesEnd σ s T node
  shows-edges-end h r c u l n = (h.edge-is r c u l).nowhere (not-true-false (member (around σ c (node r)) (palindromes σ s)) λ m. n (around-true σ s c (node r) m))

  -- and the two together say that it shows the eertree
  pub covers-shows : Covers σ s T node → EdgesEnd σ s T node → Shows σ s T node
  covers-shows h e =
      record {
        row_zero = h.row_zero;
        row_one = h.row_one;
        each_row = λ r u. node-is σ s (node r) (h.each_row r u);
        each-node = λ v m. each v (node-true σ s v m);
        one-row = h.one-row;
        length-is = h.length-is;
        link-is = h.link-is;
        inner-is = h.inner-is;
        outer-is = h.outer-is;
        edge-is = λ r c u l.
            record {
              there = λ m. h.edge-there r c u l (around-true σ s c (node r) m);
              nowhere = λ m. e r c u l λ n. false-not-true m (around-is σ s c (node r) n);
            };
      }
    where
      each : (v : Node) → NodeOf σ s v → (r : ℕ) × (T.used r ≡ true) × (node r ≡ v)
      each imaginary n = (0, h.row_zero.0, h.row_zero.1)
      each (spelt w) n = h.each_word w n.0 n.1

  -- ---- what a table covers by

  -- what the rows hold matters for used rows only
  pub covers-renamed : {node'' : ℕ → Node} → ((r : ℕ) → T.used r ≡ true → node'' r ≡ node r) → Covers σ s T node → Covers σ s T node''
  covers-renamed {node''} same h =
      record {
        row_zero = (h.row_zero.0, same 0 h.row_zero.0 ∙ h.row_zero.1);
        row_one = (h.row_one.0, same 1 h.row_one.0 ∙ h.row_one.1);
        each_row = λ r u. rw (same r u) (h.each_row r u);
        each_word = λ w m p. let e = h.each_word w m p in (e.0, e.1, same e.0 e.1 ∙ e.2);
        one-row = λ r q u v e. h.one-row r q u v (sym (same r u) ∙ e ∙ same q v);
        length-is = λ r u. rw (same r u) (h.length-is r u);
        link-is = λ r u. let e = h.link-is r u in (e.0, cc (e.1, same (T.link r) e.0, same r u));
        inner-is = λ r u. let e = h.inner-is r u in (e.0, cc (e.1, same (T.inner r) e.0, same r u));
        outer-is = λ r u b. cc (h.outer-is r u b, same r u, same (T.inner r) (h.inner-is r u).0);
        edge-there = λ r c u l n.
            let e = h.edge-there r c u l (subst (λ (v : Node). NodeOf σ s (spelt (around σ c v))) (same r u) n) in
            (e.0, cc (e.1, same (T.edge r c) e.0, same r u));
      }

  -- and the record only through its palindromes
  pub covers-same : {t : Word} → SamePalindromes σ s t → Covers σ s T node → Covers σ t T node
  covers-same {t} same h =
      record {
        row_zero = h.row_zero;
        row_one = h.row_one;
        each_row = λ r u. there (node r) (h.each_row r u);
        each_word = λ w m p. h.each_word w m ((same w m).1 p);
        one-row = h.one-row;
        length-is = h.length-is;
        link-is = h.link-is;
        inner-is = h.inner-is;
        outer-is = h.outer-is;
        edge-there = λ r c u l n. h.edge-there r c u l (n.0, (same (around σ c (node r)) n.0).1 n.1);
      }
    where
      there : (v : Node) → NodeOf σ s v → NodeOf σ t v
      there imaginary n = tt
      there (spelt w) n = (n.0, (same w n.0).0 n.1)

module _ (σ : ℕ → ℕ) (T : Table) (node : ℕ → Node) where
  -- the same of the edges
  pub edges-end-renamed : {s : Word} (node'' : ℕ → Node) → ((r : ℕ) → T.used r ≡ true → node'' r ≡ node r) → EdgesEnd σ s T node → EdgesEnd σ s T node''
  edges-end-renamed node'' same h r c u l n = h r c u l λ m. n (rw (same r u) m)

  pub edges-end-same : {s t : Word} → SamePalindromes σ s t → EdgesEnd σ s T node → EdgesEnd σ t T node
  edges-end-same same h r c u l n = h r c u l λ m. n (m.0, (same (around σ c (node r)) m.0).0 m.1)

module _ (σ : ℕ → ℕ) (inv : SelfInverse σ) where
  -- ---- the mirror

  -- a record and its mirror have the same palindromes
  pub same-mirror : (s : Word) → SamePalindromes σ s (mirror σ s)
  same-mirror s w m = stands-in-mirror σ inv m

  -- so a table covers a record exactly if it covers the record's mirror: the left end of the one is the right end of the other
  pub covers-mirror : {s : Word} {T : Table} {node : ℕ → Node} → Covers σ s T node → Covers σ (mirror σ s) T node
  covers-mirror {s} h = covers-same (same-mirror s) h
