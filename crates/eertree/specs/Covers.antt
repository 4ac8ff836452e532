-- What contracts inside the library say of a table of which only some rows are read: it shows the record's eertree, said with propositions in place of tests, and an edge
-- may lead to a row that is not used. `EdgesEnd` is the half that is missing to `Shows`. Here the empty word counts as a palindrome.
use Rattle.std.specs.Prelude.{ℕ, ◌≤◌, ◌≡◌, Bool, true, []}
use Rattle.palindromes.specs.Word.{Word, is_letter}
use Rattle.palindromes.specs.Palindrome.{Symmetric}
use Rattle.palindromes.specs.Place.{Stands}
use Rattle.palindromes.specs.Node.{Node, imaginary, spelt, length_of, link_of, inner_of, around}
use Rattle.palindromes.specs.Eertree.{Table}

-- a node of the eertree of s: a root, or a symmetric word that stands in s, the empty word among them
abbrev pub NodeOf : (ℕ → ℕ) → Word → Node → Type 0
NodeOf σ s imaginary = Unit {0}
NodeOf σ s (spelt w) = Symmetric σ w × Stands w s

-- the table is the eertree of the record, but for edges where the record has no palindrome
pub record Covers (σ : ℕ → ℕ) (s : Word) (T : Table) (node : ℕ → Node) : Type 0 where
  pub row_zero : (T.used 0 ≡ true) × (node 0 ≡ imaginary)
  pub row_one : (T.used 1 ≡ true) × (node 1 ≡ spelt [])
  pub each_row : (r : ℕ) → T.used r ≡ true → NodeOf σ s (node r)
  pub each_word : (w : Word) → Symmetric σ w → Stands w s → (r : ℕ) × (T.used r ≡ true) × (node r ≡ spelt w)
  pub one-row : (r q : ℕ) → T.used r ≡ true → T.used q ≡ true → node r ≡ node q → r ≡ q
  pub length-is : (r : ℕ) → T.used r ≡ true → T.length r ≡ length_of (node r)
  pub link-is : (r : ℕ) → T.used r ≡ true → (T.used (T.link r) ≡ true) × (node (T.link r) ≡ link_of σ (node r))
  pub inner-is : (r : ℕ) → T.used r ≡ true → (T.used (T.inner r) ≡ true) × (node (T.inner r) ≡ inner_of (node r))
  pub outer-is : (r : ℕ) → T.used r ≡ true → 2 ≤ r → node r ≡ spelt (around σ (T.outer r) (node (T.inner r)))
  pub edge-there :
      (r c : ℕ) → T.used r ≡ true → is_letter c ≡ true → NodeOf σ s (spelt (around σ c (node r)))
      → (T.used (T.edge r c) ≡ true) × (node (T.edge r c) ≡ spelt (around σ c (node r)))

-- no edge leads to a word that does not stand
abbrev pub EdgesEnd : (ℕ → ℕ) → Word → Table → (ℕ → Node) → Type 0
EdgesEnd σ s T node = (r c : ℕ) → T.used r ≡ true → is_letter c ≡ true → (NodeOf σ s (spelt (around σ c (node r))) → ⊥) → T.edge r c ≡ 0

-- the table with these rows used and no others
abbrev pub with_used : (ℕ → Bool) → Table → Table
with_used used T = record { used = used; length = T.length; link = T.link; inner = T.inner; outer = T.outer; edge = T.edge }
