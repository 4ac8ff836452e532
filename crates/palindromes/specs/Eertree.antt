-- DEFINITIONS. The eertree of a record as a whole: which nodes there are and what each says, first with no row numbers, then as what a numbered
-- table must show. Nothing here is proved.
use Rattle.std.specs.Prelude.{ℕ, zero, suc, ◌≤◌, ◌≡◌, Bool, true, false, cond, List, [], ◌∷◌, map, ℤ}
use Rattle.std.proofs.Math.Option.{Option, none, some}
use Rattle.palindromes.specs.Word.{Word, alphabet, is_letter, member}
use Rattle.palindromes.specs.Record.{palindromes}
use Rattle.palindromes.specs.Node.{Node, imaginary, spelt, length_of, link_of, inner_of, around, is_node}

-- the nodes of the eertree: both roots, and the mirror repeats of the record in the order of their first ends. 001 section 2.2; 000 section 2.4
unfoldable pub nodes : (ℕ → ℕ) → Word → List Node
nodes σ s = imaginary ∷ spelt [] ∷ map spelt (palindromes σ s)

-- the edge of a node by a letter: to the word around the node, where that is a mirror repeat of the record. 001 section 2.2 "to"
unfoldable pub edge_of : (ℕ → ℕ) → Word → Node → ℕ → Option Word
edge_of σ s v c = cond (member (around σ c v) (palindromes σ s)) (some (around σ c v)) none

-- all that the eertree says of a node: 01 "the table", a row without its number
pub record Entry : Type 0 where
  pub node : Node
  pub length : ℤ
  pub link : Node
  pub inner : Node
  pub edges : List (Option Word)

unfoldable pub entry_of : (ℕ → ℕ) → Word → Node → Entry
entry_of σ s v = record { node = v; length = length_of v; link = link_of σ v; inner = inner_of v; edges = map (edge_of σ s v) alphabet }

-- the eertree of a record, row numbers apart
unfoldable pub eertree : (ℕ → ℕ) → Word → List Entry
eertree σ s = map (entry_of σ s) (nodes σ s)

-- a table of numbered rows, each used or free: what a store shows of its rows. The outer letter of a repeat is its last
pub record Table : Type 0 where
  pub used : ℕ → Bool
  pub length : ℕ → ℤ
  pub link : ℕ → ℕ
  pub inner : ℕ → ℕ
  pub outer : ℕ → ℕ
  pub edge : ℕ → ℕ → ℕ

-- what a row spells: the partner of its outer letter, its inner row and its outer letter. Rows 0 and 1 are the roots. The first number bounds how deep
-- the inner rows are followed
unfoldable pub node_from : (ℕ → ℕ) → (inner outer : ℕ → ℕ) → ℕ → ℕ → Node
node_from σ inner outer zero zero = imaginary
node_from σ inner outer zero (suc zero) = spelt []
node_from σ inner outer zero (suc (suc r)) = imaginary
node_from σ inner outer (suc depth) zero = imaginary
node_from σ inner outer (suc depth) (suc zero) = spelt []
node_from σ inner outer (suc depth) (suc (suc r)) = spelt (around σ (outer (suc (suc r))) (node_from σ inner outer depth (inner (suc (suc r)))))

-- an edge leads to the row of the word around its node, and is 0 where the record has no such repeat
pub record EdgeIs (σ : ℕ → ℕ) (s : Word) (T : Table) (node : ℕ → Node) (r c : ℕ) : Type 0 where
  pub there : member (around σ c (node r)) (palindromes σ s) ≡ true → (T.used (T.edge r c) ≡ true) × (node (T.edge r c) ≡ spelt (around σ c (node r)))
  pub nowhere : member (around σ c (node r)) (palindromes σ s) ≡ false → T.edge r c ≡ 0

-- the table is the eertree of the record: `node` says what each used row holds, and every field is then the row of what the eertree says.
-- 01 "each non-empty mirror repeat has one row, each used row but the two roots is one"
pub record Shows (σ : ℕ → ℕ) (s : Word) (T : Table) (node : ℕ → Node) : Type 0 where
  pub row_zero : (T.used 0 ≡ true) × (node 0 ≡ imaginary)
  pub row_one : (T.used 1 ≡ true) × (node 1 ≡ spelt [])
  pub each_row : (r : ℕ) → T.used r ≡ true → is_node σ s (node r) ≡ true
  pub each-node : (v : Node) → is_node σ s v ≡ true → (r : ℕ) × (T.used r ≡ true) × (node r ≡ v)
  pub one-row : (r q : ℕ) → T.used r ≡ true → T.used q ≡ true → node r ≡ node q → r ≡ q
  pub length-is : (r : ℕ) → T.used r ≡ true → T.length r ≡ length_of (node r)
  pub link-is : (r : ℕ) → T.used r ≡ true → (T.used (T.link r) ≡ true) × (node (T.link r) ≡ link_of σ (node r))
  pub inner-is : (r : ℕ) → T.used r ≡ true → (T.used (T.inner r) ≡ true) × (node (T.inner r) ≡ inner_of (node r))
  pub outer-is : (r : ℕ) → T.used r ≡ true → 2 ≤ r → node r ≡ spelt (around σ (T.outer r) (node (T.inner r)))
  pub edge-is : (r c : ℕ) → T.used r ≡ true → is_letter c ≡ true → EdgeIs σ s T node r c
