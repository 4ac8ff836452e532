-- DEFINITIONS. A table of numbered rows, read with each row number replaced by what that row holds, is the eertree of a record: demand 2 in one sentence.
-- Nothing here is proved.
use Rattle.std.specs.Prelude.{ℕ, ◌≡◌, true, cond, eqb}
use mathlib.Core.List.{List, [], ◌∷◌, map, Memᴰ}
use Rattle.std.proofs.Math.Option.{Option, none, some}
use Rattle.palindromes.specs.Word.{Word, alphabet}
use Rattle.palindromes.specs.Node.{Node, spelling_of}
use Rattle.palindromes.specs.Eertree.{Entry, eertree, Table}

-- what an edge leads to: row 0 stands for none
unfoldable pub edge_held : (ℕ → Node) → ℕ → Option Word
edge_held node q = cond (eqb q 0) none (some (spelling_of (node q)))

-- row r of the table, `node` being what each row holds
unfoldable pub entry_at : Table → (ℕ → Node) → ℕ → Entry
entry_at T node r =
    record { node = node r; length = T.length r; link = node (T.link r); inner = node (T.inner r); edges = map (λ c. edge_held node (T.edge r c)) alphabet }

-- no element of the list stands in it again
abbrev pub NoneTwice : List Entry → Type 0
NoneTwice [] = Unit {0}
NoneTwice (x ∷ xs) = (Memᴰ x xs → ⊥) × NoneTwice xs

-- the used rows are exactly the entries of the record's eertree, each once: 01 "each non-empty mirror repeat has one row, each used row but the two roots
-- is one", with its length, link, inner row and edges
pub record IsEertree (σ : ℕ → ℕ) (s : Word) (T : Table) (node : ℕ → Node) : Type 0 where
  pub each_row : (r : ℕ) → T.used r ≡ true → Memᴰ (entry_at T node r) (eertree σ s)
  pub each-entry : (x : Entry) → Memᴰ x (eertree σ s) → (r : ℕ) × (T.used r ≡ true) × (entry_at T node r ≡ x)
  pub one-row : (r q : ℕ) → T.used r ≡ true → T.used q ≡ true → entry_at T node r ≡ entry_at T node q → r ≡ q
  pub entries-once : NoneTwice (eertree σ s)
