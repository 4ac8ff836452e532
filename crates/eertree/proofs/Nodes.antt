-- What a row spells through its inner rows is what it holds, if the inner rows are followed as deep as the record is long. So what the rows of a table hold need not be stored
-- or guessed: it is read off the inner rows and the outer letters. Rests on `Covers` and on the fall of the inner rows in `Rows`.
use Prim.Native.Nat.{ℕ, zero, suc, ◌≤◌}
use native.Mathlib.Omega.{arith}
use mathlib.Core.Path.{◌≡◌, refl, sym, ap}
use mathlib.Core.Bool.{true}
use mathlib.Core.List.{[]}
use lib.ListN.{length}
use Rattle.palindromes.specs.Word.{Word}
use Rattle.palindromes.specs.Node.{Node, imaginary, spelt, around}
use Rattle.palindromes.specs.Eertree.{Table, node_from}
use Rattle.palindromes.proofs.Words.{no-letters}
use Rattle.eertree.specs.Covers.{Covers}
use Rattle.eertree.proofs.Rows.{reach_of, row-reach-most, inner-falls, word_row}

-- at any depth rows 0 and 1 spell the roots
pub root-zero : (σ : ℕ → ℕ) (inner outer : ℕ → ℕ) (depth : ℕ) → node_from σ inner outer depth 0 ≡ imaginary
unfolding node_from
root-zero σ inner outer zero = refl
root-zero σ inner outer (suc depth) = refl

pub root-one : (σ : ℕ → ℕ) (inner outer : ℕ → ℕ) (depth : ℕ) → node_from σ inner outer depth 1 ≡ spelt []
unfolding node_from
root-one σ inner outer zero = refl
root-one σ inner outer (suc depth) = refl

-- a row that is no root spells the word around its inner row by its outer letter
pub node-from-step : (σ : ℕ → ℕ) (inner outer : ℕ → ℕ) (depth r : ℕ) → 2 ≤ r → node_from σ inner outer (suc depth) r ≡ spelt (around σ (outer r) (node_from σ inner outer depth (inner r)))
unfolding node_from
node-from-step σ inner outer depth zero b = absurd (omega arith)
node-from-step σ inner outer depth (suc zero) b = absurd (omega arith)
node-from-step σ inner outer depth (suc (suc r)) b = refl

module _ {σ : ℕ → ℕ} {s : Word} {T : Table} {node : ℕ → Node} (h : Covers σ s T node) where
  -- a depth that the row's own reach tells is enough
  node-from-reach : (depth r : ℕ) → T.used r ≡ true → reach_of (node r) ≤ suc depth → node_from σ T.inner T.outer depth r ≡ node r
  unfolding node_from
  node-from-reach zero zero u l = sym h.row_zero.1
  node-from-reach zero (suc zero) u l = sym h.row_one.1
  node-from-reach zero (suc (suc r)) u l =
      let w = word_row h (suc (suc r)) u (omega arith) in
      absurd (w.2.non-empty (no-letters w.0 (omega (arith, ap reach_of w.1))))
  node-from-reach (suc depth) zero u l = sym h.row_zero.1
  node-from-reach (suc depth) (suc zero) u l = sym h.row_one.1
  node-from-reach (suc depth) (suc (suc r)) u l =
      let i = T.inner (suc (suc r)) in
      cc (
        node-from-step σ T.inner T.outer depth (suc (suc r)) (omega arith),
        node-from-reach depth i (h.inner-is (suc (suc r)) u).0 (omega (arith, inner-falls h (suc (suc r)) u λ z. omega arith)),
        h.outer-is (suc (suc r)) u (omega arith),
      )

  -- every row spells what it holds, at any depth from the record's length on
  pub node-from : (depth r : ℕ) → T.used r ≡ true → length s ≤ depth → node_from σ T.inner T.outer depth r ≡ node r
  node-from depth r u l = node-from-reach depth r u (omega (arith, row-reach-most h r u))
