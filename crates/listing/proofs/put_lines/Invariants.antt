-- The replay is of the store, the marks are those of the letters read, the list of those is written, and what is stored over the marks does not depend on
-- them.
use Rattle.std.proofs.Common.{◌≡◌, ℕ, length}
use Rattle.std.proofs.lemmas.List.Edits.{sets}
use Rattle.palindromes.specs.Word.{Word}
use Rattle.palindromes.specs.Refusal.{scratch_size}
use Rattle.store.specs.Layout.{size_in}
use Rattle.listing.specs.Reading.{SameBehind, ReadTo}
use Rattle.listing.proofs.Lines.{listed}
use Rattle.listing.proofs.put_lines.Given as goal

-- what the first k letters give, the longest palindrome that ends them being the row's, from the marks and the buffer that were there
pub record ListedTo (b name unmarked blank : Word) (k row : ℕ) (marks out : Word) (at : ℕ) : Type 0 where
  pub reads : ReadTo b 0 k row marks
  pub place : at ≡ length (listed b name k)
  pub written : out ≡ sets blank 0 (listed b name k)
  pub kept : SameBehind (scratch_size (size_in b)) unmarked marks

abbrev pub invariant-loop-k : goal.invariant-loop-k
invariant-loop-k l =
    (goal.iterator-loop-k).can_next l.k-iterator
    × (goal.iterator-loop-k).is_finite l.k-iterator
    × (l.k-iterator.store.now ≡ l.b)
    × ListedTo l.b l.name l.fn.marks l.fn.out l.k-iterator.read l.k-iterator.row l.marks l.out l.at
