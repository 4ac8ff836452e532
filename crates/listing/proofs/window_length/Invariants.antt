-- The replay is of the store, the marks are those of the letters read, and the total is the length of the window's lines among theirs, of at most 45 bytes
-- a letter.
use Rattle.std.proofs.Common.{◌≡◌, ℕ, ◌+◌, ◌*◌, ◌≤◌}
use Rattle.palindromes.specs.Word.{Word}
use Rattle.listing.specs.Listing.{length_below}
use Rattle.listing.specs.Reading.{ReadTo}
use Rattle.listing.proofs.window_length.Given as goal

-- what the first k letters give, the longest palindrome that ends them being the row's
pub record AddedTo (b name : Word) (from k row : ℕ) (marks : Word) (total : ℕ) : Type 0 where
  pub reads : ReadTo b from k row marks
  pub total-is : total + length_below b name from k ≡ length_below b name (from + 344) k
  pub small : total ≤ 45 * k

abbrev pub invariant-loop-k : goal.invariant-loop-k
invariant-loop-k l =
    (goal.iterator-loop-k).can_next l.k-iterator
    × (goal.iterator-loop-k).is_finite l.k-iterator
    × (l.k-iterator.store.now ≡ l.b)
    × AddedTo l.b l.name l.from l.k-iterator.read l.k-iterator.row l.marks l.total
