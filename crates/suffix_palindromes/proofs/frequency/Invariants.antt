-- The replay is of the store, each row met has its mark, and the total is how often the wanted palindrome stands in the letters read.
use Rattle.std.proofs.Common.{◌≡◌, ℕ, take}
use Rattle.palindromes.specs.Word.{Word}
use Rattle.palindromes.specs.Place.{frequency}
use Rattle.palindromes.specs.Node.{spelling_of}
use Rattle.store.specs.Layout.{letters_in}
use Rattle.store.specs.Good.{node_in}
use Rattle.suffix_palindromes.specs.Handed.{ending_with, Handed}
use Rattle.suffix_palindromes.proofs.frequency.Given as goal

-- what the first k letters give
pub record CountedTo (b : Word) (wanted k : ℕ) (marks : Word) (total : ℕ) : Type 0 where
  pub marked : Handed b (ending_with (spelling_of (node_in b wanted))) k marks
  pub counted : total ≡ frequency (spelling_of (node_in b wanted)) (take k (letters_in b))

abbrev pub invariant-loop-last : goal.invariant-loop-last
invariant-loop-last l =
    (goal.iterator-loop-last).can_next l.last-iterator
    × (goal.iterator-loop-last).is_finite l.last-iterator
    × (l.last-iterator.store.now ≡ l.b)
    × CountedTo l.b l.row l.last-iterator.read l.marks l.total
